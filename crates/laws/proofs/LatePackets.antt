-- A packet of a closed call: until sixteen further lines have been closed, nobody has its identifier; with the sixteenth it is free again.
-- Assumes nothing.
use Prim.Native.Nat.{ℕ, ◌≤◌, ◌<◌}
use mathlib.Core.Path.{◌≡◌, refl, sym, ap, subst, ◌∙◌}
use mathlib.Core.Bool.{true, false, not}
use mathlib.Core.List.{List, ◌∷◌}
use native.Mathlib.Omega.{arith}
use native.Mathlib.Decide.{ℕ_discrete}
use native.Mathlib.Nat.{zero-add}
use lib.Dec.{eqb}
use lib.ListN.{length, drop, length-take}
use borrow.Author.Tests.{eq-eqb, ne_eqb, le-leb, not-true}
use Rattle.std.specs.Prelude.{Option, Some, None, Ok, Err, is_some}
use Rattle.ground.specs.Answer.{refused}
use Rattle.ground.specs.Refusal.{verdict}
use Rattle.ground.specs.declared.Refusal.TheVariants.{NOLINE}
use Rattle.ground.proofs.Picks.{both_true, clash}
use Rattle.ground.proofs.Either.{or_true}
use Rattle.ground.proofs.Verdicts.{passed, passes}
use Rattle.packet.specs.Read.{head_at, head_tests}
use Rattle.owed.specs.Owed.{member, no_twice}
use Rattle.owed.proofs.Lists.{member_append, member_last}
use Rattle.line.specs.Fit.{settings_fit}
use Rattle.line.specs.Line.{is_open}
use Rattle.line.specs.declared.Line.{Line}
use Rattle.line.specs.declared.Settings.{Settings}
use Rattle.book.specs.Book.{identifier_of, line_of, open_in, resting_of, owner_from, owner_of, taken}
use Rattle.book.specs.Closing.{closed_at}
use Rattle.book.specs.Parts.{store_length}
use Rattle.book.specs.Shape.{BookShaped}
use Rattle.book.specs.declared.Book.{Book}
use Rattle.book.proofs.Facts.{book_ok}
use Rattle.book.proofs.OneOwner.{open_somebody, whose_at, never_resting}
use Rattle.book.proofs.OtherLines.{closed_same, closed_other}
use Rattle.calls.specs.Call as call
use Rattle.calls.specs.Order.{line_for, packet_line}
use Rattle.calls.specs.Stages.{tests, fit_book, line_number, open_tests, close_tests, address_tests, arrival_tests}
use Rattle.calls.specs.Result.{result_with, result_of}
use Rattle.calls.proofs.FirstTests.{line_passed}
use Rattle.calls.proofs.OrderStages.{in_stages}
use Rattle.calls.proofs.Results.{did_refused}
use Rattle.laws.specs.Reached.{Turn, turned, reach, closes, closings}
use Rattle.laws.proofs.Keeps.{Passes, every_call_keeps}
use Rattle.laws.proofs.Identifiers.{once_behind, reach_keeps}
use Rattle.laws.proofs.LineFor.{pass_on}
use Rattle.laws.proofs.OwnLine.{accepted_passes, passes_accepted}
use Rattle.laws.proofs.Resting.{RestsBefore, rests_there, just_closed, put_out, closing_passes, closing_leaves, closing_open, closing_rests, rests_on}

-- A book that passes, and an identifier that rests in it.
module _ (b : Book) (k : Passes b) (x : ℕ) (rest : member x (resting_of b) ≡ true) where
  -- no open line has it
  not_open : (j : ℕ) → j < 4 → is_open (line_of b j) ≡ true → (line_of b j).identifier ≡ x → ⊥
  not_open j h o e = clash (sym (never_resting b k.0 k.1 j h o) ∙ ap (λ (y : ℕ). member y (resting_of b)) e ∙ rest)

  nobody : owner_of b x ≡ None
  nobody = go (owner_of b x) refl
    where
      go : (w : Option ℕ) → owner_of b x ≡ w → w ≡ None
      go None e = refl
      go (Some j) e = let w = whose_at b x j e in absurd (not_open j (omega (arith, w.0, k.1.lines)) w.1 w.2)

  -- a packet with it is NOLINE
  resting_noline : (s : List ℕ) → (head_at s).identifier ≡ x → verdict (head_tests s) ≡ Ok tt → (store out : List ℕ) → store_length b ≤ length store
      → result_of (call.arrival s) b store out ≡ result_with (refused NOLINE) b store out
  unfolding tests arrival_tests address_tests
  resting_noline s e plain store out long =
      let h = passed (head_tests s) plain in
      let none : packet_line b s ≡ None = ap (owner_of b) e ∙ nobody in
      let v : verdict (tests (call.arrival s) b (length store) (length out)) ≡ Err NOLINE = rw (k.0, le-leb _ _ long, h.0, h.1.0, none) in
      did_refused (call.arrival s) b store out (in_stages (call.arrival s) b (length store) (length out) ∙ v)

  -- and no line can be opened with it
  resting_taken : (j : ℕ) (s : Settings) (time : ℕ) (store out : List ℕ) → s.identifier ≡ x → (result_of (call.opening j s time) b store out).answer.number ≡ 0 → ⊥
  unfolding tests open_tests
  resting_taken j s time store out e z =
      let p = (line_passed b j (open_tests b j s) (accepted_passes (call.opening j s time) b store out z)).1 in
      let free : taken b s.identifier ≡ false = not-true _ (passed (open_tests b j s) p).1.1.0 in
      let there : taken b x ≡ true = member_append x (open_in b.lines) (resting_of b) ∙ rw rest (or_true (member x (open_in b.lines))) in
      clash (sym free ∙ ap (taken b) e ∙ there)

-- Line i is closed; `then` is the book that its closing leaves, and x the identifier that it had.
module _ (b : Book) (shaped : BookShaped b) (i : ℕ) (store out : List ℕ) (closed : (result_of (call.closing i) b store out).answer.number ≡ 0) where
  abbrev then : Book
  then = (result_of (call.closing i) b store out).book

  abbrev x : ℕ
  x = (line_of b i).identifier

  abbrev its : Turn
  its = record { call = call.closing i; store = store; out = out }

  its_closes : closes b its ≡ true
  its_closes = eq-eqb _ 0 closed

  keeps : (ts : List Turn) → Passes (reach then ts)
  unfolding tests
  keeps ts =
      let p = accepted_passes (call.closing i) b store out closed in
      let k = every_call_keeps (call.closing i) b store out (line_passed b i (close_tests (line_of b i) (length out)) p).0.book shaped in
      reach_keeps ts then k.0 k.1

  at_end : RestsBefore x 0 (resting_of then)
  unfolding line_for
  at_end = subst (RestsBefore x 0) (sym (closing_rests b its its_closes)) (just_closed x (resting_of b))

  since : (ts : List Turn) → closings then ts < 16 → RestsBefore x (closings then ts) (resting_of (reach then ts))
  since ts few = subst (λ (n : ℕ). RestsBefore x n (resting_of (reach then ts))) (zero-add (closings then ts)) (rests_on ts then x 0 at_end (omega (arith, few)))

  module _ (ts : List Turn) (few : closings then ts < 16) where
    still : member x (resting_of (reach then ts)) ≡ true
    still = rests_there (since ts few)

    -- THE PROMISE: until sixteen further lines were closed, whatever is called meanwhile, a packet with the identifier of the closed line is NOLINE and changes nothing.
    pub late_packet_refused : (s : List ℕ) → (head_at s).identifier ≡ x → verdict (head_tests s) ≡ Ok tt → (lent written : List ℕ) → store_length (reach then ts) ≤ length lent
        → result_of (call.arrival s) (reach then ts) lent written ≡ result_with (refused NOLINE) (reach then ts) lent written
    late_packet_refused = resting_noline (reach then ts) (keeps ts) x still

    -- and no line is opened with it
    pub not_opened_again : (j : ℕ) (s : Settings) (time : ℕ) (lent written : List ℕ) → s.identifier ≡ x → (result_of (call.opening j s time) (reach then ts) lent written).answer.number ≡ 0 → ⊥
    not_opened_again = resting_taken (reach then ts) (keeps ts) x still

  -- The sixteenth closing after its own.
  module _ (ts : List Turn) (many : closings then ts ≡ 15) (t : Turn) (e : closes (reach then ts) t ≡ true) where
    abbrev before : Book
    before = reach then ts

    abbrev j : ℕ
    j = line_for t.call before

    abbrev after : Book
    after = (turned before t).book

    abbrev resting : List ℕ
    resting = resting_of before

    rest : RestsBefore x 15 resting
    rest = subst (λ (n : ℕ). RestsBefore x n resting) many (since ts (omega (arith, many)))

    not_there : (n : ℕ) → n < 4 → is_open (line_of before n) ≡ true → (line_of before n).identifier ≡ x → ⊥
    not_there = not_open before (keeps ts) x (rests_there rest)

    leaves : after ≡ closed_at before j
    leaves = closing_leaves before t e

    after_passes : Passes after
    after_passes = every_call_keeps t.call before t.store t.out (keeps ts).0 (keeps ts).1

    -- it is on no open line
    not_after : (n : ℕ) → n < 4 → is_open (line_of after n) ≡ true → (line_of after n).identifier ≡ x → ⊥
    not_after n h o q = go (ℕ_discrete j n)
      where
        shut : is_open (line_of after j) ≡ false
        shut = ap (λ (a : Book). is_open (line_of a j)) leaves ∙ ap is_open (closed_same before j)

        go : Dec (j ≡ n) → ⊥
        go (yes z) = clash (sym shut ∙ ap (λ (m : ℕ). is_open (line_of after m)) z ∙ o)
        go (no z) =
            let same : line_of after n ≡ line_of before n = ap (λ (a : Book). line_of a n) leaves ∙ closed_other before j n z in
            not_there n h (ap is_open (sym same) ∙ o) (ap (λ (l : Line). l.identifier) (sym same) ∙ q)

    off : owner_of after x ≡ None
    off = go (owner_of after x) refl
      where
        go : (w : Option ℕ) → owner_of after x ≡ w → w ≡ None
        go None q = refl
        go (Some n) q = let w = whose_at after x n q in absurd (not_after n (omega (arith, w.0, after_passes.1.lines)) w.1 w.2)

    -- and it no longer rests
    gone : member x (resting_of after) ≡ false
    unfolding no_twice
    gone =
        let y = (line_of before j).identifier in
        let ok = book_ok before (keeps ts).0 in
        let few : length resting ≤ 16 = omega (arith, length-take before.rested before.resting, ok.few) in
        let p = put_out rest few y in
        let once : no_twice (x ∷ drop 1 resting) ≡ true = subst (λ (l : List ℕ). no_twice l ≡ true) p.0 (once_behind (open_in before.lines) resting ok.once) in
        let none : member x (drop 1 resting) ≡ false = not-true _ (both_true (not (member x (drop 1 resting))) (no_twice (drop 1 resting)) once).0 in
        let small = (pass_on t.call before (length t.store) (length t.out) (closing_passes before t e) (keeps ts).1).number in
        let other : eqb y x ≡ false = ne_eqb y x (not_there j small (closing_open before t e)) in
        ap (member x) (closing_rests before t e ∙ p.1) ∙ member_last x y (drop 1 resting) ∙ rw (none, other)

    not_open_after : member x (open_in after.lines) ≡ false
    unfolding open_in owner_from
    not_open_after = open_somebody identifier_of 0 after.lines x ∙ ap is_some off

    -- THE PROMISE: with the sixteenth closing after its own the identifier is free, and a closed line can be opened with it.
    pub free_with_sixteenth : taken after x ≡ false
    free_with_sixteenth = member_append x (open_in after.lines) (resting_of after) ∙ rw (not_open_after, gone)

    pub opened_again : (n : ℕ) → n < 4 → is_open (line_of after n) ≡ false → (s : Settings) → settings_fit s ≡ true → s.identifier ≡ x → (time : ℕ) (lent written : List ℕ)
        → (result_of (call.opening n s time) after lent written).answer.number ≡ 0
    unfolding tests open_tests
    opened_again n h shut s fit named time lent written =
        passes_accepted (call.opening n s time) after lent written
        (passes (fit_book after ∷ line_number n ∷ open_tests after n s)
        (after_passes.0, (le-leb n 3 (omega arith), (ap not shut, (fit, (ap not (ap (taken after) named ∙ free_with_sixteenth), tt))))))
