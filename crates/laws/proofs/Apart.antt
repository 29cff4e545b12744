-- A call that is not for a line leaves it alone; one that is leaves its identifier, as long as the line is open. A packet reaches the line that has its
-- identifier, and no other.
-- Assumes nothing.
use Prim.Native.Nat.{ℕ, ◌<◌}
use mathlib.Core.Path.{◌≡◌, refl, sym, ap, subst, ◌∙◌}
use mathlib.Core.Bool.{true, false}
use mathlib.Core.List.{List, [], ◌∷◌}
use native.Mathlib.Omega.{arith}
use lib.Dec.{eqb}
use lib.ListN.{length}
use borrow.Author.Tests.{eqb-true, eqb-false}
use Rattle.std.specs.Prelude.{Ok, Err}
use Rattle.ground.specs.Answer.{accepted}
use Rattle.ground.specs.Refusal.{Verdict, verdict}
use Rattle.ground.proofs.Picks.{clash}
use Rattle.ground.proofs.Either.{by_test}
use Rattle.packet.specs.Read.{head_at}
use Rattle.mode.specs.Acts.{outcome}
use Rattle.line.specs.Line.{is_open}
use Rattle.line.specs.declared.Line.{Line}
use Rattle.line.proofs.Same.{stepped_opening}
use Rattle.relay.proofs.Keeps.{took_line_same, handed_line_same}
use Rattle.writing.proofs.Keeps.{wrote_line_same}
use Rattle.arriving.proofs.Stays.{arrived_stays}
use Rattle.book.specs.Book.{line_of, book_fits, owner_of}
use Rattle.book.specs.Parts.{part_of}
use Rattle.book.specs.Shape.{BookShaped}
use Rattle.book.specs.declared.Book.{Book}
use Rattle.book.proofs.OneOwner.{whose_at, whose_found, one_owner}
use Rattle.calls.specs.Call.{Call}
use Rattle.calls.specs.Call as call
use Rattle.calls.specs.Order.{line_for, packet_line, owner_line}
use Rattle.calls.specs.Stages.{tests}
use Rattle.calls.specs.Result.{CallResult, result_of, effect}
use Rattle.calls.proofs.OrderStages.{in_stages}
use Rattle.calls.proofs.Results.{did_refused}
use Rattle.incoming.proofs.Passing.{addressed}
use Rattle.laws.specs.LineCalls.{for_line}
use Rattle.laws.proofs.LineFor.{opens}
use Rattle.laws.proofs.Others.{others_stay, parts_stay, part_where}
use Rattle.laws.proofs.OwnLine.{accepted_passes, leaves_at}
use Rattle.laws.proofs.Alone.{OpenAt, line_for_lem, own_tests, own_verdict}

-- line i has the record that it had, and its part of the store holds what it held
pub record Stays (i : ℕ) (b : Book) (store : List ℕ) (d : CallResult) : Type 0 where
  pub line : line_of d.book i ≡ line_of b i
  pub part : part_of d.book i d.store ≡ part_of b i store

-- a call that passes its tests only for another line leaves line i
pub stays_unless : (k : Call) (b : Book) (store out : List ℕ) → BookShaped b → (i : ℕ) → (verdict (tests k b (length store) (length out)) ≡ Ok tt → line_for k b ≡ i → ⊥) → Stays i b store (result_of k b store out)
stays_unless k b store out shaped i other = go (verdict (tests k b (length store) (length out))) refl
  where
    go : (v : Verdict) → verdict (tests k b (length store) (length out)) ≡ v → Stays i b store (result_of k b store out)
    go (Ok tt) e =
        record { line = others_stay k b store out i (other e); part = part_where k b store out i (result_of k b store out).store ∙ parts_stay k b store out shaped i (other e) }
    go (Err r) e = rw (did_refused k b store out (in_stages k b (length store) (length out) ∙ e)) (record { line = refl; part = refl })

-- A line that has the identifier, if it is open.
module _ (b : Book) (i identifier : ℕ) (has : is_open (line_of b i) ≡ true → (line_of b i).identifier ≡ identifier) where
  -- a call that passes its tests and is not for line i is for another
  not_for : (k : Call) (n space : ℕ) → verdict (tests k b n space) ≡ Ok tt → for_line i identifier k ≡ false → line_for k b ≡ i → ⊥
  unfolding line_for tests
  not_for (call.opening j s time) n space e f q = eqb-false j i f q
  not_for (call.closing j) n space e f q = eqb-false j i f q
  not_for (call.mode j a) n space e f q = eqb-false j i f q
  not_for (call.taking j channel message) n space e f q = eqb-false j i f q
  not_for (call.sending j channel rank) n space e f q = eqb-false j i f q
  not_for (call.empty j channel) n space e f q = eqb-false j i f q
  not_for (call.arrival s) n space e f q =
      let found = whose_at b (head_at s).identifier (owner_line (packet_line b s)) (addressed b n s e).owner in
      let own = subst (λ (j : ℕ). (is_open (line_of b j) ≡ true) × ((line_of b j).identifier ≡ (head_at s).identifier)) q (found.1, found.2) in
      eqb-false _ _ f (sym own.1 ∙ has own.0)
  not_for (call.hand_out j channel) n space e f q = eqb-false j i f q
  not_for (call.report j channel) n space e f q = eqb-false j i f q

  -- THE PROMISE: whatever the call and the answer, a line stays that the call does not name and whose identifier the packet does not have.
  pub elsewhere_stays : (k : Call) (store out : List ℕ) → BookShaped b → for_line i identifier k ≡ false → Stays i b store (result_of k b store out)
  elsewhere_stays k store out shaped f = stays_unless k b store out shaped i (λ e. not_for k (length store) (length out) e f)

-- what leaves an open line open leaves its identifier
effect_identifier : (k : Call) (i : ℕ) (l : Line) (start : ℕ) (store out : List ℕ) → opens k ≡ false → is_open (effect k i l start store out).line ≡ true
    → (effect k i l start store out).line.identifier ≡ l.identifier
unfolding effect
effect_identifier (call.opening j s time) i l start store out n o = clash (sym n)
effect_identifier (call.closing j) i l start store out n o = clash o
effect_identifier (call.mode j a) i l start store out n o = let w = outcome l.modes a in (stepped_opening l w.modes w.channels).identifier
effect_identifier (call.taking j channel message) i l start store out n o = (took_line_same l channel (length message)).opening.identifier
effect_identifier (call.sending j channel rank) i l start store out n o = (wrote_line_same l).opening.identifier
effect_identifier (call.empty j channel) i l start store out n o = (wrote_line_same l).opening.identifier
effect_identifier (call.arrival s) i l start store out n o = (arrived_stays l s).opening.identifier
effect_identifier (call.hand_out j channel) i l start store out n o = (handed_line_same l channel).opening.identifier
effect_identifier (call.report j channel) i l start store out n o = refl

-- an open line is not opened again
opens_none : (k : Call) (l : Line) (space : ℕ) → verdict (own_tests k l space) ≡ Ok tt → opens k ≡ false
unfolding own_tests
opens_none (call.opening j s time) l space e = absurd (let z : ◌≡◌ {A = ℕ} 0 1 = cc in omega arith)
opens_none (call.closing j) l space e = refl
opens_none (call.mode j a) l space e = refl
opens_none (call.taking j channel message) l space e = refl
opens_none (call.sending j channel rank) l space e = refl
opens_none (call.empty j channel) l space e = refl
opens_none (call.arrival s) l space e = refl
opens_none (call.hand_out j channel) l space e = refl
opens_none (call.report j channel) l space e = refl

-- so whatever is called, an open line that is still open has the identifier that it had
pub identifier_stays : {b : Book} {store : List ℕ} {i : ℕ} → OpenAt b store i → (k : Call) (out : List ℕ) → is_open (line_of (result_of k b store out).book i) ≡ true
    → (line_of (result_of k b store out).book i).identifier ≡ (line_of b i).identifier
identifier_stays {b} {store} {i} o k out still =
    by_test (for_line i (line_of b i).identifier k)
    (λ e. go e (verdict (own_tests k (line_of b i) (length out))) refl)
    (λ e. ap (λ (l : Line). l.identifier) (elsewhere_stays b i (line_of b i).identifier (λ _. refl) k store out o.shaped e).line)
  where
    go : for_line i (line_of b i).identifier k ≡ true → (v : Verdict) → verdict (own_tests k (line_of b i) (length out)) ≡ v → (line_of (result_of k b store out).book i).identifier ≡ (line_of b i).identifier
    go e (Ok tt) v =
        let d = leaves_at k b store out (line_for_lem o k e) (own_verdict o k e (length out) ∙ v) o.shaped in
        ap (λ (l : Line). l.identifier) d.line
        ∙ effect_identifier k i (line_of b i) _ store out (opens_none k (line_of b i) (length out) v) (ap is_open (sym d.line) ∙ still)
    go e (Err r) v = ap (λ (d : CallResult). (line_of d.book i).identifier) (did_refused k b store out (in_stages k b (length store) (length out) ∙ own_verdict o k e (length out) ∙ v))

-- While line i is open: a packet that has its identifier, whatever the book.
module _ (b : Book) (shaped : BookShaped b) (i : ℕ) (small : i < 4) (opened : is_open (line_of b i) ≡ true) (s : List ℕ) (mine : (head_at s).identifier ≡ (line_of b i).identifier) (store out : List ℕ) where
  arrives : verdict (tests (call.arrival s) b (length store) (length out)) ≡ Ok tt → line_for (call.arrival s) b ≡ i
  unfolding tests line_for
  arrives pass = ap owner_line (ap (owner_of b) mine ∙ whose_found b (addressed b (length store) s pass).book shaped i small opened)

  -- THE PROMISE: the packet can reach that line alone. Every other line, and its part of the store, is as it was,
  pub packet_reaches_one : (j : ℕ) → (i ≡ j → ⊥) → Stays j b store (result_of (call.arrival s) b store out)
  packet_reaches_one j n = stays_unless (call.arrival s) b store out shaped j (λ e q. n (sym (arrives e) ∙ q))

  -- and where the packet is accepted the answer names the line
  pub packet_names_line : (result_of (call.arrival s) b store out).answer.number ≡ 0 → (result_of (call.arrival s) b store out).answer ≡ accepted (i ∷ [])
  unfolding effect
  packet_names_line z =
      let pass = accepted_passes (call.arrival s) b store out z in
      (leaves_at (call.arrival s) b store out (arrives pass) pass shaped).answer

-- THE PROMISE: no call is for two open lines, and no packet.
module _ (b : Book) (fits : book_fits b ≡ true) (shaped : BookShaped b) (i j : ℕ) (first : i < 4) (second : j < 4) (open1 : is_open (line_of b i) ≡ true) (open2 : is_open (line_of b j) ≡ true) where
  named_once : (n : ℕ) → eqb n i ≡ true → eqb n j ≡ true → i ≡ j
  named_once n e f = sym (eqb-true n i e) ∙ eqb-true n j f

  pub for_one_line : (k : Call) → for_line i (line_of b i).identifier k ≡ true → for_line j (line_of b j).identifier k ≡ true → i ≡ j
  for_one_line (call.opening n s time) = named_once n
  for_one_line (call.closing n) = named_once n
  for_one_line (call.mode n a) = named_once n
  for_one_line (call.taking n channel message) = named_once n
  for_one_line (call.sending n channel rank) = named_once n
  for_one_line (call.empty n channel) = named_once n
  for_one_line (call.arrival s) = λ e f. one_owner b fits shaped i first open1 j second open2 (sym (eqb-true _ _ e) ∙ eqb-true _ _ f)
  for_one_line (call.hand_out n channel) = named_once n
  for_one_line (call.report n channel) = named_once n
