-- A build that ignores messages by a test does not meet demand 3: the first one that the test does not let pass has come, and cannot be handed out.
-- By size that is message 16,384, whose number is 0 and seems old, also where R is cut to 14 bits, if it comes before message 16,383 is handed out; where only the first message is served, it is the second; where nothing is stored,
-- the first.
-- Assumes nothing.
use Prim.Native.Nat.{ℕ, suc, ◌-◌, ◌%◌, ◌≤◌, ◌<◌}
use mathlib.Core.Path.{◌≡◌, refl, sym, ap, subst, ◌∙◌}
use mathlib.Core.Bool.{Bool, true, false}
use mathlib.Core.List.{List, [], Memᴰ}
use native.Mathlib.Omega.{arith}
use lib.Dec.{lit≤, lit<}
use lib.ListN.{length}
use borrow.Author.Tests.{le-ltb}
use Rattle.ground.specs.Pick.{pick}
use Rattle.ground.proofs.Every.{below_suc}
use Rattle.places.specs.Places.{mask_of, bit_of}
use Rattle.packet.specs.Read.{head_at}
use Rattle.channel.specs.Channel.{modulus, largest, window_of}
use Rattle.receiving.specs.declared.Receiving.{Receiving}
use Rattle.flow.proofs.Keeps.{receiving_sized}
use Rattle.flow.specs.Flow.{Full}
use Rattle.flow.specs.View.{message_of}
use Rattle.flow.proofs.Messages.{message_full}
use Rattle.mode.specs.Given.{modem}
use Rattle.line.specs.Line.{is_open, closed_line}
use Rattle.line.specs.declared.Line.{Line}
use Rattle.store.specs.declared.Way.TheVariants as way
use Rattle.book.specs.Book.{line_of, with_line}
use Rattle.book.specs.Shape.{BookShaped}
use Rattle.line.specs.Shape.{Shaped}
use Rattle.book.proofs.Keeps.{with_line_shaped}
use Rattle.laws.proofs.Keeps.{every_call_keeps}
use Rattle.calls.specs.Order.{line_for}
use Rattle.book.proofs.OtherLines.{line_same}
use Rattle.book.proofs.Facts.{line_fits_lem}
use Rattle.calls.specs.Call.{Call}
use Rattle.calls.specs.Result.{CallResult, result_of}
use Rattle.promise.specs.Past.{Past, heard_past}
use Rattle.promise.specs.Notes.{mark}
use Rattle.promise.proofs.Phases.{part_there}
use Rattle.promise.specs.Run.{Gateway, bound, does, after, line_at, part_in, heard, calls, Step, Run}
use Rattle.promise.specs.Promise.{receives_by, AllCame}
use Rattle.promise.specs.Ends.{slots_of, receives_of}
use Rattle.promise.specs.Demand3.{Serves, Demand3}
use Rattle.refuted.specs.Idle.{doing, arriving, unread, ignored, expected, ignores, is_later, first_only, stores_nothing}
use Rattle.refuted.specs.Quick.{is_older, by_size, is_older_cut, by_size_cut}
use Rattle.promise.proofs.Views.{slots_hold}
use Rattle.promise.proofs.Ends.{Sides, gets_ok, relay_sides}
use Rattle.promise.proofs.StepsKeep.{run_kept}
use Rattle.promise.proofs.Demand3.{turned_run}
use Rattle.refuted.proofs.Twins.{f, Twin, turned, goes_on, served, ready, S-is, h_is, R-is, next_is}
use Rattle.refuted.proofs.Rounds as rounds
use Rattle.refuted.proofs.Rounds.{Behind, behind, space}
use Rattle.refuted.proofs.UpTo.{up_to}
use Rattle.refuted.proofs.Answered.{ahead, ahead_came}
use Rattle.refuted.proofs.NoMoreOut.{stored, at_most}

not_so : (b : Bool) → (b ≡ true → ⊥) → b ≡ false
not_so true n = absurd (n refl)
not_so false n = refl

-- k messages were handed out, and those up to n have come; message n is taken and written, and ignored where it arrives
module _ {test : ℕ → ℕ → Bool} {k n : ℕ} (few : n ≤ 16384) (a : Behind test k n) (known : (m : ℕ) → k ≤ m → m < n → Memᴰ (mark 1 m) a.q.came) (caught : test (n % 16384) k ≡ true) where
  abbrev h : Gateway
  h = a.h

  abbrev s : List ℕ
  s = (rounds.packet few a).octets

  abbrev comes : Call
  comes = rounds.arrival few a

  is_ignored : test (head_at s).number (expected s h.book) ≡ true
  is_ignored = (λ i. test (rounds.said_number few a i) (rounds.next_there few a i)) ∙ caught

  -- what is left of the far gateway
  abbrev left : CallResult
  left = ignored s h.book h.store []

  leaves : does (f test) h comes [] ≡ left
  leaves = ap (λ (b : Bool). pick b left (result_of comes h.book h.store [])) is_ignored

  abbrev h' : Gateway
  h' = record { book = left.book; store = left.store }

  abbrev q' : Past
  q' = heard_past a.q (rounds.packet few a)

  yours : Twin test a.h a.q (rounds.g₂ few a) (rounds.p₂ few a)
  yours = turned (rounds.t₂ few a)

  -- its line has received nothing
  line : line_at h' 0 ≡ unread (line_at h 0) (line_at (after result_of h comes []) 0)
  line =
      let then : Gateway = after result_of h comes [] in
      ap (λ (i : ℕ). line_of (with_line h.book i (unread (line_of h.book i) (line_of then.book i))) 0) (rounds.here few a)
      ∙ line_same h.book (ready yours).shaped 0 (lit< tt) (unread (line_at h 0) (line_at then 0))

  let_in : Serves result_of h 0 comes []
  let_in = ((served yours).arrives s (rounds.packet few a) (rounds.honest few a) []).1

  opened : is_open (line_at h' 0) ≡ true
  opened = ap is_open line ∙ let_in.opened

  within : (line_at h' 0).modes.local ≡ modem
  within = ap (λ (l : Line). l.modes.local) line ∙ let_in.inside

  gone : Run (f test) bound 0 0 5 98 (rounds.g₂ few a) (rounds.p₂ few a) h' q'
  gone =
      let step : Step (f test) bound 0 5 98 (rounds.p₂ few a) h a.q h' q'
      = subst (λ (d : CallResult). Step (f test) bound 0 5 98 (rounds.p₂ few a) h a.q (record { book = d.book; store = d.store }) q') leaves
      (calls yours.mine.0 comes [] (subst (λ (d : CallResult). is_open (line_of d.book 0) ≡ true) (sym leaves) opened)
      (λ _. subst (λ (d : CallResult). (line_of d.book 0).modes.local ≡ modem) (sym leaves) within)
      (heard s (rounds.packet few a) (rounds.here few a) yours.mine.1 (rounds.honest few a))) in
      turned_run (goes_on yours.sized step)

  shaped : BookShaped h'.book
  shaped =
      let old = (ready yours).shaped in
      let new = (every_call_keeps comes h.book h.store [] (ready yours).fits old).1 in
      let i = line_for comes h.book in
      let both : Shaped (unread (line_of h.book i) (line_of (after result_of h comes []).book i))
      = record { sending1 = (new.each i).sending1; sending2 = (new.each i).sending2; receiving1 = (old.each i).receiving1; receiving2 = (old.each i).receiving2 } in
      with_line_shaped h.book old i (unread (line_of h.book i) (line_of (after result_of h comes []).book i)) both

  -- message n is not stored, as it was not taken before
  abbrev r : Receiving
  r = (line_at h 0).receiving.one

  not_stored : stored h (n - k) ≡ true → ⊥
  not_stored bit =
      let b = ready yours in
      let sides : Sides (line_at h 0) = relay_sides (line_at h 0) (line_fits_lem h.book b.fits 0) b.opened yours.mine.1 in
      let slots = slots_of (line_at h 0) (part_in h 0) way.Receiving 1 in
      let full = message_full (window_of 1) slots r.sizes (mask_of r.stored) r.origin largest (gets_ok sides 1).placed (receiving_sized (window_of 1) largest r (sides.receiving 1))
      (slots_hold (line_at h 0) (part_in h 0) (part_there h 0 b.long (lit< tt)) way.Receiving 1 refl) (n - k) (omega (arith, a.low, a.high)) bit in
      let from : n - k ≡ n - r.next = omega (arith, next_is a.twin, a.handed) in
      let there : Full ((receives_of (part_in h 0) (line_at h 0) 1).stored n)
      = subst (λ (d : ℕ). Full (message_of (window_of 1) slots r.sizes (mask_of r.stored) r.origin d)) from full in
      let seen : Full ((receives_by h 0 a.q 1).stored n)
      = subst (λ (o : Bool). Full ((receives_of (part_in h 0) (pick o (line_at h 0) closed_line) 1).stored n)) (sym yours.mine.0) there in
      let below = (((run_kept a.twin.ours).joined.there 1 refl).keeps n (omega (arith, R-is a.twin, a.handed, a.low)) seen).0 in
      omega (arith, below, S-is a.twin, a.taken)

  came : AllCame 1 (rounds.g₂ few a) 0 (rounds.p₂ few a) q'
  came m low high full =
      let t = rounds.t₂ few a in
      below_suc (λ (m : ℕ). k ≤ m → Memᴰ (mark 1 m) q'.came) n (λ m l u. Memᴰ.tail (known m u l)) (λ u. Memᴰ.head (ap (mark 1) (sym (rounds.number few a)))) m
      (omega (arith, high, S-is t, rounds.taken₁ few a)) (omega (arith, low, h_is t, rounds.base₂ few a))

  -- so it cannot be handed out
  caught_fails : Demand3 (doing (arriving (ignores test))) → ⊥
  caught_fails d =
      let e = (d.ends gone (rounds.t₂ few a).mine (yours.mine.0, within) 1 refl).all_out came (λ n. space) (λ n. lit≤ tt) in
      let free : stored h' (n - k) ≡ false = ap (λ (l : Line). bit_of (mask_of l.receiving.one.stored) (n - k)) line ∙ not_so (stored h (n - k)) not_stored in
      let most = at_most test (n - k) shaped free e.hands in
      omega (arith, most, ap length e.all, a.handed, a.low, rounds.taken₁ few a)

-- the law: n messages pass, and the next one does not
ignoring_fails : (test : ℕ → ℕ → Bool) (n : ℕ) → n ≤ 16384 → ((k : ℕ) → k < n → test k k ≡ false) → test (n % 16384) n ≡ true → Demand3 (doing (arriving (ignores test))) → ⊥
ignoring_fails test n few passes caught d = caught_fails few (behind (up_to test n few passes n (omega arith))) (λ m l u. absurd (omega arith)) caught d

-- and where message k passes, and the one after it does not before that is handed out
ahead_fails : (test : ℕ → ℕ → Bool) (k : ℕ) → k < 16384 → ((m : ℕ) → m ≤ k → test m m ≡ false) → test (suc k % 16384) k ≡ true → Demand3 (doing (arriving (ignores test))) → ⊥
ahead_fails test k less passes caught d =
    let a = up_to test k (omega arith) (λ m l. passes m (omega arith)) k (omega arith) in
    let it = passes k (omega arith) in
    let first = passes 0 (omega arith) in
    caught_fails (omega arith) (ahead less a it first) (ahead_came less a it first) caught d

pub by_size_fails : Demand3 by_size → ⊥
by_size_fails = ignoring_fails is_older 16384 (lit≤ tt) (λ k l. le-ltb k k (omega arith)) refl

pub by_size_cut_fails : Demand3 by_size_cut → ⊥
by_size_cut_fails = ahead_fails is_older_cut 16383 (lit< tt) (λ m l. le-ltb m (m % modulus) (omega arith)) refl

pub first_only_fails : Demand3 first_only → ⊥
first_only_fails =
    ignoring_fails is_later 1 (lit≤ tt)
    (λ k l. let first : k ≡ 0 = omega arith in ap (λ (n : ℕ). is_later n n) first)
    refl

pub stores_nothing_fails : Demand3 stores_nothing → ⊥
stores_nothing_fails = ignoring_fails (λ number next. true) 0 (lit≤ tt) (λ k l. absurd (omega arith)) refl
