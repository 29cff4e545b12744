-- How a packet's verdict is put together: its head, its line, and what the line asks of it.
-- Assumes nothing.
use Prim.Native.Nat.{ℕ, ◌<◌}
use mathlib.Core.Path.{◌≡◌, sym, ap, ◌∙◌}
use mathlib.Core.List.{List, [], ◌∷◌}
use native.Mathlib.Omega.{arith}
use lib.ListN.{length}
use Rattle.std.specs.Prelude.{Option, Some, None, Result, Ok, Err, is_some}
use Rattle.ground.specs.Refusal.{Verdict, Test, must, verdict, settle}
use Rattle.ground.specs.declared.Refusal.{Refusal}
use Rattle.ground.specs.declared.Refusal.TheVariants.{NOLINE}
use Rattle.ground.proofs.Verdicts.{verdict_on, verdict_stop}
use Rattle.packet.specs.Read.{head_at, acks_at, head_tests, head_read}
use Rattle.packet.specs.declared.Acks.{Acks}
use Rattle.packet.specs.declared.Head.{Head}
use Rattle.arriving.specs.Arrive.{arrive_tests}
use Rattle.book.specs.Book.{line_of, owner_of}
use Rattle.book.specs.declared.Book.{Book}
use Rattle.book.proofs.OneOwner.{whose_at}
use Rattle.calls.specs.Order.{packet_line, owner_line}
use Rattle.calls.specs.Stages.{address_tests, arrival_tests}
use Rattle.calls.proofs.Accepted.{answer_refuses, answer_passes, answer_is}
use Rattle.incoming.specs.Reading.{arriving_at}
use Rattle.incoming.specs.declared.Arriving.{Arriving}

-- what a head's reading says of its tests
module _ (s : List ℕ) {r : Result Head Refusal} (e : r ≡ head_read s) where
  pub head_passes : {h : Head} → r ≡ Ok h → verdict (head_tests s) ≡ Ok tt
  head_passes p = answer_passes (head_tests s) (head_at s) e p

  pub head_refuses : {x : Refusal} → r ≡ Err x → verdict (head_tests s) ≡ Err x
  head_refuses p = answer_refuses (head_tests s) (head_at s) e p

  pub head_is : {h : Head} → r ≡ Ok h → h ≡ head_at s
  head_is p = answer_is (head_tests s) (head_at s) e p

  -- whoever has the head's identifier has the packet
  pub owner_is : (b : Book) {h : Head} {o : Option ℕ} → r ≡ Ok h → o ≡ owner_of b h.identifier → packet_line b s ≡ o
  owner_is b p found = ap (λ (k : Head). owner_of b k.identifier) (sym (head_is p)) ∙ sym found

-- what a line's tests settle on
abbrev pub arrives_at : ℕ → List ℕ → Verdict → Result Arriving Refusal
arrives_at i s v = settle v Err (Ok (arriving_at i s))

-- what the line answers, the list's reading or a refusal, tells its verdict
abbrev acks_in : Acks → Result Acks Refusal → Acks
acks_in d (Ok a) = a
acks_in d (Err r) = d

module _ (i : ℕ) (s : List ℕ) (v : Verdict) {r : Result Acks Refusal} (e : r ≡ settle v Err (Ok (acks_at s))) where
  pub reading_refuses : {x : Refusal} → r ≡ Err x → Err x ≡ arrives_at i s v
  reading_refuses {x} p = go v e
    where
      go : (w : Verdict) → r ≡ settle w Err (Ok (acks_at s)) → Err x ≡ arrives_at i s w
      go (Ok tt) q = absurd (let y : Ok (acks_at s) ≡ Err x = sym q ∙ p in let z : ◌≡◌ {A = ℕ} 0 1 = cc in omega arith)
      go (Err y) q = let f : Err y ≡ Err x = sym q ∙ p in cc

  pub reading_says : {h : Head} {a : Acks} → h ≡ head_at s → r ≡ Ok a → Ok (record { line = i; head = h; acks = a }) ≡ arrives_at i s v
  reading_says {h} {a} k p = go v e
    where
      go : (w : Verdict) → r ≡ settle w Err (Ok (acks_at s)) → Ok (record { line = i; head = h; acks = a }) ≡ arrives_at i s w
      go (Ok tt) q = let f : a ≡ acks_at s = ap (acks_in (acks_at s)) (sym p ∙ q) in λ t. Ok (record { line = i; head = k t; acks = f t })
      go (Err y) q = absurd (let f : Err y ≡ Ok a = sym q ∙ p in let z : ◌≡◌ {A = ℕ} 0 1 = cc in omega arith)

module _ (b : Book) (s : List ℕ) where
  abbrev pub arrives : Verdict → Result Arriving Refusal
  arrives = arrives_at (owner_line (packet_line b s)) s

  abbrev last : List Test
  last = must (is_some (packet_line b s)) NOLINE ∷ []

  abbrev asks : List Test
  asks = arrive_tests (line_of b (owner_line (packet_line b s))) s

  -- the head is refused
  pub arrival_refused : {x : Refusal} → verdict (head_tests s) ≡ Err x → Err x ≡ arrives (verdict (arrival_tests b s))
  unfolding arrival_tests address_tests
  arrival_refused e = ap arrives (sym (verdict_stop (address_tests b s) asks (verdict_stop (head_tests s) last e)))

  module _ (e : verdict (head_tests s) ≡ Ok tt) where
    -- no open line has the identifier
    pub arrival_nobody : packet_line b s ≡ None → Err NOLINE ≡ arrives (verdict (arrival_tests b s))
    unfolding arrival_tests address_tests
    arrival_nobody p =
        let f : verdict (address_tests b s) ≡ Err NOLINE = verdict_on (head_tests s) last e ∙ simp p in
        ap arrives (sym (verdict_stop (address_tests b s) asks f))

    -- one has it, and its tests decide
    pub arrival_at_lem : {i : ℕ} → packet_line b s ≡ Some i → arrives_at i s (verdict (arrive_tests (line_of b i) s)) ≡ arrives (verdict (arrival_tests b s))
    unfolding arrival_tests address_tests
    arrival_at_lem p =
        let f : verdict (address_tests b s) ≡ Ok tt = verdict_on (head_tests s) last e ∙ simp p in
        let g = ap owner_line (sym p) in
        (λ t. arrives_at (g t) s (verdict (arrive_tests (line_of b (g t)) s))) ∙ ap arrives (sym (verdict_on (address_tests b s) asks f))

  -- the line that has it is one of the book's
  pub arrival_in : {i : ℕ} → packet_line b s ≡ Some i → i < length b.lines
  arrival_in {i} p = (whose_at b (head_at s).identifier i p).0
