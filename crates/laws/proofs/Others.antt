-- Other lines and their parts of the store stay, whatever call it is; octets past the store are never touched.
-- Assumes nothing.
use Prim.Native.Nat.{ℕ, ◌≤◌, ◌<◌}
use mathlib.Core.Path.{◌≡◌, refl, sym, ap, ◌∙◌}
use mathlib.Core.List.{List}
use mathlib.Core.Logic.{◌⊎◌, inl, inr, ⊎_elim}
use native.Mathlib.Omega.{arith}
use lib.ListN.{length, drop}
use Rattle.std.specs.Prelude.{Ok}
use Rattle.ground.specs.Refusal.{verdict}
use Rattle.ground.proofs.Picks.{pick_by}
use Rattle.ground.proofs.Settled.{settled_by}
use Rattle.line.specs.Part.{part_length}
use Rattle.relay.specs.Take.{take_call_tests, took_part}
use Rattle.relay.proofs.Keeps.{took_part_length, took_in_store}
use Rattle.arriving.specs.Arrive.{arrived_part}
use Rattle.arriving.proofs.Arrivals.{arrive_relaying}
use Rattle.arriving.proofs.Keeps.{arrived_part_length, arrived_in_store}
use Rattle.book.specs.Book.{line_of}
use Rattle.book.specs.Parts.{part_start, store_length, part_of, with_part}
use Rattle.book.specs.Shape.{BookShaped}
use Rattle.book.specs.declared.Book.{Book}
use Rattle.book.proofs.OtherLines.{line_other, closed_other}
use Rattle.book.proofs.Parts.{part_in_lem, part_long, part_kept, past_kept, parts_alike}
use Rattle.calls.specs.Call.{Call}
use Rattle.calls.specs.Call as call
use Rattle.calls.specs.Order.{order, line_for, packet_line, owner_line}
use Rattle.calls.specs.Stages.{tests}
use Rattle.calls.proofs.FirstTests.{both_passed}
use Rattle.calls.proofs.OrderStages.{in_stages}
use Rattle.calls.specs.Result.{CallResult, result_of, accepted_result, effect}
use Rattle.incoming.proofs.Passing.{addressed}

-- Every line but the one that the call is for has the record that it had.
pub others_stay : (c : Call) (b : Book) (store out : List ℕ) (j : ℕ) → (line_for c b ≡ j → ⊥) → line_of (result_of c b store out).book j ≡ line_of b j
unfolding result_of accepted_result
others_stay c b store out j n =
    settled_by (λ (d : CallResult). line_of d.book j ≡ line_of b j) (verdict (order c b (length store) (length out)))
    (λ r e. refl)
    (λ _.
    let i = line_for c b in
    let e = effect c i (line_of b i) (part_start b i) store out in
    pick_by (λ (a : Book). line_of a j ≡ line_of b j) e.rests (λ _. closed_other b i j n) (λ _. line_other b i e.line j n))

-- Line i's part of the store has other octets, as many as before.
pub record PutIn (b : Book) (i : ℕ) (store after : List ℕ) : Type 0 where
  pub part : List ℕ
  pub number : i < 4
  pub long : store_length b ≤ length store
  pub same : length part ≡ part_length (line_of b i)
  pub is : after ≡ with_part b i store part

-- What an accepted call makes of the store: nothing, or it changes the part of the line that it is for.
abbrev pub Puts : Book → ℕ → List ℕ → List ℕ → Type 0
Puts b i store after = (after ≡ store) ⊎ PutIn b i store after

pub puts : (c : Call) (b : Book) (store out : List ℕ) → verdict (tests c b (length store) (length out)) ≡ Ok tt → BookShaped b
    → Puts b (line_for c b) store (effect c (line_for c b) (line_of b (line_for c b)) (part_start b (line_for c b)) store out).store
unfolding tests line_for effect
puts (call.opening i s time) b store out e k = inl refl
puts (call.closing i) b store out e k = inl refl
puts (call.mode i a) b store out e k = inl refl
puts (call.taking i channel message) b store out e k =
    let l = line_of b i in
    let p = both_passed b (length store) i (take_call_tests l channel (length message)) e in
    inr (record {
      part = took_part l channel message (part_of b i store);
      number = p.0.number;
      long = p.1;
      same = took_part_length l channel message (part_of b i store) ∙ part_long b store p.1 i p.0.number;
      is = sym (took_in_store l channel message store (part_start b i) p.0.line p.2 (part_in_lem b store p.1 i p.0.number));
    })
puts (call.sending i channel rank) b store out e k = inl refl
puts (call.empty i channel) b store out e k = inl refl
puts (call.arrival s) b store out e k =
    let i = owner_line (packet_line b s) in
    let l = line_of b i in
    let p = addressed b (length store) s e in
    let small : i < 4 = omega (arith, p.number, k.lines) in
    inr (record {
      part = arrived_part l s (part_of b i store);
      number = small;
      long = p.store;
      same = arrived_part_length l s (part_of b i store) ∙ part_long b store p.store i small;
      is = sym (arrived_in_store l (arrive_relaying l s p.line p.fits p.opened) (part_start b i) store (part_in_lem b store p.store i small) s p.line);
    })
puts (call.hand_out i channel) b store out e k = inl refl
puts (call.report i channel) b store out e k = inl refl

-- No call makes a line's part begin elsewhere.
pub part_where : (c : Call) (b : Book) (store out : List ℕ) (i : ℕ) (octets : List ℕ) → part_of (result_of c b store out).book i octets ≡ part_of b i octets
part_where c b store out i octets = parts_alike (result_of c b store out).book b i (λ j. refl) octets

module _ (c : Call) (b : Book) (store out : List ℕ) (k : BookShaped b) where
  abbrev after : List ℕ
  after = (result_of c b store out).store

  -- whatever the answer
  pub store_puts : Puts b (line_for c b) store after
  unfolding result_of accepted_result
  store_puts = settled_by (λ (d : CallResult). Puts b (line_for c b) store d.store) (verdict (order c b (length store) (length out))) (λ r e. inl refl) (λ e. puts c b store out (sym (in_stages c b (length store) (length out)) ∙ e) k)

  -- THE PROMISE: the part of every other line holds what it held.
  pub parts_stay : (j : ℕ) → (line_for c b ≡ j → ⊥) → part_of b j after ≡ part_of b j store
  parts_stay j n =
      ⊎_elim (λ e. ap (part_of b j) e)
      (λ r. ap (part_of b j) r.is ∙ part_kept b store r.long (line_for c b) r.number r.part r.same j n)
      store_puts

  -- "Octets past it are never touched."
  pub past_stays : drop (store_length b) after ≡ drop (store_length b) store
  past_stays =
      ⊎_elim (λ e. ap (drop (store_length b)) e)
      (λ r. ap (drop (store_length b)) r.is ∙ past_kept b store r.long (line_for c b) r.number r.part r.same)
      store_puts
