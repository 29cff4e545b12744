-- What the tests of an arriving packet show, of its readings and of what it does to its line.
-- Assumes nothing.
use Prim.Native.Nat.{ℕ, zero, suc, ◌-◌, ◌≤◌, ◌<◌}
use mathlib.Core.Path.{◌≡◌, refl, sym, ap, ◌∙◌}
use mathlib.Core.Bool.{Bool, true, false}
use mathlib.Core.List.{List, [], ◌∷◌}
use native.Mathlib.Omega.{arith}
use lib.Dec.{lit<, eqb, ltb, leb}
use lib.ListN.{length, take, drop, length-drop}
use lib.Seq.{take-length}
use borrow.Author.Tests.{eqb-true, eqb-false, ltb-true, leb-true, eq-eqb, lt-ltb, le-ltb}
use Rattle.std.specs.Prelude.{Result, Ok, Err}
use Rattle.ground.specs.Refusal.{Verdict, must, verdict, settle}
use Rattle.ground.specs.declared.Refusal.TheVariants.{SIZE}
use Rattle.ground.specs.declared.Refusal.{Refusal}
use Rattle.ground.proofs.Verdicts.{Holds, passed, verdict_on, verdict_stop}
use Rattle.ground.proofs.Picks.{pick_by, each}
use Rattle.field.proofs.Laws.{bits_lt}
use Rattle.packet.specs.declared.Acks.{Acks}
use Rattle.packet.specs.Acks.{ack_list, acks_served}
use Rattle.packet.specs.Read.{channel_at, header_length, number_at, head_at, acks_at, payload_of, size_fits, payload_fits, list_tests, acks_read}
use Rattle.mode.specs.Given.{modem}
use Rattle.line.specs.Line.{is_open}
use Rattle.line.specs.Fit.{line_fits}
use Rattle.line.specs.Figures.{receive_largest}
use Rattle.line.specs.declared.Line.{Line}
use Rattle.relay.specs.RelayTests.{reliable}
use Rattle.arriving.proofs.Stays.{news_part}
use Rattle.arriving.specs.Effect.{Relaying, heard_line, stored_line, stored_part}
use Rattle.arriving.specs.Arrive.{arrive_tests, news_line, arrived_line, arrived_part}
use Rattle.arriving.proofs.Effects.{heard_relaying, all_relaying}

pub news_relaying : (l : Line) → Relaying l → (s : List ℕ) → Relaying (news_line l s)
unfolding news_line
news_relaying l k s = all_relaying (ack_list (acks_at s)) (heard_line l (head_at s).channel (head_at s).base) (heard_relaying l k (head_at s).channel (head_at s).base)

-- what the readings of a packet say of their tests, and the tests of the readings
module _ (s : List ℕ) where
  pub list_refused : {r : Refusal} → acks_read s ≡ Err r → verdict (list_tests s) ≡ Err r
  list_refused {r} = go (verdict (list_tests s))
    where
      go : (v : Verdict) → settle v Err (Ok (acks_at s)) ≡ Err r → v ≡ Err r
      go (Ok tt) e = absurd (let z : ◌≡◌ {A = ℕ} 0 1 = cc in omega arith)
      go (Err q) e = cc

  pub list_said : {a : Acks} → acks_read s ≡ Ok a → verdict (list_tests s) ≡ Ok tt
  list_said {a} = go (verdict (list_tests s))
    where
      go : (v : Verdict) → settle v Err (Ok (acks_at s)) ≡ Ok a → v ≡ Ok tt
      go (Ok tt) e = refl
      go (Err q) e = absurd (let z : ◌≡◌ {A = ℕ} 0 1 = cc in omega arith)

  -- a list that is read is what the octets say
  pub list_is : {a : Acks} → acks_read s ≡ Ok a → a ≡ acks_at s
  list_is {a} p =
      let q : Ok a ≡ Ok (acks_at s) = sym p ∙ ap (λ (v : Verdict). settle v Err (Ok (acks_at s))) (list_said p) in
      cc

  -- a packet's numbers are of 14 bits, and it has three acknowledgements at most
  pub number_lt : (head_at s).number < 16384
  unfolding head_at number_at
  number_lt =
      pick_by (λ (n : ℕ). n < 16384) (eqb (channel_at s) 0) (λ _. lit< tt)
      (λ _. pick_by (λ (n : ℕ). n < 16384) (leb (length s) (header_length s)) (λ _. lit< tt) (λ _. bits_lt s 18 14))

  pub acks_few : (acks_at s).count ≤ 3
  unfolding acks_at
  acks_few = omega (arith, bits_lt s 32 2)

  pub payload_length : length (payload_of s) ≡ length s - header_length s
  unfolding payload_of
  payload_length = length-drop (header_length s) s

  -- the octets behind the header
  pub payload_rest : (at : ℕ) → at ≡ header_length s → take (length s - at) (drop at s) ≡ payload_of s
  unfolding payload_of
  payload_rest at e = (λ i. take (length s - e i) (drop (e i) s)) ∙ ap (λ (n : ℕ). take n (drop (header_length s) s)) (sym (length-drop (header_length s) s)) ∙ take-length (drop (header_length s) s)

-- what the tests settle on: why the packet is refused, or what it acknowledges
abbrev pub settled : List ℕ → Verdict → Result Acks Refusal
settled s v = settle v Err (Ok (acks_at s))

-- the line's own tests hold: the list's tests decide, and then the payload's
module _ (l : Line) (s : List ℕ) (kind : (head_at s).kind ≡ l.kind) (inside : l.modes.local ≡ modem) where
  pub arrive_refused : {r : Refusal} → verdict (list_tests s) ≡ Err r → Err r ≡ settled s (verdict (arrive_tests l s))
  unfolding arrive_tests
  arrive_refused {r} e =
      let f : Err r ≡ verdict (arrive_tests l s) = rw (eq-eqb _ _ kind, eq-eqb _ _ inside) (sym (verdict_stop (list_tests s) (must (payload_fits s (receive_largest l)) SIZE ∷ []) e)) in
      ap (settled s) f

  arrive_sized : verdict (list_tests s) ≡ Ok tt → verdict (must (payload_fits s (receive_largest l)) SIZE ∷ []) ≡ verdict (arrive_tests l s)
  unfolding arrive_tests
  arrive_sized e = rw (eq-eqb _ _ kind, eq-eqb _ _ inside) (sym (verdict_on (list_tests s) (must (payload_fits s (receive_largest l)) SIZE ∷ []) e))

  pub arrive_passes : verdict (list_tests s) ≡ Ok tt → payload_fits s (receive_largest l) ≡ true → verdict (arrive_tests l s) ≡ Ok tt
  arrive_passes e f = sym (arrive_sized e) ∙ ap (λ (t : Bool). verdict (must t SIZE ∷ [])) f

  pub arrive_passed : verdict (list_tests s) ≡ Ok tt → payload_fits s (receive_largest l) ≡ true → Ok (acks_at s) ≡ settled s (verdict (arrive_tests l s))
  arrive_passed e f = ap (settled s) (ap (λ (t : Bool). verdict (must t SIZE ∷ [])) (sym f) ∙ arrive_sized e)

  pub arrive_large : verdict (list_tests s) ≡ Ok tt → payload_fits s (receive_largest l) ≡ false → Err SIZE ≡ settled s (verdict (arrive_tests l s))
  arrive_large e f = ap (settled s) (ap (λ (t : Bool). verdict (must t SIZE ∷ [])) (sym f) ∙ arrive_sized e)

-- all tests pass
module _ (l : Line) (s : List ℕ) (pass : verdict (arrive_tests l s) ≡ Ok tt) where
  tests : Holds (arrive_tests l s)
  tests = passed (arrive_tests l s) pass

  pub arrive_relaying : line_fits l ≡ true → is_open l ≡ true → Relaying l
  unfolding arrive_tests
  arrive_relaying f o = record { fits = f; opened = o; inside = eqb-true _ _ tests.1.0 }

  sized : size_fits (channel_at s) (length s - header_length s) (receive_largest l) ≡ true
  unfolding arrive_tests
  sized = tests.1.1.1.1.0

  below_three : channel_at s < 3
  unfolding arrive_tests
  below_three = ltb-true _ _ (each (ltb (channel_at s) 3 ∷ acks_served (acks_at s) ∷ []) tests.1.1.1.0).0

  pub arrive_size : length (payload_of s) ≤ receive_largest l
  unfolding size_fits
  arrive_size =
      pick_by (λ (t : Bool). t ≡ true → length (payload_of s) ≤ receive_largest l) (eqb (channel_at s) 0)
      (λ _ z. let e : length s - header_length s ≡ 0 = eqb-true _ _ z in omega (arith, payload_length s))
      (λ _ z. let e : length s - header_length s ≤ receive_largest l = leb-true _ _ z in omega (arith, payload_length s))
      sized

  -- a payload stands on channel 1 or 2
  pub arrive_reliable : 0 < length (payload_of s) → reliable (head_at s).channel ≡ true
  unfolding size_fits head_at
  arrive_reliable p =
      pick_by (λ (t : Bool). t ≡ true → reliable (channel_at s) ≡ true) (eqb (channel_at s) 0)
      (λ _ z. let e : length s - header_length s ≡ 0 = eqb-true _ _ z in absurd (omega (arith, payload_length s)))
      (λ n _. let d : (channel_at s ≡ 0 → ⊥) = eqb-false _ _ n in one_or_two (channel_at s) d below_three)
      sized
    where
      one_or_two : (c : ℕ) → (c ≡ 0 → ⊥) → c < 3 → reliable c ≡ true
      one_or_two zero d q = absurd (d refl)
      one_or_two (suc zero) d q = refl
      one_or_two (suc (suc zero)) d q = refl
      one_or_two (suc (suc (suc c))) d q = absurd (omega arith)

-- with no payload the news is all; with one, it comes to the line as the news leaves it
module _ (l : Line) (s : List ℕ) where
  pub news_all : length s ≤ header_length s → news_line l s ≡ arrived_line l s
  unfolding arrived_line
  news_all q = rw (le-ltb 0 (length (payload_of s)) (omega (arith, payload_length s))) refl

  pub part_all : length s ≤ header_length s → (part : List ℕ) → part ≡ arrived_part l s part
  unfolding arrived_part
  part_all q part = rw (le-ltb 0 (length (payload_of s)) (omega (arith, payload_length s))) refl

  pub payload_line : header_length s < length s → stored_line (news_line l s) (head_at s).channel (head_at s).number (length (payload_of s)) ≡ arrived_line l s
  unfolding arrived_line
  payload_line q = rw (lt-ltb 0 (length (payload_of s)) (omega (arith, payload_length s))) refl

  pub payload_part : header_length s < length s → (part : List ℕ) → stored_part (news_line l s) (head_at s).channel (head_at s).number (payload_of s) part ≡ arrived_part l s part
  unfolding arrived_part
  payload_part q part = rw (lt-ltb 0 (length (payload_of s)) (omega (arith, payload_length s))) (news_part l s (head_at s).channel (head_at s).number (payload_of s) part)
