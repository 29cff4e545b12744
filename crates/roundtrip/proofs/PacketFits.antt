-- A packet that is read may be written, where its payload is not too large and the output has room.
-- Assumes nothing.
use mathlib.Core.Path.{◌≡◌, refl, ap, ◌∙◌}
use mathlib.Core.Bool.{Bool, true, false}
use mathlib.Core.List.{List, [], ◌∷◌}
use Prim.Native.Nat.{ℕ, ◌-◌, ◌^◌, ◌≤◌, ◌<◌}
use native.Mathlib.Omega.{arith}
use lib.Dec.{ltb, leb, eqb}
use lib.ListN.{length, drop, length-drop}
use borrow.Author.Tests.{leb-true, eqb-true, lt-ltb, le-leb}
use Rattle.std.specs.Prelude.{Ok}
use Rattle.ground.specs.Pick.{pick, all_hold}
use Rattle.ground.specs.Refusal.{verdict}
use Rattle.ground.proofs.Picks.{together, pick_by}
use Rattle.ground.proofs.Verdicts.{passed, passes}
use Rattle.field.specs.Bits.{bits_at}
use Rattle.field.proofs.Laws.{bits_lt}
use Rattle.packet.specs.Acks.{blank, acks_blank}
use Rattle.packet.specs.Read.{list_tests, head_at, acks_at, ack_at, number_at, base_at, payload_of, payload_fits, size_fits, header_length, count_at, channel_at}
use Rattle.packet.specs.Write.{packet_octets, fields_fit, numbers_placed, write_tests}
use Rattle.packet.proofs.Writes.{packet_length}

-- a word that is not there is read as 0
blank_there : (t : Bool) (w : ℕ) → pick t true (eqb (pick t w 0) 0) ≡ true
blank_there true w = refl
blank_there false w = refl

-- and so is a number that is not looked at: c says that the channel is 0, e and f that there is no payload
placed : (c e f : Bool) (number base : ℕ) → (f ≡ true → e ≡ true)
    → pick c (all_hold (eqb (pick c 0 (pick e 0 number)) 0 ∷ eqb (pick c 0 base) 0 ∷ [])) (pick f (eqb (pick c 0 (pick e 0 number)) 0) true) ≡ true
placed true e f number base h = refl
placed false e true number base h = rw (h refl) refl
placed false e false number base h = refl

pick_zero : (t : Bool) (n k : ℕ) → n < k → pick t 0 n < k
pick_zero t n k h = pick_by (λ (m : ℕ). m < k) t (λ e. omega arith) (λ e. h)

module _ (s : List ℕ) where
  few : count_at s < 2 ^ 2
  few = bits_lt s 32 2

  fields_fit_lem : fields_fit (head_at s) (acks_at s) (length (payload_of s)) ≡ true
  unfolding fields_fit head_at acks_at acks_blank ack_at number_at base_at numbers_placed payload_of
  fields_fit_lem =
      let n : ℕ = length (drop (header_length s) s) in
      let d : n ≡ length s - header_length s = length-drop (header_length s) s in
      let c : Bool = eqb (channel_at s) 0 in
      let e : Bool = leb (length s) (header_length s) in
      let empty : eqb n 0 ≡ true → e ≡ true = λ z. let k : n ≡ 0 = eqb-true _ _ z in le-leb (length s) (header_length s) (omega arith) in
      let blanks = together (blank (count_at s) 0 (ack_at s 0) ∷ blank (count_at s) 1 (ack_at s 1) ∷ blank (count_at s) 2 (ack_at s 2) ∷ [])
      (blank_there (ltb 0 (count_at s)) (bits_at s 48 16), (blank_there (ltb 1 (count_at s)) (bits_at s 64 16), (blank_there (ltb 2 (count_at s)) (bits_at s 80 16), tt))) in
      together (ltb (bits_at s 1 7) 128 ∷ ltb (bits_at s 9 7) 128 ∷ ltb (number_at s) 16384 ∷ ltb (base_at s) 16384 ∷ leb (count_at s) 3 ∷ acks_blank (acks_at s) ∷ numbers_placed (head_at s) n ∷ []) (
        lt-ltb _ _ (bits_lt s 1 7),
        (
          lt-ltb _ _ (bits_lt s 9 7),
          (
            lt-ltb _ _ (pick_zero c (pick e 0 (bits_at s 18 14)) 16384 (pick_zero e (bits_at s 18 14) 16384 (bits_lt s 18 14))),
            (
              lt-ltb _ _ (pick_zero c (bits_at s 34 14) 16384 (bits_lt s 34 14)),
              (le-leb (count_at s) 3 (omega (arith, few)), (blanks, (placed c e (eqb n 0) (bits_at s 18 14) (bits_at s 34 14) empty, tt))),
            ),
          ),
        ),
      )

  -- a packet whose list is there and whose channels are served may be written again
  pub written_again : verdict (list_tests s) ≡ Ok tt → (largest space : ℕ) → payload_fits s largest ≡ true → length s ≤ space → verdict (write_tests (head_at s) (acks_at s) (payload_of s) largest space) ≡ Ok tt
  unfolding head_at acks_at payload_of
  written_again listed largest space fits h =
      let there : header_length s ≤ length s = leb-true _ _ (passed (list_tests s) listed).0 in
      let d : length (drop (header_length s) s) ≡ length s - header_length s = length-drop (header_length s) s in
      let l : length (packet_octets (head_at s) (acks_at s) (payload_of s)) ≤ space = omega (arith, packet_length (head_at s) (acks_at s) (omega (arith, few)) (payload_of s), there) in
      passes (write_tests (head_at s) (acks_at s) (payload_of s) largest space)
      (fields_fit_lem, ((passed (list_tests s) listed).1.0, (ap (λ (n : ℕ). size_fits (channel_at s) n largest) d ∙ fits, (le-leb _ _ l, tt))))
