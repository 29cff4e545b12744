-- A packet that may be written reads back as what was written: head, acknowledgements and payload.
-- Assumes nothing.
use mathlib.Core.Path.{◌≡◌, refl, ap, sym, ◌∙◌}
use mathlib.Core.Bool.{true}
use mathlib.Core.List.{List, [], ◌∷◌, ◌++◌, append_assoc}
use Prim.Native.Nat.{ℕ, zero, suc, ◌+◌, ◌-◌, ◌*◌, ◌/◌, ◌^◌, ◌≤◌, ◌<◌}
use native.Mathlib.Omega.{arith}
use lib.Dec.{ltb, leb, eqb}
use lib.ListN.{length, get_or, take, length-append}
use lib.Seq.{get_or-take, drop_at}
use borrow.Author.Tests.{ltb-true, leb-true, eqb-true, eqb-false, lt-ltb, le-ltb, le-leb, eq-eqb, ne_eqb}
use Rattle.std.specs.Prelude.{Ok, Err}
use Rattle.ground.specs.Pick.{all_hold}
use Rattle.ground.specs.Refusal.{verdict}
use Rattle.ground.proofs.Picks.{each, both_true, pick_by, pick_lt, together}
use Rattle.ground.proofs.Verdicts.{Holds, passed, passes}
use Rattle.ground.proofs.Settled.{settles_took}
use Rattle.field.specs.Bits.{bits_at}
use Rattle.field.specs.Layout.{Field, octets, word_octets, widths, join, packed, Reads}
use Rattle.field.proofs.Packs.{Wide, pack_cut, reads_back, word_there}
use Rattle.field.specs.Word.{channel_of, served}
use Rattle.packet.specs.Acks.{ack_list, named, blank, acks_served, acks_blank}
use Rattle.packet.specs.Read.{head_tests, list_tests, head_read, acks_read, head_at, acks_at, ack_at, number_at, base_at, payload_of, payload_fits, size_fits, header_length, count_at, channel_at}
use Rattle.packet.specs.Write.{fixed_fields, ack_fields, layout, packet_octets, fields_fit, numbers_placed, write_tests}
use Rattle.packet.specs.declared.Head.{Head}
use Rattle.packet.specs.declared.Acks.{Acks}
use Rattle.packet.proofs.Writes.{wide_take, list_words, list_room, list_wide, list_length, header_length_lem, fits_room, fits_count}

-- acknowledgements that are served are words of 16 bits
served_wide : (n : ℕ) (a b c : ℕ) → all_hold (named n 0 a ∷ named n 1 b ∷ named n 2 c ∷ []) ≡ true → Wide (take n (a ∷ b ∷ c ∷ []))
served_wide n a b c e =
    let t = each (named n 0 a ∷ named n 1 b ∷ named n 2 c ∷ []) e in
    go n (one 0 a t.0) (one 1 b t.1.0) (one 2 c t.1.1.0)
  where
    one : (k w : ℕ) → named n k w ≡ true → k < n → w < 2 ^ 16
    one k w h l =
        let s : served w ≡ true = rw (lt-ltb k n l) at h in
        let q : channel_of w ≤ 2 = leb-true _ _ (both_true (leb 1 (channel_of w)) (leb (channel_of w) 2) s).1 in
        omega arith

    go : (m : ℕ) → (0 < m → a < 2 ^ 16) → (1 < m → b < 2 ^ 16) → (2 < m → c < 2 ^ 16) → Wide (take m (a ∷ b ∷ c ∷ []))
    go zero f g h = tt
    go (suc zero) f g h = (f (omega arith), tt)
    go (suc (suc zero)) f g h = (f (omega arith), (g (omega arith), tt))
    go (suc (suc (suc m))) f g h = (f (omega arith), (g (omega arith), (h (omega arith), wide_take m [] tt)))

module _ (h : Head) (a : Acks) (payload : List ℕ) (largest space : ℕ) (ok : verdict (write_tests h a payload largest space) ≡ Ok tt) where
  tests : Holds (write_tests h a payload largest space)
  tests = passed (write_tests h a payload largest space) ok

  s : List ℕ
  s = packet_octets h a payload

  count : a.count ≤ 3
  count = fits_count h a (length payload) tests.0

  all_served : acks_served a ≡ true
  all_served = (each (ltb h.channel 3 ∷ acks_served a ∷ []) tests.1.0).1.0

  channel : h.channel < 3
  channel = ltb-true _ _ (each (ltb h.channel 3 ∷ acks_served a ∷ []) tests.1.0).0

  wide : Wide (ack_list a)
  unfolding acks_served
  wide = served_wide a.count a.one a.two a.three all_served

  -- the packet in its parts: six octets, the list, the payload
  parts : s ≡ packed (fixed_fields h a.count) ++ (word_octets (ack_list a) ++ payload)
  unfolding s packet_octets
  parts =
      let fs : List Field = fixed_fields h a.count in
      let gs : List Field = ack_fields (ack_list a) in
      let n : ℕ = length (ack_list a) in
      let w : widths gs ≡ 8 * (2 * n) = list_wide (ack_list a) ∙ omega arith in
      let e : widths (layout h a) / 8 ≡ 6 + 2 * n = omega (arith, list_wide (ack_list a)) in
      let f : widths gs / 8 ≡ 2 * n = omega arith in
      let c : packed (layout h a) ≡ packed fs ++ word_octets (ack_list a) =
      ap (λ (m : ℕ). octets m (join 0 (layout h a))) e ∙ pack_cut 6 (2 * n) fs gs w (list_room (ack_list a) wide)
      ∙ ap (λ (l : List ℕ). packed fs ++ l) (ap (λ (m : ℕ). octets m (join 0 gs)) (sym f) ∙ list_words (ack_list a) wide) in
      ap (λ (l : List ℕ). l ++ payload) c ∙ append_assoc (packed fs) (word_octets (ack_list a)) payload

  -- every field of the six octets, read at its place
  fixed : Reads s 0 (fixed_fields h a.count)
  fixed = rw parts (reads_back 6 (word_octets (ack_list a) ++ payload) (fixed_fields h a.count) (fits_room h a (length payload) tests.0 channel) refl)

  counted : count_at s ≡ a.count
  counted = fixed.1.1.1.1.1.1.0

  long : length s ≡ 6 + 2 * a.count + length payload
  unfolding s packet_octets
  long = length-append (packed (layout h a)) payload ∙ ap (λ (n : ℕ). n + length payload) (header_length_lem h a count)

  -- acknowledgement k, whether it is there or not
  ack_back : (k w : ℕ) → blank a.count k w ≡ true → (k < a.count → get_or (ack_list a) k 0 ≡ w) → ack_at s k ≡ w
  unfolding ack_at
  ack_back k w b f =
      pick_lt (λ (x : ℕ). x ≡ w) k (count_at s)
      (λ l. rw parts (word_there (packed (fixed_fields h a.count)) (ack_list a) payload k wide (omega (arith, list_length a count, counted))) ∙ f (omega (arith, counted)))
      (λ l. sym (eqb-true w 0 (rw (le-ltb k a.count (omega (arith, counted))) at b)))

  acks_back : acks_at s ≡ a
  unfolding acks_at acks_blank fields_fit
  acks_back =
      let f = each (ltb h.identifier 128 ∷ ltb h.kind 128 ∷ ltb h.number 16384 ∷ ltb h.base 16384 ∷ leb a.count 3 ∷ acks_blank a ∷ numbers_placed h (length payload) ∷ []) tests.0 in
      let b = each (blank a.count 0 a.one ∷ blank a.count 1 a.two ∷ blank a.count 2 a.three ∷ []) f.1.1.1.1.1.0 in
      let ws : List ℕ = a.one ∷ a.two ∷ a.three ∷ [] in
      let x = ack_back 0 a.one b.0 (get_or-take a.count ws 0 0) in
      let y = ack_back 1 a.two b.1.0 (get_or-take a.count ws 1 0) in
      let z = ack_back 2 a.three b.1.1.0 (get_or-take a.count ws 2 0) in
      λ i. record { count = counted i; one = x i; two = y i; three = z i }

  own : channel_at s ≡ h.channel
  own = fixed.1.1.1.1.0

  places : numbers_placed h (length payload) ≡ true
  unfolding fields_fit
  places = (each (ltb h.identifier 128 ∷ ltb h.kind 128 ∷ ltb h.number 16384 ∷ ltb h.base 16384 ∷ leb a.count 3 ∷ acks_blank a ∷ numbers_placed h (length payload) ∷ []) tests.0).1.1.1.1.1.1.0

  -- on channel 0 both numbers are 0
  on_none : h.channel ≡ 0 → (h.number ≡ 0) × (h.base ≡ 0)
  unfolding numbers_placed
  on_none c =
      let t = each (eqb h.number 0 ∷ eqb h.base 0 ∷ []) (rw (eq-eqb h.channel 0 c) at places) in
      (eqb-true _ _ t.0, eqb-true _ _ t.1.0)

  -- without payload the number is 0
  on_empty : (h.channel ≡ 0 → ⊥) → length payload ≡ 0 → h.number ≡ 0
  unfolding numbers_placed
  on_empty c e = eqb-true _ _ (rw (ne_eqb h.channel 0 c, eq-eqb (length payload) 0 e) at places)

  number_back : number_at s ≡ h.number
  unfolding number_at
  number_back =
      pick_by (λ (x : ℕ). x ≡ h.number) (eqb (channel_at s) 0)
      (λ t. sym (on_none (sym own ∙ eqb-true _ _ t)).0)
      (λ t. pick_by (λ (x : ℕ). x ≡ h.number) (leb (length s) (header_length s))
      (λ u. let l : length s ≤ header_length s = leb-true _ _ u in sym (on_empty (λ c. eqb-false _ _ t (own ∙ c)) (omega (arith, long, counted))))
      (λ u. fixed.1.1.1.1.1.0))

  base_back : base_at s ≡ h.base
  unfolding base_at
  base_back =
      pick_by (λ (x : ℕ). x ≡ h.base) (eqb (channel_at s) 0)
      (λ t. sym (on_none (sym own ∙ eqb-true _ _ t)).1)
      (λ t. fixed.1.1.1.1.1.1.1.0)

  head_back : head_at s ≡ h
  unfolding head_at
  head_back = λ i. record { identifier = fixed.1.0 i; kind = fixed.1.1.1.0 i; channel = own i; number = number_back i; base = base_back i }

  -- the head reads back
  pub head_round : head_read (packet_octets h a payload) ≡ Ok h
  unfolding s
  head_round =
      let l : 6 ≤ length s = omega (arith, long) in
      let f = together (eqb (bits_at s 0 1) 0 ∷ eqb (bits_at s 8 1) 0 ∷ []) (eq-eqb _ _ fixed.0, (eq-eqb _ _ fixed.1.1.0, tt)) in
      sym (settles_took (verdict (head_tests s)) Err (Ok (head_at s)) refl (passes (head_tests s) (le-leb _ _ l, (f, tt))) (ap Ok (sym head_back)))

  -- the acknowledgements read back
  pub acks_round : acks_read (packet_octets h a payload) ≡ Ok a
  unfolding s
  acks_round =
      let l : header_length s ≤ length s = omega (arith, long, counted) in
      let c : channel_at s < 3 = omega (arith, own, channel) in
      let f = together (ltb (channel_at s) 3 ∷ acks_served (acks_at s) ∷ []) (lt-ltb _ _ c, (ap acks_served acks_back ∙ all_served, tt)) in
      sym (settles_took (verdict (list_tests s)) Err (Ok (acks_at s)) refl (passes (list_tests s) (le-leb _ _ l, (f, tt))) (ap Ok (sym acks_back)))

  -- the payload reads back, and is not too large
  pub payload_round : payload_of (packet_octets h a payload) ≡ payload
  unfolding payload_of packet_octets s
  payload_round = drop_at (packed (layout h a)) payload (header_length s) (header_length_lem h a count ∙ ap (λ (n : ℕ). 6 + 2 * n) (sym counted))

  pub size_round : payload_fits (packet_octets h a payload) largest ≡ true
  unfolding s
  size_round =
      let n : length s - header_length s ≡ length payload = omega (arith, long, counted) in
      (λ i. size_fits (own i) (n i) largest) ∙ tests.1.1.0

-- two packets that are written alike are one
pub written_once : (h k : Head) (a b : Acks) (p q : List ℕ) (x y m n : ℕ) → verdict (write_tests h a p x m) ≡ Ok tt → verdict (write_tests k b q y n) ≡ Ok tt
    → packet_octets h a p ≡ packet_octets k b q → (h ≡ k) × (a ≡ b) × (p ≡ q)
written_once h k a b p q x y m n u v e =
    let d : Ok h ≡ Ok k = sym (head_round h a p x m u) ∙ ap head_read e ∙ head_round k b q y n v in
    let f : Ok a ≡ Ok b = sym (acks_round h a p x m u) ∙ ap acks_read e ∙ acks_round k b q y n v in
    (cc, cc, sym (payload_round h a p x m u) ∙ ap payload_of e ∙ payload_round k b q y n v)
