-- A header as the words that the code joins, and what the tests before writing show.
-- Assumes nothing.
use mathlib.Core.Path.{◌≡◌, refl, ap, sym, ◌∙◌}
use mathlib.Core.Bool.{true}
use mathlib.Core.List.{List, [], ◌∷◌, ◌++◌}
use Prim.Native.Nat.{ℕ, zero, suc, ◌+◌, ◌*◌, ◌/◌, ◌%◌, ◌^◌, ◌≤◌, ◌<◌}
use native.Mathlib.Nat.{zero-add}
use native.Mathlib.Omega.{arith}
use lib.Dec.{lit≤, lit<, ltb, leb}
use lib.ListN.{length, take, length-append, length-take}
use lib.Seq.{sets}
use lib.Bits.{bit_or}
use borrow.Author.Tests.{ltb-true, leb-true}
use Rattle.std.specs.Prelude.{Ok}
use Rattle.ground.specs.Refusal.{Verdict, verdict}
use Rattle.ground.specs.Answer.{Writes}
use Rattle.ground.proofs.Picks.{each, both_true}
use Rattle.ground.proofs.Verdicts.{Holds, passed}
use Rattle.field.specs.Layout.{Field, of, word_octets, widths, join, packed, InWidth}
use Rattle.field.proofs.Laws.{join_is}
use Rattle.field.proofs.Packs.{Wide, Words, all, joined, words_packed, length_octets}
use Rattle.field.proofs.Stores.{sets_append, stored_writes}
use Rattle.field.specs.Word.{channel_of, number_of}
use Rattle.packet.specs.Acks.{ack_list, acks_blank}
use Rattle.packet.specs.Write.{fixed_fields, ack_fields, layout, packet_octets, fields_fit, numbers_placed, write_tests}
use Rattle.packet.specs.declared.Head.{Head}
use Rattle.packet.specs.declared.Acks.{Acks}

pub wide_take : (n : ℕ) (ws : List ℕ) → Wide ws → Wide (take n ws)
wide_take zero ws h = tt
wide_take (suc n) [] h = tt
wide_take (suc n) (w ∷ ws) h = (h.0, wide_take n ws h.1)

-- each acknowledgement is a word of two fields
abbrev ack_groups : List ℕ → List (List Field)
ack_groups [] = []
ack_groups (w ∷ ws) = (of 2 (channel_of w) ∷ of 14 (number_of w) ∷ []) ∷ ack_groups ws

acks_all : (ws : List ℕ) → all (ack_groups ws) ≡ ack_fields ws
acks_all [] = refl
acks_all (w ∷ ws) = ap (λ (fs : List Field). of 2 (channel_of w) ∷ of 14 (number_of w) ∷ fs) (acks_all ws)

acks_words : (ws : List ℕ) → Wide ws → Words (ack_groups ws)
acks_words [] h = tt
acks_words (w ∷ ws) h =
    let k : w < 2 ^ 16 = h.0 in
    (refl, (omega arith, (omega arith, tt)), acks_words ws h.1)

acks_joined : (ws : List ℕ) → joined (ack_groups ws) ≡ ws
acks_joined [] = refl
acks_joined (w ∷ ws) =
    let e : (0 * 2 ^ 2 + channel_of w) * 2 ^ 14 + number_of w ≡ w = omega arith in
    λ i. e i ∷ acks_joined ws i

-- the list of acknowledgements is its words, behind the six octets
pub list_words : (ws : List ℕ) → Wide ws → packed (ack_fields ws) ≡ word_octets ws
list_words ws h = ap packed (sym (acks_all ws)) ∙ words_packed (ack_groups ws) (acks_words ws h) ∙ ap word_octets (acks_joined ws)

pub list_room : (ws : List ℕ) → Wide ws → InWidth (ack_fields ws)
list_room [] h = tt
list_room (w ∷ ws) h =
    let k : w < 2 ^ 16 = h.0 in
    (omega arith, (omega arith, list_room ws h.1))

pub list_wide : (ws : List ℕ) → widths (ack_fields ws) ≡ 16 * length ws
list_wide [] = refl
list_wide (w ∷ ws) = ap (λ (n : ℕ). 2 + (14 + n)) (list_wide ws) ∙ omega arith

pub list_length : (a : Acks) → a.count ≤ 3 → length (ack_list a) ≡ a.count
list_length a h = length-take a.count (a.one ∷ a.two ∷ a.three ∷ []) ∙ omega arith

module _ (h : Head) (a : Acks) where
  abbrev lead : List Field
  lead = of 1 0 ∷ of 7 h.identifier ∷ of 1 0 ∷ of 7 h.kind ∷ []

  abbrev own : List Field
  own = of 2 h.channel ∷ of 14 h.number ∷ []

  abbrev more : List Field
  more = of 2 a.count ∷ of 14 h.base ∷ []

  module _ (r : InWidth (fixed_fields h a.count)) (w : Wide (ack_list a)) where
    -- the octets, word by word
    header_words : packed (layout h a) ≡ word_octets (join 0 lead ∷ join 0 own ∷ join 0 more ∷ ack_list a)
    header_words =
        let gs : List (List Field) = lead ∷ own ∷ more ∷ ack_groups (ack_list a) in
        let s : Words gs = (refl, (r.0, (r.1.0, (r.1.1.0, (r.1.1.1.0, tt)))), (refl, (r.1.1.1.1.0, (r.1.1.1.1.1.0, tt)), (refl, (r.1.1.1.1.1.1.0, (r.1.1.1.1.1.1.1.0, tt)), acks_words (ack_list a) w))) in
        ap (λ (fs : List Field). packed (fixed_fields h a.count ++ fs)) (sym (acks_all (ack_list a)))
        ∙ words_packed gs s ∙ ap (λ (ws : List ℕ). word_octets (join 0 lead ∷ join 0 own ∷ join 0 more ∷ ws)) (acks_joined (ack_list a))

    -- the words that the code joins, stored, are the header
    pub header_stored : (l : List ℕ) {l₁ : List ℕ}
        → l₁ ≡ sets l 0 (word_octets (take (3 + a.count) (bit_or (h.identifier * 2 ^ 8 % 2 ^ 16) h.kind ∷ bit_or (h.channel * 2 ^ 14 % 2 ^ 16) h.number ∷ bit_or (a.count * 2 ^ 14 % 2 ^ 16) h.base ∷ a.one ∷ a.two ∷ a.three ∷ [])))
        → l₁ ≡ sets l 0 (packed (layout h a))
    header_stored l e =
        let k : h.kind < 2 ^ 8 = omega arith in
        let x : bit_or (h.identifier * 2 ^ 8 % 2 ^ 16) h.kind ≡ join 0 lead = join_is 7 8 16 r.1.0 k (lit≤ tt) ∙ omega arith in
        let y : bit_or (h.channel * 2 ^ 14 % 2 ^ 16) h.number ≡ join 0 own = join_is 2 14 16 r.1.1.1.1.0 r.1.1.1.1.1.0 (lit≤ tt) ∙ omega arith in
        let z : bit_or (a.count * 2 ^ 14 % 2 ^ 16) h.base ≡ join 0 more = join_is 2 14 16 r.1.1.1.1.1.1.0 r.1.1.1.1.1.1.1.0 (lit≤ tt) ∙ omega arith in
        let t : 3 + a.count ≡ suc (suc (suc a.count)) = omega arith in
        e ∙ (λ i. sets l 0 (word_octets (take (t i) (x i ∷ y i ∷ z i ∷ a.one ∷ a.two ∷ a.three ∷ [])))) ∙ ap (sets l 0) (sym header_words)

  pub header_length_lem : a.count ≤ 3 → length (packed (layout h a)) ≡ 6 + 2 * a.count
  header_length_lem k =
      let e : widths (layout h a) ≡ 1 + (7 + (1 + (7 + (2 + (14 + (2 + (14 + 16 * a.count))))))) =
      ap (λ (n : ℕ). 1 + (7 + (1 + (7 + (2 + (14 + (2 + (14 + n)))))))) (list_wide (ack_list a) ∙ ap (λ (n : ℕ). 16 * n) (list_length a k)) in
      length_octets (widths (layout h a) / 8) (join 0 (layout h a)) ∙ omega arith

  pub packet_length : a.count ≤ 3 → (payload : List ℕ) → length (packet_octets h a payload) ≡ 6 + 2 * a.count + length payload
  unfolding packet_octets
  packet_length k payload = length-append (packed (layout h a)) payload ∙ ap (λ (n : ℕ). n + length payload) (header_length_lem k)

  -- a header and the payload behind it, stored one after the other
  pub packet_stored : a.count ≤ 3 → (payload l : List ℕ) {l₁ l₂ : List ℕ} {n : ℕ} → n ≡ 6 + 2 * a.count
      → l₁ ≡ sets l 0 (packed (layout h a)) → l₂ ≡ sets l₁ n payload → l₂ ≡ sets l 0 (packet_octets h a payload)
  unfolding packet_octets
  packet_stored k payload l e e₁ e₂ =
      let p : List ℕ = packed (layout h a) in
      e₂ ∙ (λ i. sets (e₁ i) ((e ∙ sym (header_length_lem k) ∙ sym (zero-add (length p))) i) payload) ∙ sym (sets_append p payload l 0)

  -- what the tests show
  pub fits_room : (n : ℕ) → fields_fit h a n ≡ true → h.channel < 3 → InWidth (fixed_fields h a.count)
  unfolding fields_fit
  fits_room n e c =
      let t = each (ltb h.identifier 128 ∷ ltb h.kind 128 ∷ ltb h.number 16384 ∷ ltb h.base 16384 ∷ leb a.count 3 ∷ acks_blank a ∷ numbers_placed h n ∷ []) e in
      let k : a.count ≤ 3 = leb-true _ _ t.1.1.1.1.0 in
      (lit< tt, (ltb-true _ _ t.0, (lit< tt, (ltb-true _ _ t.1.0, (omega arith, (ltb-true _ _ t.1.1.0, (omega arith, (ltb-true _ _ t.1.1.1.0, tt))))))))

  pub fits_count : (n : ℕ) → fields_fit h a n ≡ true → a.count ≤ 3
  unfolding fields_fit
  fits_count n e = leb-true _ _ (each (ltb h.identifier 128 ∷ ltb h.kind 128 ∷ ltb h.number 16384 ∷ ltb h.base 16384 ∷ leb a.count 3 ∷ acks_blank a ∷ numbers_placed h n ∷ []) e).1.1.1.1.0

-- all tests before writing pass: then the header's fields have room, and what is stored is the packet
module _ (h : Head) (a : Acks) (payload : List ℕ) (largest : ℕ) (l : List ℕ) {v : Verdict} (e : v ≡ verdict (write_tests h a payload largest (length l))) (k : v ≡ Ok tt) where
  tests : Holds (write_tests h a payload largest (length l))
  tests = passed (write_tests h a payload largest (length l)) (sym e ∙ k)

  pub write_room : InWidth (fixed_fields h a.count)
  write_room = fits_room h a (length payload) tests.0 (ltb-true _ _ (both_true _ _ tests.1.0).0)

  pub write_done : {l₁ l₂ : List ℕ} {n : ℕ} → n ≡ 6 + 2 * a.count → l₁ ≡ sets l 0 (packed (layout h a)) → l₂ ≡ sets l₁ n payload
      → Writes (write_tests h a payload largest (length l)) (packet_octets h a payload) l l₂ (Ok (n + length payload))
  write_done p e₁ e₂ =
      let c : a.count ≤ 3 = fits_count h a (length payload) tests.0 in
      stored_writes (write_tests h a payload largest (length l)) (packet_octets h a payload) l e k (leb-true _ _ tests.1.1.1.0)
      (omega (arith, packet_length h a c payload)) (packet_stored h a c payload l p e₁ e₂)
