-- Whole octets that are read field by field are the fields packed: what was read is written again as it came.
-- Assumes nothing.
use mathlib.Core.Path.{◌≡◌, refl, sym, ap, ◌∙◌}
use mathlib.Core.List.{List, [], ◌∷◌}
use Prim.Native.Nat.{ℕ, zero, suc, ◌+◌, ◌-◌, ◌*◌, ◌/◌, ◌%◌, ◌^◌, ◌≤◌, ◌<◌}
use native.Mathlib.Nat.{zero-add, le_refl}
use native.Mathlib.Omega.{arith}
use lib.ListN.{length, take, drop, take-append-drop, length-drop}
use lib.Seq.{take-length, length-take-le}
use lib.Pow.{pow_pos, high, low}
use Rattle.field.specs.Bits.{bits_at}
use Rattle.field.specs.Layout.{Field, of, octets, widths, join, packed, Reads}
use Rattle.field.proofs.Laws.{bits_add, bits_lt, bits_mid, octet_of}
use Rattle.field.proofs.Packs.{length_octets, octets_low, join_behind, reads_whole, bits_behind}
use Rattle.roundtrip.specs.Again.{Octets, cleared}

-- the first n octets are the octets of their bits
octets_bits : (s : List ℕ) (n : ℕ) → Octets s → n ≤ length s → octets n (bits_at s 0 (8 * n)) ≡ take n s
octets_bits s zero o h = refl
octets_bits [] (suc n) o h = absurd (omega arith)
octets_bits (a ∷ s) (suc n) o h =
    let y : ℕ = bits_at s 0 (8 * n) in
    let l : y < 2 ^ (8 * n) = bits_lt s 0 (8 * n) in
    let e : 8 * suc n ≡ 8 + 8 * n = omega arith in
    let f : bits_at (a ∷ s) 0 8 ≡ a = sym (octet_of (a ∷ s) 0 refl o.0) in
    let g : bits_at (a ∷ s) 8 (8 * n) ≡ y = bits_behind (a ∷ []) s 0 (8 * n) in
    let x : bits_at (a ∷ s) 0 (8 * suc n) ≡ a * 2 ^ (8 * n) + y = ap (bits_at (a ∷ s) 0) e ∙ bits_add (a ∷ s) 0 8 (8 * n) ∙ (λ i. f i * 2 ^ (8 * n) + g i) in
    let k : a < 2 ^ 8 = o.0 in
    let p : (a * 2 ^ (8 * n) + y) / 2 ^ (8 * n) % 2 ^ 8 ≡ a = ap (λ (m : ℕ). m % 2 ^ 8) (high a (8 * n) l) ∙ omega arith in
    let q : octets n (a * 2 ^ (8 * n) + y) ≡ take n s = sym (octets_low n (a * 2 ^ (8 * n) + y)) ∙ ap (octets n) (low a (8 * n) l) ∙ octets_bits s n o.1 (omega arith) in
    ap (octets (suc n)) x ∙ (λ i. p i ∷ q i)

-- fields that are read one after the other, joined, are all their bits
join_reads : (s : List ℕ) (b : ℕ) (fs : List Field) → Reads s b fs → join 0 fs ≡ bits_at s b (widths fs)
unfolding bits_at
join_reads s b [] r = refl
join_reads s b (f ∷ fs) r =
    let e : 0 * 2 ^ f.width + f.value ≡ f.value = omega arith in
    ap (λ (m : ℕ). join m fs) e ∙ join_behind f.value fs ∙ (λ i. sym r.0 i * 2 ^ widths fs + join_reads s (b + f.width) fs r.1 i)
    ∙ sym (bits_add s b f.width (widths fs))

-- the first n octets, read field by field, are the fields packed
packs_octets : (s : List ℕ) (n : ℕ) (fs : List Field) → Octets s → n ≤ length s → widths fs ≡ 8 * n → Reads s 0 fs → octets n (join 0 fs) ≡ take n s
packs_octets s n fs o h w r = ap (octets n) (join_reads s 0 fs r ∙ ap (bits_at s 0) w) ∙ octets_bits s n o h

pub packs_front : (s : List ℕ) (n : ℕ) (fs : List Field) → Octets s → n ≤ length s → widths fs ≡ 8 * n → Reads s 0 fs → packed fs ≡ take n s
packs_front s n fs o h w r =
    let e : widths fs / 8 ≡ n = omega arith in
    ap (λ (m : ℕ). octets m (join 0 fs)) e ∙ packs_octets s n fs o h w r

-- all octets, read field by field, are the fields packed
pub packs_whole : (s : List ℕ) (fs : List Field) → Octets s → widths fs ≡ 8 * length s → Reads s 0 fs → packed fs ≡ s
packs_whole s fs o w r = packs_front s (length s) fs o (le_refl (length s)) w r ∙ take-length s

-- where a run of bits is the same, so is each part of it
pub part_same : (s t : List ℕ) (b n : ℕ) → bits_at t b n ≡ bits_at s b n → (u w v : ℕ) → u + w + v ≡ n → bits_at t (b + u) w ≡ bits_at s (b + u) w
part_same s t b n e u w v p =
    sym (bits_mid t b u w v) ∙ ap (λ (m : ℕ). m / 2 ^ v % 2 ^ w) (ap (bits_at t b) p ∙ e ∙ ap (bits_at s b) (sym p)) ∙ bits_mid s b u w v

pub octets_small : (n x : ℕ) → Octets (octets n x)
octets_small zero x = tt
octets_small (suc n) x = (omega arith, octets_small n x)

-- Bits that are cleared: they are 0, and all others are as they were.
module _ (s : List ℕ) (b w : ℕ) where
  abbrev rest : ℕ
  rest = 8 * length s - (b + w)

  abbrev fields : List Field
  fields = of b (bits_at s 0 b) ∷ of w 0 ∷ of rest (bits_at s (b + w) rest) ∷ []

  pub cleared_length : length (cleared s b w) ≡ length s
  unfolding cleared
  cleared_length = length_octets (length s) (join 0 fields)

  pub cleared_octets : Octets (cleared s b w)
  unfolding cleared
  cleared_octets = octets_small (length s) (join 0 fields)

  module _ (h : b + w ≤ 8 * length s) where
    wide : widths fields ≡ 8 * length s
    wide = omega arith

    reads : Reads (cleared s b w) 0 fields
    unfolding cleared
    reads = reads_whole (length s) fields (bits_lt s 0 b, (pow_pos w, (bits_lt s (b + w) rest, tt))) wide

    pub cleared_there : bits_at (cleared s b w) b w ≡ 0
    cleared_there = ap (λ (n : ℕ). bits_at (cleared s b w) n w) (sym (zero-add b)) ∙ reads.1.0

    pub cleared_before : (x y : ℕ) → x + y ≤ b → bits_at (cleared s b w) x y ≡ bits_at s x y
    cleared_before x y k =
        let e : 0 + x ≡ x = zero-add x in
        let p : x + y + (b - (x + y)) ≡ b = omega arith in
        sym (ap (λ (n : ℕ). bits_at (cleared s b w) n y) e) ∙ part_same s (cleared s b w) 0 b reads.0 x y (b - (x + y)) p ∙ ap (λ (n : ℕ). bits_at s n y) e

    pub cleared_after : (x y : ℕ) → b + w ≤ x → x + y ≤ 8 * length s → bits_at (cleared s b w) x y ≡ bits_at s x y
    cleared_after x y k l =
        let q : bits_at (cleared s b w) (b + w) rest ≡ bits_at s (b + w) rest = ap (λ (n : ℕ). bits_at (cleared s b w) (n + w) rest) (sym (zero-add b)) ∙ reads.1.1.0 in
        let e : b + w + (x - (b + w)) ≡ x = omega arith in
        let p : x - (b + w) + y + (8 * length s - (x + y)) ≡ rest = omega arith in
        sym (ap (λ (n : ℕ). bits_at (cleared s b w) n y) e) ∙ part_same s (cleared s b w) (b + w) rest q (x - (b + w)) y (8 * length s - (x + y)) p
        ∙ ap (λ (n : ℕ). bits_at s n y) e

    -- bits that are 0 need no clearing
    pub cleared_none : Octets s → bits_at s b w ≡ 0 → cleared s b w ≡ s
    unfolding cleared
    cleared_none o e =
        let z : bits_at s (0 + b) w ≡ 0 = ap (λ (n : ℕ). bits_at s n w) (zero-add b) ∙ e in
        let r : bits_at s (0 + b + w) rest ≡ bits_at s (b + w) rest = ap (λ (n : ℕ). bits_at s (n + w) rest) (zero-add b) in
        packs_octets s (length s) fields o (le_refl (length s)) wide (refl, (z, (r, tt))) ∙ take-length s

-- what stands behind n octets
behind_octets : (s : List ℕ) (n : ℕ) → Octets s → Octets (drop n s)
behind_octets s zero o = o
behind_octets [] (suc n) o = tt
behind_octets (a ∷ s) (suc n) o = behind_octets s n o.1

behind_bits : (s : List ℕ) (n k : ℕ) → n ≤ length s → bits_at (drop n s) 0 k ≡ bits_at s (8 * n) k
behind_bits s n k h =
    let e : 8 * length (take n s) + 0 ≡ 8 * n = omega (arith, length-take-le n s h) in
    sym (bits_behind (take n s) (drop n s) 0 k) ∙ (λ i. bits_at (take-append-drop n s i) (e i) k)

-- octets whose bits are the same from octet n on are the same there
pub behind_same : (s t : List ℕ) (n : ℕ) → Octets s → Octets t → length t ≡ length s → n ≤ length s
    → bits_at t (8 * n) (8 * (length s - n)) ≡ bits_at s (8 * n) (8 * (length s - n)) → drop n t ≡ drop n s
behind_same s t n o p l h e =
    let m : ℕ = length s - n in
    let own : (u : List ℕ) → Octets u → length u ≡ length s → drop n u ≡ octets m (bits_at u (8 * n) (8 * m)) = λ u q k.
    let d : length (drop n u) ≡ m = length-drop n u ∙ ap (λ (i : ℕ). i - n) k in
    sym (ap (λ (i : ℕ). take i (drop n u)) (sym d) ∙ take-length (drop n u))
    ∙ sym (octets_bits (drop n u) m (behind_octets u n q) (omega arith)) ∙ ap (octets m) (behind_bits u n (8 * m) (omega arith)) in
    own t p l ∙ ap (octets m) e ∙ sym (own s o refl)
