-- What is packed reads back: one law for every field of every layout; and a layout is cut where an octet or a word ends.
-- Assumes nothing.
use mathlib.Core.Path.{◌≡◌, refl, sym, ap, ◌∙◌, subst}
use mathlib.Core.List.{List, [], ◌∷◌, ◌++◌, append_assoc, append-nil}
use Prim.Native.Nat.{ℕ, zero, suc, ◌+◌, ◌-◌, ◌*◌, ◌/◌, ◌%◌, ◌^◌, ◌≤◌, ◌<◌}
use native.Mathlib.Nat.{add-zero, zero-add, add-suc, add_assoc, add_comm, mul_assoc, add-mul, mod-one, suc-add, le_refl, le_of_lt, add-mul-div_right, mul-add-mod_self_right}
use native.Mathlib.Omega.{arith}
use native.Mathlib.Numerals.{add-one}
use lib.Dec.{lit<, lit≤}
use lib.ListN.{length, get_or, take}
use lib.Seq.{get_or-append-add}
use lib.Arith.{digits_lt}
use lib.Pow.{pow_pos, pow-add, split, high, low, field, shr-shr, mod-mod-pow}
use Rattle.field.specs.Bits.{bit_at, bits_at}
use Rattle.field.specs.Layout.{Field, of, octets, word_octets, widths, join, packed, InWidth, Reads}
use Rattle.field.proofs.Laws.{last_digit}

pub length_octets : (n x : ℕ) → length (octets n x) ≡ n
length_octets zero x = refl
length_octets (suc n) x = ap suc (length_octets n x)

-- octet k of n, and of what follows
get_or_octets : (n x k : ℕ) (rest : List ℕ) → k < n → get_or (octets n x ++ rest) k 0 ≡ x / 2 ^ (8 * (n - suc k)) % 2 ^ 8
get_or_octets zero x k rest h = absurd (omega arith)
get_or_octets (suc n) x zero rest h = ap (λ (m : ℕ). x / 2 ^ (8 * m) % 2 ^ 8) (omega arith)
get_or_octets (suc n) x (suc k) rest h = get_or_octets n x k rest (omega arith) ∙ ap (λ (m : ℕ). x / 2 ^ (8 * m) % 2 ^ 8) (omega arith)

-- bit i of n octets
bit_octets : (n x i : ℕ) (rest : List ℕ) → i < 8 * n → bit_at (octets n x ++ rest) i ≡ x / 2 ^ (8 * n - suc i) % 2
unfolding bit_at
bit_octets n x i rest h =
    let k : i / 8 < n = omega arith in
    let y : ℕ = x / 2 ^ (8 * (n - suc (i / 8))) in
    let m : ℕ = 7 - i % 8 in
    let e : 8 ≡ suc (i % 8) + m = omega arith in
    let e' : 8 * (n - suc (i / 8)) + m ≡ 8 * n - suc i = omega arith in
    rw (get_or_octets n x (i / 8) rest k)
    (ap (λ (w : ℕ). y % 2 ^ w / 2 ^ m % 2) e ∙ ap (λ (z : ℕ). z % 2) (field y (suc (i % 8)) m)
    ∙ ap (λ (w : ℕ). y / 2 ^ m % 2 ^ w % 2) (sym (add-one (i % 8))) ∙ mod-mod-pow (y / 2 ^ m) (i % 8) 1
    ∙ ap (λ (z : ℕ). z % 2) (shr-shr x (8 * (n - suc (i / 8))) m) ∙ ap (λ (w : ℕ). x / 2 ^ w % 2) e')

-- w bits from bit b of n octets
pub bits_octets : (n x b w : ℕ) (rest : List ℕ) → b + w ≤ 8 * n → bits_at (octets n x ++ rest) b w ≡ x / 2 ^ (8 * n - (b + w)) % 2 ^ w
unfolding bits_at
bits_octets n x b zero rest h = sym (mod-one (x / 2 ^ (8 * n - (b + 0))))
bits_octets n x b (suc w) rest h =
    let k : b + suc w ≡ suc (b + w) = add-suc b w in
    let z : ℕ = 8 * n - suc (b + w) in
    let e : 8 * n - (b + w) ≡ z + 1 = omega arith in
    let e' : 8 * n - (b + suc w) ≡ z = omega arith in
    let h' : b + w ≤ 8 * n = omega arith in
    let h'' : b + w < 8 * n = omega arith in
    rw (bits_octets n x b w rest h', bit_octets n x (b + w) rest h'', e, e', ← shr-shr x z 1) (last_digit (x / 2 ^ z) w)

-- fields joined behind a number
pub join_behind : (a : ℕ) (fs : List Field) → join a fs ≡ a * 2 ^ widths fs + join 0 fs
join_behind a [] = omega arith
join_behind a (f ∷ fs) =
    let p : ℕ = 2 ^ f.width in
    let q : ℕ = 2 ^ widths fs in
    let e : (a * p + f.value) * q ≡ a * (p * q) + f.value * q = add-mul (a * p) f.value q ∙ ap (λ (n : ℕ). n + f.value * q) (mul_assoc a p q) in
    let e' : 0 * p + f.value ≡ f.value = omega arith in
    rw (join_behind (a * p + f.value) fs, e', join_behind f.value fs, pow-add 2 f.width (widths fs), e) (omega arith)

pub join_lt : (fs : List Field) → InWidth fs → join 0 fs < 2 ^ widths fs
join_lt [] r = lit< tt
join_lt (f ∷ fs) r =
    let e : 0 * 2 ^ f.width + f.value ≡ f.value = omega arith in
    rw (e, join_behind f.value fs, pow-add 2 f.width (widths fs)) (digits_lt r.0 (join_lt fs r.1))

pub join_append : (a : ℕ) (fs gs : List Field) → join a (fs ++ gs) ≡ join (join a fs) gs
join_append a [] gs = refl
join_append a (f ∷ fs) gs = join_append (a * 2 ^ f.width + f.value) fs gs

widths_append : (fs gs : List Field) → widths (fs ++ gs) ≡ widths fs + widths gs
widths_append [] gs = sym (zero-add (widths gs))
widths_append (f ∷ fs) gs = ap (λ (n : ℕ). f.width + n) (widths_append fs gs) ∙ sym (add_assoc f.width (widths fs) (widths gs))

module _ (n : ℕ) (rest : List ℕ) where
  -- a field behind the fields `front` and before the fields `back` is read back at its place
  one_back : (front : List Field) (f : Field) (back : List Field) → f.value < 2 ^ f.width → InWidth back
      → widths front + f.width + widths back ≡ 8 * n → bits_at (octets n (join 0 (front ++ f ∷ back)) ++ rest) (widths front) f.width ≡ f.value
  one_back front f back h r e =
      let w : ℕ = f.width in
      let x : ℕ = join 0 front * 2 ^ w + f.value in
      let e₁ : join 0 (front ++ f ∷ back) ≡ x * 2 ^ widths back + join 0 back = join_append 0 front (f ∷ back) ∙ join_behind x back in
      let e₂ : 8 * n - (widths front + w) ≡ widths back = omega arith in
      let h' : widths front + w ≤ 8 * n = omega arith in
      bits_octets n (join 0 (front ++ f ∷ back)) (widths front) w rest h'
      ∙ rw (e₁, e₂, high x (widths back) (join_lt back r), low (join 0 front) w h)

  from_back : (front fs : List Field) → InWidth fs → widths front + widths fs ≡ 8 * n → Reads (octets n (join 0 (front ++ fs)) ++ rest) (widths front) fs
  from_back front [] r e = tt
  from_back front (f ∷ fs) r e =
      let v : widths (front ++ f ∷ []) ≡ widths front + f.width = widths_append front (f ∷ []) ∙ ap (λ (k : ℕ). widths front + k) (add-zero f.width) in
      let a : (front ++ f ∷ []) ++ fs ≡ front ++ f ∷ fs = append_assoc front (f ∷ []) fs in
      let t = from_back (front ++ f ∷ []) fs r.1 (omega arith) in (
        one_back front f fs r.0 r.1 (add_assoc (widths front) f.width (widths fs) ∙ e),
        subst (λ (l : List Field). Reads (octets n (join 0 l) ++ rest) (widths front + f.width) fs) a
            (subst (λ (k : ℕ). Reads (octets n (join 0 ((front ++ f ∷ []) ++ fs)) ++ rest) k fs) v t),
      )

  -- fields that are packed are read back, each at its place, whatever stands behind
  pub reads_back : (fs : List Field) → InWidth fs → widths fs ≡ 8 * n → Reads (octets n (join 0 fs) ++ rest) 0 fs
  reads_back fs r e = from_back [] fs r (zero-add (widths fs) ∙ e)

-- what is packed with nothing behind it
pub reads_whole : (n : ℕ) (fs : List Field) → InWidth fs → widths fs ≡ 8 * n → Reads (octets n (join 0 fs)) 0 fs
reads_whole n fs r e = subst (λ (l : List ℕ). Reads l 0 fs) (append-nil (octets n (join 0 fs))) (reads_back n [] fs r e)

-- fields behind fields
pub reads_append : (s : List ℕ) (b : ℕ) (fs gs : List Field) → Reads s b fs → Reads s (b + widths fs) gs → Reads s b (fs ++ gs)
reads_append s b [] gs r q = subst (λ (n : ℕ). Reads s n gs) (add-zero b) q
reads_append s b (f ∷ fs) gs r q =
    (r.0, reads_append s (b + f.width) fs gs r.1 (subst (λ (n : ℕ). Reads s n gs) (sym (add_assoc b f.width (widths fs))) q))

-- Octets cut in two.

-- what stands above 8 m bits does not show in n octets, n at most m
octets_above : (m n a y : ℕ) → n ≤ m → octets n (a * 2 ^ (8 * m) + y) ≡ octets n y
octets_above m zero a y h = refl
octets_above m (suc n) a y h =
    let p : ℕ = 2 ^ (8 * n) in
    let b : ℕ = a * 2 ^ (8 * (m - suc n)) in
    let e : 8 * m ≡ 8 * (m - suc n) + (8 + 8 * n) = omega arith in
    let e₁ : a * 2 ^ (8 * m) ≡ b * 2 ^ 8 * p =
    rw (e, pow-add 2 (8 * (m - suc n)) (8 + 8 * n), pow-add 2 8 (8 * n)) (sym (mul_assoc b (2 ^ 8) p ∙ mul_assoc a (2 ^ (8 * (m - suc n))) (2 ^ 8 * p))) in
    let e₂ : (a * 2 ^ (8 * m) + y) / p ≡ b * 2 ^ 8 + y / p =
    rw (e₁, add_comm (b * 2 ^ 8 * p) y, add-mul-div_right y (b * 2 ^ 8) (pow_pos (8 * n))) (add_comm (y / p) (b * 2 ^ 8)) in
    let e₃ : (a * 2 ^ (8 * m) + y) / p % 2 ^ 8 ≡ y / p % 2 ^ 8 = ap (λ (x : ℕ). x % 2 ^ 8) e₂ ∙ mul-add-mod_self_right b (2 ^ 8) (y / p) in
    λ i. e₃ i ∷ octets_above m n a y (le_of_lt h) i

pub octets_add : (m n x : ℕ) → octets (m + n) x ≡ octets m (x / 2 ^ (8 * n)) ++ octets n x
octets_add zero n x = ap (λ (k : ℕ). octets k x) (zero-add n)
octets_add (suc m) n x =
    let e : 8 * n + 8 * m ≡ 8 * (m + n) = omega arith in
    let h : x / 2 ^ (8 * (m + n)) ≡ x / 2 ^ (8 * n) / 2 ^ (8 * m) = ap (λ (k : ℕ). x / 2 ^ k) (sym e) ∙ sym (shr-shr x (8 * n) (8 * m)) in
    ap (λ (k : ℕ). octets k x) (suc-add m n) ∙ (λ i. h i % 2 ^ 8 ∷ octets_add m n x i)

-- fields are cut where an octet ends
pub pack_cut : (m n : ℕ) (fs gs : List Field) → widths gs ≡ 8 * n → InWidth gs → octets (m + n) (join 0 (fs ++ gs)) ≡ octets m (join 0 fs) ++ octets n (join 0 gs)
pack_cut m n fs gs e r =
    let x : join 0 (fs ++ gs) ≡ join 0 fs * 2 ^ (8 * n) + join 0 gs = join_append 0 fs gs ∙ join_behind (join 0 fs) gs ∙ ap (λ (w : ℕ). join 0 fs * 2 ^ w + join 0 gs) e in
    let l : join 0 gs < 2 ^ (8 * n) = subst (λ (w : ℕ). join 0 gs < 2 ^ w) e (join_lt gs r) in
    octets_add m n (join 0 (fs ++ gs))
    ∙ rw (x, high (join 0 fs) (8 * n) l, octets_above n n (join 0 fs) (join 0 gs) (le_refl n))

-- a field of what stands behind a list
bit_behind : (p q : List ℕ) (i : ℕ) → bit_at (p ++ q) (8 * length p + i) ≡ bit_at q i
unfolding bit_at
bit_behind p q i =
    let e : (8 * length p + i) / 8 ≡ length p + i / 8 = omega arith in
    let e' : (8 * length p + i) % 8 ≡ i % 8 = omega arith in
    rw (e, e', get_or-append-add p q (i / 8) 0)

pub bits_behind : (p q : List ℕ) (b w : ℕ) → bits_at (p ++ q) (8 * length p + b) w ≡ bits_at q b w
unfolding bits_at
bits_behind p q b zero = refl
bits_behind p q b (suc w) = rw (bits_behind p q b w, add_assoc (8 * length p) b w, bit_behind p q (b + w))

-- n octets of x are those of its low 8 n bits
pub octets_low : (n x : ℕ) → octets n (x % 2 ^ (8 * n)) ≡ octets n x
octets_low n x = sym (ap (octets n) (sym (split x (8 * n))) ∙ octets_above n n (x / 2 ^ (8 * n)) (x % 2 ^ (8 * n)) (le_refl n))

-- a field cut in two
pub join_cut : (a v w x : ℕ) (fs : List Field) → join a (of (v + w) x ∷ fs) ≡ join a (of v (x / 2 ^ w) ∷ of w (x % 2 ^ w) ∷ fs)
join_cut a v w x fs =
    let p : ℕ = 2 ^ w in
    let e : a * 2 ^ (v + w) ≡ a * 2 ^ v * p = ap (λ (n : ℕ). a * n) (pow-add 2 v w) ∙ sym (mul_assoc a (2 ^ v) p) in
    let d : (a * 2 ^ v + x / p) * p ≡ a * 2 ^ v * p + x / p * p = add-mul (a * 2 ^ v) (x / p) p in
    let t : x / p * p + x % p ≡ x = split x w in
    ap (λ (n : ℕ). join n fs) (omega arith)

-- Fields in groups of 16 bits are words: what a writer joins word by word is the layout as a whole.

-- each group has 16 bits, and each of its numbers has room
abbrev pub Words : List (List Field) → Type 0
Words [] = Unit
Words (g ∷ gs) = (widths g ≡ 16) × InWidth g × Words gs

abbrev pub all : List (List Field) → List Field
all [] = []
all (g ∷ gs) = g ++ all gs

abbrev pub joined : List (List Field) → List ℕ
joined [] = []
joined (g ∷ gs) = join 0 g ∷ joined gs

pub room_append : (fs gs : List Field) → InWidth fs → InWidth gs → InWidth (fs ++ gs)
room_append [] gs r q = q
room_append (f ∷ fs) gs r q = (r.0, room_append fs gs r.1 q)

words_room : (gs : List (List Field)) → Words gs → InWidth (all gs)
words_room [] w = tt
words_room (g ∷ gs) w = room_append g (all gs) w.1 (words_room gs w.2)

words_wide : (gs : List (List Field)) → Words gs → widths (all gs) ≡ 8 * (2 * length gs)
words_wide [] w = refl
words_wide (g ∷ gs) w = widths_append g (all gs) ∙ (λ i. w.0 i + words_wide gs w.2 i) ∙ omega arith

words_octets : (gs : List (List Field)) → Words gs → octets (2 * length gs) (join 0 (all gs)) ≡ word_octets (joined gs)
words_octets [] w = refl
words_octets (g ∷ gs) w =
    let e : 2 * suc (length gs) ≡ 2 + 2 * length gs = omega arith in
    ap (λ (n : ℕ). octets n (join 0 (g ++ all gs))) e
    ∙ pack_cut 2 (2 * length gs) g (all gs) (words_wide gs w.2) (words_room gs w.2)
    ∙ ap (λ (l : List ℕ). octets 2 (join 0 g) ++ l) (words_octets gs w.2)

pub words_packed : (gs : List (List Field)) → Words gs → packed (all gs) ≡ word_octets (joined gs)
words_packed gs w =
    let e : widths (all gs) / 8 ≡ 2 * length gs = omega (arith, words_wide gs w) in
    ap (λ (n : ℕ). octets n (join 0 (all gs))) e ∙ words_octets gs w

pub words_take : (n : ℕ) (gs : List (List Field)) → Words gs → Words (take n gs)
words_take zero gs w = tt
words_take (suc n) [] w = tt
words_take (suc n) (g ∷ gs) w = (w.0, w.1, words_take n gs w.2)

-- each is a word of 16 bits
abbrev pub Wide : List ℕ → Type 0
Wide [] = Unit
Wide (w ∷ ws) = (w < 2 ^ 16) × Wide ws

-- word k of words that stand at the front, and of words that stand behind other octets
word_front : (ws rest : List ℕ) (k : ℕ) → Wide ws → k < length ws → bits_at (word_octets ws ++ rest) (16 * k) 16 ≡ get_or ws k 0
word_front [] rest k h l = absurd (omega arith)
word_front (w ∷ ws) rest zero h l =
    let k : w < 2 ^ 16 = h.0 in
    bits_octets 2 w 0 16 (word_octets ws ++ rest) (lit≤ tt) ∙ omega arith
word_front (w ∷ ws) rest (suc k) h l =
    let e : 16 * suc k ≡ 8 * 2 + 16 * k = omega arith in
    ap (λ (b : ℕ). bits_at (word_octets (w ∷ ws) ++ rest) b 16) e ∙ bits_behind (octets 2 w) (word_octets ws ++ rest) (16 * k) 16 ∙ word_front ws rest k h.1 (omega arith)

pub word_there : (p ws rest : List ℕ) (k : ℕ) → Wide ws → k < length ws → bits_at (p ++ (word_octets ws ++ rest)) (8 * (length p + 2 * k)) 16 ≡ get_or ws k 0
word_there p ws rest k h l =
    let e : 8 * (length p + 2 * k) ≡ 8 * length p + 16 * k = omega arith in
    ap (λ (b : ℕ). bits_at (p ++ (word_octets ws ++ rest)) b 16) e ∙ bits_behind p (word_octets ws ++ rest) (16 * k) 16 ∙ word_front ws rest k h l
