-- The laws of masks, shifts and fields, each proved once over its widths.
-- Assumes nothing.
use mathlib.Core.Path.{◌≡◌, refl, sym, ap, ◌∙◌}
use mathlib.Core.List.{List}
use Prim.Native.Nat.{ℕ, zero, suc, ◌+◌, ◌-◌, ◌*◌, ◌/◌, ◌%◌, ◌^◌, ◌≤◌, ◌<◌}
use native.Mathlib.Nat.{add-zero, add-suc, add_assoc, mul_assoc, mod-one, pow-suc, zero-div}
use native.Mathlib.Omega.{arith}
use native.Mathlib.Numerals.{add-one}
use lib.Dec.{lit<, lit≤}
use lib.ListN.{length, get_or, get_or-eq_default}
use lib.Arith.{digits_lt}
use lib.Pow.{pow-add, high, low, shl_exact, shr-shr, mod-pow-add}
use lib.Bits.{bit_and, bit_or, and_mask, or_shifted}
use Rattle.std.proofs.Common.{Fits, w8}
use Rattle.field.specs.Bits.{bit_at, bits_at}

-- `hi << k | lo` at a word of n bits, as the machine computes it: the sum, where hi has j bits, lo has k and both have room
pub join_is : (j k n : ℕ) {hi lo : ℕ} → hi < 2 ^ j → lo < 2 ^ k → j + k ≤ n → bit_or (hi * 2 ^ k % 2 ^ n) lo ≡ hi * 2 ^ k + lo
join_is j k n {hi} {lo} h l r = ap (λ (x : ℕ). bit_or x lo) (shl_exact j k n h r) ∙ or_shifted hi k lo l

-- a field cut in two
pub bits_add : (s : List ℕ) (b v w : ℕ) → bits_at s b (v + w) ≡ bits_at s b v * 2 ^ w + bits_at s (b + v) w
unfolding bits_at
bits_add s b v zero = ap (bits_at s b) (add-zero v) ∙ omega arith
bits_add s b v (suc w) =
    rw (add-suc, bits_add s b v w, add_assoc b v w, pow-suc)
    (let e : bits_at s b v * (2 ^ w * 2) ≡ bits_at s b v * 2 ^ w * 2 = sym (mul_assoc (bits_at s b v) (2 ^ w) 2) in omega arith)

-- a field of w bits is below 2 ^ w
pub bits_lt : (s : List ℕ) (b w : ℕ) → bits_at s b w < 2 ^ w
unfolding bits_at bit_at
bits_lt s b zero = lit< tt
bits_lt s b (suc w) = rw pow-suc (let h : bits_at s b w < 2 ^ w = bits_lt s b w in omega arith)

-- the two parts of a field, from the whole: what a shift and a mask take
pub bits_top : (s : List ℕ) (b v w : ℕ) → bits_at s b (v + w) / 2 ^ w ≡ bits_at s b v
bits_top s b v w = rw bits_add (high (bits_at s b v) w (bits_lt s (b + v) w))

pub bits_low : (s : List ℕ) (b v w : ℕ) → bits_at s b (v + w) % 2 ^ w ≡ bits_at s (b + v) w
bits_low s b v w = rw bits_add (low (bits_at s b v) w (bits_lt s (b + v) w))

-- a bit of octet i
bit_of_lem : (s : List ℕ) (i m : ℕ) → m < 8 → bit_at s (8 * i + m) ≡ get_or s i 0 / 2 ^ (7 - m) % 2
unfolding bit_at
bit_of_lem s i m h =
    let q : (8 * i + m) / 8 ≡ i = omega arith in
    let r : (8 * i + m) % 8 ≡ m = omega arith in
    rw (q, r)

-- one digit more at the back of a remainder
pub last_digit : (y w : ℕ) → (y / 2 % 2 ^ w) * 2 + y % 2 ≡ y % 2 ^ suc w
last_digit y w = sym (mod-pow-add y w 1) ∙ ap (λ (n : ℕ). y % 2 ^ n) (add-one w)

-- a field within octet i: j bits stand before it
pub in_octet : (s : List ℕ) (i j w : ℕ) → j + w ≤ 8 → bits_at s (8 * i + j) w ≡ get_or s i 0 / 2 ^ (8 - (j + w)) % 2 ^ w
unfolding bits_at
in_octet s i j zero h = sym (mod-one (get_or s i 0 / 2 ^ (8 - (j + 0))))
in_octet s i j (suc w) h =
    let k : j + suc w ≡ suc (j + w) = add-suc j w in
    let e : 8 - (j + w) ≡ 7 - (j + w) + 1 = omega arith in
    let e' : 8 - (j + suc w) ≡ 7 - (j + w) = omega arith in
    let h' : j + w ≤ 8 = omega arith in
    let h'' : j + w < 8 = omega arith in
    rw (in_octet s i j w h', add_assoc (8 * i) j w, bit_of_lem s i (j + w) h'', e, e', ← shr-shr (get_or s i 0) (7 - (j + w)) 1)
    (last_digit (get_or s i 0 / 2 ^ (7 - (j + w))) w)

-- a whole octet
octet_is : (s : List ℕ) (i : ℕ) → get_or s i 0 < 2 ^ 8 → bits_at s (8 * i) 8 ≡ get_or s i 0
octet_is s i h = ap (λ (n : ℕ). bits_at s n 8) (sym (add-zero (8 * i))) ∙ in_octet s i 0 8 (lit≤ tt) ∙ omega arith

-- the w bits that u bits stand before and v behind, of a field
pub bits_mid : (s : List ℕ) (b u w v : ℕ) → bits_at s b (u + w + v) / 2 ^ v % 2 ^ w ≡ bits_at s (b + u) w
bits_mid s b u w v = ap (λ (n : ℕ). n % 2 ^ w) (bits_top s b (u + w) v) ∙ bits_low s b u w

-- two neighbours, the first of v bits and the second of w, as `hi << w | lo` joins them in a word of n bits
pub bits_join : (s : List ℕ) (b v w n : ℕ) {hi lo : ℕ} → v + w ≤ n → hi ≡ bits_at s b v → lo ≡ bits_at s (b + v) w
    → bit_or (hi * 2 ^ w % 2 ^ n) lo ≡ bits_at s b (v + w)
bits_join s b v w n r p q =
    (λ i. bit_or (p i * 2 ^ w % 2 ^ n) (q i)) ∙ join_is v w n (bits_lt s b v) (bits_lt s (b + v) w) r ∙ sym (bits_add s b v w)

-- the same as code has it: x holds the bits from b on, and a shift, a mask, or both take a part
pub top_of : (s : List ℕ) (b v w : ℕ) {x : ℕ} → x ≡ bits_at s b (v + w) → x / 2 ^ w ≡ bits_at s b v
top_of s b v w e = ap (λ (n : ℕ). n / 2 ^ w) e ∙ bits_top s b v w

pub low_of : (s : List ℕ) (b v w : ℕ) {x : ℕ} → x ≡ bits_at s b (v + w) → bit_and x (2 ^ w - 1) ≡ bits_at s (b + v) w
low_of s b v w {x} e = and_mask x w ∙ ap (λ (n : ℕ). n % 2 ^ w) e ∙ bits_low s b v w

pub mid_of : (s : List ℕ) (b u w v : ℕ) {x : ℕ} → x ≡ bits_at s b (u + w + v) → bit_and (x / 2 ^ v) (2 ^ w - 1) ≡ bits_at s (b + u) w
mid_of s b u w v {x} e = and_mask (x / 2 ^ v) w ∙ ap (λ (n : ℕ). n / 2 ^ v % 2 ^ w) e ∙ bits_mid s b u w v

-- an octet as it was read
pub octet_of : (s : List ℕ) (i : ℕ) {x : ℕ} → x ≡ get_or s i 0 → x < 2 ^ 8 → x ≡ bits_at s (8 * i) 8
octet_of s i e h =
    let k : get_or s i 0 < 2 ^ 8 = omega arith in
    e ∙ sym (octet_is s i k)

-- two octets as a word, and four as a number of 32 bits
pub word_of : (s : List ℕ) (i : ℕ) → ((k : ℕ) → Fits w8 (get_or s k 0)) → bits_at s (8 * i) 16 ≡ get_or s i 0 * 2 ^ 8 + get_or s (i + 1) 0
word_of s i h =
    let e : 8 * i + 8 ≡ 8 * (i + 1) = omega arith in
    let hi : get_or s i 0 < 2 ^ 8 = omega (arith, h i) in
    let lo : get_or s (i + 1) 0 < 2 ^ 8 = omega (arith, h (i + 1)) in
    bits_add s (8 * i) 8 8 ∙ (λ t. octet_is s i hi t * 2 ^ 8 + (ap (λ (b : ℕ). bits_at s b 8) e ∙ octet_is s (i + 1) lo) t)

pub long_of : (s : List ℕ) (i : ℕ) → ((k : ℕ) → Fits w8 (get_or s k 0))
    → bits_at s (8 * i) 32 ≡ get_or s i 0 * 2 ^ 24 + get_or s (i + 1) 0 * 2 ^ 16 + get_or s (i + 2) 0 * 2 ^ 8 + get_or s (i + 3) 0
long_of s i h =
    let e : 8 * i + 16 ≡ 8 * (i + 2) = omega arith in
    let e' : i + 2 + 1 ≡ i + 3 = omega arith in
    let lo : bits_at s (8 * i + 16) 16 ≡ get_or s (i + 2) 0 * 2 ^ 8 + get_or s (i + 3) 0 =
    ap (λ (b : ℕ). bits_at s b 16) e ∙ word_of s (i + 2) h ∙ (λ t. get_or s (i + 2) 0 * 2 ^ 8 + get_or s (e' t) 0) in
    omega (arith, bits_add s (8 * i) 16 16, word_of s i h, lo)

-- past the end all bits are 0
pub bits_past : (s : List ℕ) (b w : ℕ) → 8 * length s ≤ b → bits_at s b w ≡ 0
unfolding bits_at bit_at
bits_past s b zero h = refl
bits_past s b (suc w) h =
    let k : length s ≤ (b + w) / 8 = omega arith in
    let e : get_or s ((b + w) / 8) 0 ≡ 0 = get_or-eq_default s 0 k in
    rw (bits_past s b w h, e) (rw (zero-div (2 ^ (7 - (b + w) % 8))) refl)

-- a chain of joins, `(a << i | b) << k | c`: x computes to hi, of j bits; with lo behind it it is the sum, of j + k bits
pub chain : (j k n : ℕ) {x hi lo : ℕ} → (x ≡ hi) × (hi < 2 ^ j) → lo < 2 ^ k → j + k ≤ n → (bit_or (x * 2 ^ k % 2 ^ n) lo ≡ hi * 2 ^ k + lo) × (hi * 2 ^ k + lo < 2 ^ (j + k))
chain j k n {lo = lo} e l r =
    (ap (λ (y : ℕ). bit_or (y * 2 ^ k % 2 ^ n) lo) e.0 ∙ join_is j k n e.1 l r, rw (pow-add 2 j k) (digits_lt e.1 l))
