-- Which bits the steps on a mask change: the one named, and no other. What code does by shifts is here said of numbers.
-- Assumes nothing.
use Prim.Native.Nat.{ℕ, zero, suc, ◌+◌, ◌-◌, ◌*◌, ◌/◌, ◌%◌, ◌^◌, ◌<◌, ◌≤◌}
use mathlib.Core.Path.{◌≡◌, refl, sym, ap, ap₂, subst, ◌∙◌}
use mathlib.Core.Bool.{true, false}
use mathlib.Core.Logic.{◌≢◌}
use native.Mathlib.Decide.{dec_lt}
use native.Mathlib.Nat.{div-add-mod', div-eq_of_lt, mod-eq_of_lt, mod-lt, add-mul, one-mul, zero-mul, add-zero, add-div_right, le-div_iff_mul-le, lt_of_lt_of_le, le_refl}
use native.Mathlib.Omega.{arith}
use lib.Arith.{digits_div, digits_mod}
use lib.Bits.{bit_and, bit_or, or_disjoint, or_lt, and_block, and_mask, and_zero_r}
use lib.Dec.{eqb}
use lib.Pow.{pow_pos, pow_mono, pow-lt, shr-shr, field, mod-mod-pow}
use borrow.Author.Tests.{eqb-true, eqb-false, ne_eqb, eq-eqb}
use Rattle.ground.proofs.Picks.{pick_by}
use Rattle.places.specs.Places.{bit_of, with_bit, without_bit, within}

-- what lies below 2 ^ k is gone once k offsets or more are dropped
pub dropped_all : (m k d : ℕ) → m < 2 ^ k → k ≤ d → m / 2 ^ d ≡ 0
dropped_all m k d h l = div-eq_of_lt (lt_of_lt_of_le h (pow_mono l))

-- a mask below 2 ^ k has no offset from k on
pub bit_past : (m k i : ℕ) → m < 2 ^ k → k ≤ i → bit_of m i ≡ false
bit_past m k i h l = rw (dropped_all m k i h l)

-- the offsets of a mask that has moved down
pub bit_dropped : (m d i : ℕ) → bit_of (m / 2 ^ d) i ≡ bit_of m (d + i)
bit_dropped m d i = ap (λ (x : ℕ). eqb (x % 2) 1) (shr-shr m d i)

-- the test of a mask's reach says that the mask is below a power, and the other way round
pub within_lt : (n m : ℕ) → within n m ≡ true → m < 2 ^ n
within_lt n m t = small (m / 2 ^ n) (eqb-true _ _ t) (div-add-mod' m (2 ^ n)) (mod-lt m (pow_pos n))
  where
    small : (q : ℕ) → q ≡ 0 → q * 2 ^ n + m % 2 ^ n ≡ m → m % 2 ^ n < 2 ^ n → m < 2 ^ n
    small q e s l = let z : 0 * 2 ^ n + m % 2 ^ n ≡ m = rw e at s in omega (arith, zero-mul (2 ^ n))

pub lt_within : (n m : ℕ) → m < 2 ^ n → within n m ≡ true
lt_within n m l = rw (div-eq_of_lt l)

-- 1 << i
pub one_shl : (i : ℕ) → i < 32 → 1 * 2 ^ i % 4294967296 ≡ 2 ^ i
one_shl i h = ap (λ (x : ℕ). x % 4294967296) (one-mul (2 ^ i)) ∙ mod-eq_of_lt (pow-lt h)

bit_pos : (x : ℕ) → x % 2 ≡ 1 → 0 < x
bit_pos x e = omega arith

-- a set bit is part of the number
pub bit_le : (m i : ℕ) → bit_of m i ≡ true → 2 ^ i ≤ m
bit_le m i t =
    let p : 1 * 2 ^ i ≤ m = (le-div_iff_mul-le (pow_pos i)).0 (bit_pos (m / 2 ^ i) (eqb-true _ _ t)) in
    rw one-mul at p

pub even : (x : ℕ) → (x % 2 ≡ 1 → ⊥) → x % 2 ≡ 0
even x n = omega arith

and_bit : (m i : ℕ) → bit_of m i ≡ false → bit_and m (2 ^ i) ≡ 0
and_bit m i f =
    let z : m / 2 ^ i % 2 ≡ 0 = even (m / 2 ^ i) (eqb-false _ _ f) in
    ap₂ bit_and (sym (div-add-mod' m (2 ^ i))) (sym (add-zero (1 * 2 ^ i) ∙ one-mul (2 ^ i)))
    ∙ and_block i (m / 2 ^ i) 1 (m % 2 ^ i) 0 (mod-lt m (pow_pos i)) (pow_pos i)
    ∙ ap₂ (λ (x y : ℕ). x * 2 ^ i + y) (and_mask (m / 2 ^ i) 1 ∙ z) (and_zero_r (m % 2 ^ i))
    ∙ ap (λ (x : ℕ). x + 0) (zero-mul (2 ^ i))

-- a clear bit is set by adding it
pub or_bit : (m i : ℕ) → bit_of m i ≡ false → bit_or m (2 ^ i) ≡ m + 2 ^ i
or_bit m i f = or_disjoint m (2 ^ i) (and_bit m i f)

module _ (m p : ℕ) (pos : 0 < p) (le : p ≤ m) where
  one_less : m - p ≡ (m / p - 1) * p + m % p
  one_less =
      let whole : m / p * p + m % p ≡ m = div-add-mod' m p in
      let small : m % p < p = mod-lt m pos in
      let some : 0 < m / p = least (m / p) whole small in
      let split : m / p * p ≡ (m / p - 1) * p + p
      = ap (λ (x : ℕ). x * p) (back (m / p) some) ∙ add-mul (m / p - 1) 1 p ∙ ap (λ (x : ℕ). (m / p - 1) * p + x) (one-mul p) in
      omega arith
    where
      back : (x : ℕ) → 0 < x → x ≡ (x - 1) + 1
      back x h = omega arith

      least : (x : ℕ) → x * p + m % p ≡ m → m % p < p → 0 < x
      least zero w s = absurd (omega arith)
      least (suc x) w s = omega arith

  less_div : (m - p) / p ≡ m / p - 1
  less_div = ap (λ (x : ℕ). x / p) one_less ∙ digits_div (m / p - 1) (mod-lt m pos)

  less_mod : (m - p) % p ≡ m % p
  less_mod = ap (λ (x : ℕ). x % p) one_less ∙ digits_mod (m / p - 1) (mod-lt m pos)

-- a bit below i goes by the number modulo 2 ^ i
low : (x i j : ℕ) → j < i → x % 2 ^ i / 2 ^ j % 2 ≡ x / 2 ^ j % 2
low x i j h =
    let e : i ≡ (i - j) + j = omega arith in
    let f : i - j ≡ (i - j - 1) + 1 = omega arith in
    ap (λ (k : ℕ). x % 2 ^ k / 2 ^ j % 2) e ∙ ap (λ (y : ℕ). y % 2) (field x (i - j) j)
    ∙ ap (λ (k : ℕ). x / 2 ^ j % 2 ^ k % 2) f ∙ mod-mod-pow (x / 2 ^ j) (i - j - 1) 1

-- a bit above i goes by the number over 2 ^ i, halved
high : (x i j : ℕ) → i < j → x / 2 ^ j ≡ x / 2 ^ i / 2 / 2 ^ (j - i - 1)
high x i j h =
    let e : j ≡ i + (1 + (j - i - 1)) = omega arith in
    ap (λ (k : ℕ). x / 2 ^ k) e ∙ sym (shr-shr x i (1 + (j - i - 1))) ∙ sym (shr-shr (x / 2 ^ i) 1 (j - i - 1))

-- a set bit that is taken off
module _ (m i : ℕ) (t : bit_of m i ≡ true) where
  odd_at : m / 2 ^ i % 2 ≡ 1
  odd_at = eqb-true _ _ t

  off_same : bit_of (m - 2 ^ i) i ≡ false
  off_same = ap (λ (x : ℕ). eqb (x % 2) 1) (less_div m (2 ^ i) (pow_pos i) (bit_le m i t)) ∙ ne_eqb _ _ (λ e. odd (m / 2 ^ i) odd_at e)
    where
      odd : (x : ℕ) → x % 2 ≡ 1 → (x - 1) % 2 ≡ 1 → ⊥
      odd x q e = omega arith

  off_other : (j : ℕ) → j ≢ i → bit_of (m - 2 ^ i) j ≡ bit_of m j
  off_other j d = go (dec_lt j i)
    where
      half : (x : ℕ) → x % 2 ≡ 1 → (x - 1) / 2 ≡ x / 2
      half x q = omega arith

      go : Dec (j < i) → bit_of (m - 2 ^ i) j ≡ bit_of m j
      go (yes h) =
          ap (λ (x : ℕ). eqb x 1)
          (sym (low (m - 2 ^ i) i j h) ∙ ap (λ (x : ℕ). x / 2 ^ j % 2) (less_mod m (2 ^ i) (pow_pos i) (bit_le m i t)) ∙ low m i j h)
      go (no h) =
          let above : i < j = omega arith in
          ap (λ (x : ℕ). eqb (x % 2) 1)
          (high (m - 2 ^ i) i j above
          ∙ ap (λ (x : ℕ). x / 2 / 2 ^ (j - i - 1)) (less_div m (2 ^ i) (pow_pos i) (bit_le m i t))
          ∙ ap (λ (x : ℕ). x / 2 ^ (j - i - 1)) (half (m / 2 ^ i) odd_at) ∙ sym (high m i j above))

-- the set without an offset: that offset is not in it, and each other is as it was
pub without_same : (m i : ℕ) → bit_of (without_bit m i) i ≡ false
without_same m i = pick_by (λ (x : ℕ). bit_of x i ≡ false) (bit_of m i) (off_same m i) (λ f. f)

pub without_other : (m i j : ℕ) → j ≢ i → bit_of (without_bit m i) j ≡ bit_of m j
without_other m i j d = pick_by (λ (x : ℕ). bit_of x j ≡ bit_of m j) (bit_of m i) (λ t. off_other m i t j d) (λ f. refl)

pub without_le : (m i : ℕ) → without_bit m i ≤ m
without_le m i = pick_by (λ (n : ℕ). n ≤ m) (bit_of m i) (λ t. omega arith) (λ f. le_refl m)

-- the set with an offset: that offset is in it, and each other is as it was
on_same : (m i : ℕ) → bit_of m i ≡ false → bit_of (m + 2 ^ i) i ≡ true
on_same m i f = ap (λ (x : ℕ). eqb (x % 2) 1) (add-div_right m (pow_pos i)) ∙ eq-eqb _ _ (odd (m / 2 ^ i) (even (m / 2 ^ i) (eqb-false _ _ f)))
  where
    odd : (x : ℕ) → x % 2 ≡ 0 → (x + 1) % 2 ≡ 1
    odd x q = omega arith

on_other : (m i j : ℕ) → bit_of m i ≡ false → j ≢ i → bit_of (m + 2 ^ i) j ≡ bit_of m j
on_other m i j f d =
    let back : m + 2 ^ i - 2 ^ i ≡ m = omega arith in
    sym (off_other (m + 2 ^ i) i (on_same m i f) j d) ∙ ap (λ (x : ℕ). bit_of x j) back

pub with_same : (m i : ℕ) → bit_of (with_bit m i) i ≡ true
with_same m i = pick_by (λ (x : ℕ). bit_of x i ≡ true) (bit_of m i) (λ t. t) (on_same m i)

pub with_other : (m i j : ℕ) → j ≢ i → bit_of (with_bit m i) j ≡ bit_of m j
with_other m i j d = pick_by (λ (x : ℕ). bit_of x j ≡ bit_of m j) (bit_of m i) (λ t. refl) (λ f. on_other m i j f d)

-- and it reaches no further than before, or than that offset
pub with_lt : (m i n : ℕ) → m < 2 ^ n → i < n → with_bit m i < 2 ^ n
with_lt m i n h l =
    pick_by (λ (x : ℕ). x < 2 ^ n) (bit_of m i) (λ t. h)
    (λ f. subst (λ (x : ℕ). x < 2 ^ n) (or_bit m i f) (or_lt n m (2 ^ i) h (pow-lt l)))
