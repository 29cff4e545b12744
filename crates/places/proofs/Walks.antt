-- How a loop goes through the offsets of a mask m, lowest first: after i turns what is left, x, is m with i offsets dropped.
-- Assumes nothing.
use Prim.Native.Nat.{ℕ, ◌+◌, ◌/◌, ◌%◌, ◌^◌, ◌<◌}
use mathlib.Core.Path.{◌≡◌, sym, ap, ◌∙◌}
use mathlib.Core.Bool.{true, false, not}
use native.Mathlib.Decide.{dec_lt}
use native.Mathlib.Nat.{div-one}
use native.Mathlib.Omega.{arith}
use lib.Dec.{eqb}
use lib.Pow.{shr-shr}
use borrow.Author.Tests.{eq-eqb, not-true, not-false}
use Rattle.ground.proofs.Picks.{clash}
use Rattle.places.specs.Places.{bit_of}
use Rattle.places.proofs.Bits.{dropped_all, within_lt}

module _ (m i x : ℕ) (e : x ≡ m / 2 ^ i) where
  -- the lowest offset that is left is offset i
  pub walk_at : bit_of x 0 ≡ bit_of m i
  walk_at = ap (λ (y : ℕ). eqb (y % 2) 1) (div-one x ∙ e)

  pub walk_on : x / 2 ^ 1 ≡ m / 2 ^ (i + 1)
  walk_on = ap (λ (y : ℕ). y / 2 ^ 1) e ∙ shr-shr m i 1

  -- while something is left the loop is still below any bound of m
  pub walk_below : (n : ℕ) → m < 2 ^ n → not (eqb x 0) ≡ true → i < n
  walk_below n h t = go (dec_lt i n)
    where
      go : Dec (i < n) → i < n
      go (yes q) = q
      go (no q) = clash (sym (not-true _ t) ∙ eq-eqb x 0 (e ∙ dropped_all m n i h (omega arith)))

  -- once nothing is left every offset of m was met
  pub walk_ends : not (eqb x 0) ≡ false → m < 2 ^ i
  walk_ends f = within_lt i m (ap (λ (y : ℕ). eqb y 0) (sym e) ∙ not-false _ f)
