-- A set of no places: there is no size to look at.
-- Assumes nothing.
use Prim.Native.Nat.{ℕ, ◌<◌, ◌^◌}
use mathlib.Core.Path.{◌≡◌}
use mathlib.Core.Bool.{true}
use mathlib.Core.List.{List}
use native.Mathlib.Omega.{arith}
use lib.Dec.{eqb}
use borrow.Author.Tests.{eqb-true, eq-eqb}
use Rattle.ground.proofs.Every.{every_all}
use Rattle.places.specs.Places.{within}
use Rattle.places.proofs.Bits.{bit_past, dropped_all}
use Rattle.channel.specs.Sizes.{size_at, sizes_fit}

module _ (m : ℕ) (e : eqb m 0 ≡ true) where
  none : m < 2 ^ 0
  none = let q : m ≡ 0 = eqb-true m 0 e in omega arith

  pub none_within : (n : ℕ) → within n m ≡ true
  none_within n = eq-eqb _ _ (dropped_all m 0 n none (omega arith))

  pub none_fit : (w z : ℕ) (sizes : List ℕ) (origin : ℕ) → sizes_fit w z sizes m origin ≡ true
  unfolding sizes_fit
  none_fit w z sizes origin = every_all (size_at w z sizes m origin) w (λ i l. rw (bit_past m 0 i none (omega arith)))
