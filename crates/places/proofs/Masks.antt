-- What is known of a set and its mask, whatever the set is made of.
-- Assumes nothing.
use Prim.Native.Nat.{ℕ}
use mathlib.Core.Path.{◌≡◌, refl, ap, ◌∙◌}
use mathlib.Core.Bool.{false}
use native.Mathlib.Omega.{arith}
use lib.Pow.{pow_pos}
use Rattle.places.specs.Places.{mask_of, set_of, bit_of}
use Rattle.places.specs.declared.Places.{Places}
use Rattle.places.proofs.Bits.{bit_past}

-- every mask has a set
pub mask_set : (m : ℕ) → mask_of (set_of m) ≡ m
unfolding mask_of set_of
mask_set m = refl

-- a set that is known by its mask has that mask
pub mask_is : {p : Places} (m : ℕ) → p ≡ set_of m → mask_of p ≡ m
mask_is m e = ap (λ (q : Places). mask_of q) e ∙ mask_set m

-- no offset is in the set of none
pub none_bit : (i : ℕ) → bit_of (mask_of (set_of 0)) i ≡ false
none_bit i = rw mask_set (bit_past 0 0 i (pow_pos 0) (omega arith))
