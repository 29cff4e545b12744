use Prim.Native.Nat.{ℕ, ◌/◌, ◌^◌}
use mathlib.Core.Path.{ap}
use lib.Bits.{and_mask}
use lib.Dec.{eqb}
use Rattle.places.specs.Places.{mask_of}
use Rattle.places.proofs.Places.has.Goals as goal

pub returns : goal.returns
unfolding mask_of
returns c = let a = c.args in ap (λ (x : ℕ). eqb x 1) (and_mask (a.self.bits / 2 ^ a.i) 1)
