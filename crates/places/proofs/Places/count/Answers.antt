use native.Mathlib.Omega.{arith}
use Rattle.places.proofs.Ranks.{count_below}
use Rattle.places.specs.Places.{mask_of}
use Rattle.places.proofs.Places.count.Goals as goal

pub returns : goal.returns
unfolding mask_of
returns c = count_below c.args.self.bits 32 (omega arith)
