use Prim.Native.Nat.{ℕ}
use mathlib.Core.Path.{ap, ◌∙◌}
use lib.Dec.{eqb}
use Rattle.places.proofs.Masks.{mask_is}
use Rattle.places.proofs.Places.within.Goals as goal

pub returns : goal.returns
returns c = c.empty.ensures ∙ ap (λ (m : ℕ). eqb m 0) (mask_is _ c.dropped.ensures)
