-- `Modes::stayed` meets its contract: the one field that is set is that of the definition.
-- Assumes nothing.
use mathlib.Core.Path.{refl}
use Rattle.mode.specs.Moved.{stayed}
use Rattle.mode.proofs.Modes.stayed.Goals as goal

pub returns : goal.returns
unfolding stayed
returns c = refl
