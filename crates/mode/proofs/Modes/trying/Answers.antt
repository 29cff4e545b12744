-- `Modes::trying` meets its contract: the two fields that are set are those of the definition.
-- Assumes nothing.
use mathlib.Core.Path.{refl}
use Rattle.mode.specs.Moved.{trying}
use Rattle.mode.proofs.Modes.trying.Goals as goal

pub returns : goal.returns
unfolding trying
returns c = refl
