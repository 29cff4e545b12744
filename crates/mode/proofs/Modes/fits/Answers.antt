-- `Modes::fits` meets its contract: the tests are those of the definition, one by one.
-- Assumes nothing.
use mathlib.Core.Path.{refl}
use Rattle.mode.specs.Fit.{modes_fit}
use Rattle.mode.proofs.Modes.fits.Goals as goal

pub returns : goal.returns
unfolding modes_fit
returns c = refl
