-- `Modes::moved` meets its contract: the two fields that are worked out are those of the definition.
-- Assumes nothing.
use Rattle.mode.specs.Moved.{moved}
use Rattle.mode.proofs.Modes.moved.Goals as goal

pub returns : goal.returns
unfolding moved
returns c = simp (c.timed-since.ensures, c.left_by-left.ensures)
