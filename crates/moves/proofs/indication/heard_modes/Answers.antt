-- `heard_modes` meets its contract: the two cases are those of the definition.
-- Assumes nothing.
use Rattle.mode.specs.Indication.{heard_modes}
use Rattle.moves.proofs.indication.heard_modes.Goals as goal

pub returns-then-modes-mode : goal.returns-then-modes-mode
unfolding heard_modes
returns-then-modes-mode c = simp (c.if-modes-mode.true, c.trying.ensures, c.moved-next.ensures, c.heard_mode.ensures)

pub returns-else-modes-mode : goal.returns-else-modes-mode
unfolding heard_modes
returns-else-modes-mode c = simp (c.if-modes-mode.false, c.moved-next.ensures, c.heard_mode.ensures)
