-- `heard_mode` meets its contract: outside recovery the table, in recovery a.
-- Assumes nothing.
use borrow.Author.Tests.{eq-eqb, ne_eqb}
use Rattle.mode.specs.Indication.{heard_mode}
use Rattle.moves.proofs.indication.heard_mode.Goals as goal

pub returns-then-modes-eq0 : goal.returns-then-modes-eq0
unfolding heard_mode
returns-then-modes-eq0 c = simp (eq-eqb _ _ c.if-modes-eq0.true, c.given.ensures)

pub returns-else-modes-eq0 : goal.returns-else-modes-eq0
unfolding heard_mode
returns-else-modes-eq0 c = simp (ne_eqb _ _ c.if-modes-eq0.false)
