-- `Modes::timed` meets its contract: the four returns are the four cases of a difference.
-- Assumes nothing.
use borrow.Author.Tests.{eq-eqb, ne_eqb}
use Rattle.mode.specs.Moved.{timed}
use Rattle.mode.proofs.Modes.timed.Goals as goal

pub returns-then-local-remote : goal.returns-then-local-remote
unfolding timed
returns-then-local-remote c = simp (eq-eqb _ _ c.if-self.true, eq-eqb _ _ c.if-local-remote.true)

pub returns-else-local-remote : goal.returns-else-local-remote
unfolding timed
returns-else-local-remote c = simp (eq-eqb _ _ c.if-self.true, ne_eqb _ _ c.if-local-remote.false)

pub returns-then-local-remote-2 : goal.returns-then-local-remote-2
unfolding timed
returns-then-local-remote-2 c = simp (ne_eqb _ _ c.if-self.false, eq-eqb _ _ c.if-local-remote-2.true)

pub returns-else-local-remote-2 : goal.returns-else-local-remote-2
unfolding timed
returns-else-local-remote-2 c = simp (ne_eqb _ _ c.if-self.false, ne_eqb _ _ c.if-local-remote-2.false)
