-- `due` meets its contract: the three returns are an ended line, before recovery, and in it.
-- Assumes nothing.
use borrow.Author.Tests.{eq-eqb, ne_eqb}
use Rattle.mode.specs.Recovery.{due}
use Rattle.moves.proofs.recovery.due.Goals as goal

pub returns-then-ended : goal.returns-then-ended
unfolding due
returns-then-ended c = simp (← c.ended.ensures, c.if-ended.true)

pub returns-then-modes-eq0 : goal.returns-then-modes-eq0
unfolding due
returns-then-modes-eq0 c = simp (← c.ended.ensures, c.if-ended.false, eq-eqb _ _ c.if-modes-eq0.true, c.saturating_sub.ensures)

pub returns : goal.returns
unfolding due
returns c = simp (← c.ended.ensures, c.if-ended.false, ne_eqb _ _ c.if-modes-eq0.false, c.saturating_sub-2.ensures)
