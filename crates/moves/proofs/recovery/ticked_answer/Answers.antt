use borrow.Author.Tests.{not-true, not-false}
use borrow.Author.Tests.{eq-eqb, ne_eqb}
use Rattle.mode.specs.Recovery.{ticked_answer}
use mathlib.Core.Path.{ap}
use mathlib.Core.Bool.{not}
use Rattle.moves.proofs.recovery.ticked_answer.Goals as goal

pub returns-then-ended : goal.returns-then-ended
unfolding ticked_answer
returns-then-ended c = simp (← c.ended.ensures, c.if-ended.true)

pub returns-then-not-due : goal.returns-then-not-due
unfolding ticked_answer
returns-then-not-due c = simp (← c.ended.ensures, c.if-ended.false, ← c.due.ensures, not-true c.due.result (ap not c.if-not-due.true))

pub returns-then-tries-eq-TRIES : goal.returns-then-tries-eq-TRIES
unfolding ticked_answer
returns-then-tries-eq-TRIES c = simp (← c.ended.ensures, c.if-ended.false, ← c.due.ensures, not-false c.due.result (ap not c.if-not-due.false), eq-eqb _ _ c.if-tries-eq-TRIES.true)

pub returns : goal.returns
unfolding ticked_answer
returns c = simp (← c.ended.ensures, c.if-ended.false, ← c.due.ensures, not-false c.due.result (ap not c.if-not-due.false), ne_eqb _ _ c.if-tries-eq-TRIES.false)
