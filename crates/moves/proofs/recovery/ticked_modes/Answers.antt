use borrow.Author.Tests.{not-true, not-false}
use borrow.Author.Tests.{eq-eqb, ne_eqb}
use native.Mathlib.Omega.{arith}
use mathlib.Core.Path.{sym, ◌∙◌}
use Rattle.mode.specs.Recovery.{ticked_modes}
use Rattle.mode.proofs.Tries.{due_tries}
use mathlib.Core.Path.{ap}
use mathlib.Core.Bool.{not}
use Rattle.moves.proofs.recovery.ticked_modes.Goals as goal

pub returns-then-not-due : goal.returns-then-not-due
unfolding ticked_modes
returns-then-not-due c = simp (← c.due.ensures, not-true c.due.result (ap not c.if-not-due.true), c.stayed.ensures)

pub returns-then-tries-eq0 : goal.returns-then-tries-eq0
unfolding ticked_modes
returns-then-tries-eq0 c = simp (← c.due.ensures, not-false c.due.result (ap not c.if-not-due.false), eq-eqb _ _ c.if-tries-eq0.true, c.trying.ensures, c.moved.ensures)

pub returns-then-tries-eq-TRIES : goal.returns-then-tries-eq-TRIES
unfolding ticked_modes
returns-then-tries-eq-TRIES c = simp (← c.due.ensures, not-false c.due.result (ap not c.if-not-due.false), ne_eqb _ _ c.if-tries-eq0.false, eq-eqb _ _ c.if-tries-eq-TRIES.true, c.trying-then-tries-eq-TRIES.ensures, c.stayed-stayed.ensures)

pub overflow_add-tries : goal.overflow_add-tries
overflow_add-tries c =
    let a = c.args in
    let d = c.due in
    omega (arith, due_tries a.modes a.time (sym d.ensures ∙ not-false d.result (ap not c.if-not-due.false)))

pub returns : goal.returns
unfolding ticked_modes
returns c = simp (← c.due.ensures, not-false c.due.result (ap not c.if-not-due.false), ne_eqb _ _ c.if-tries-eq0.false, ne_eqb _ _ c.if-tries-eq-TRIES.false, c.trying-2.ensures, c.stayed-stayed.ensures)
