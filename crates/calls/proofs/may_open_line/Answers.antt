use Rattle.calls.specs.Stages.{open_tests}
use borrow.Author.Tests.{eq-eqb, ne_eqb, not-true, not-false}
use mathlib.Core.Path.{ap}
use mathlib.Core.Bool.{not}
use Rattle.calls.proofs.may_open_line.Goals as goal

pub returns-then-line-eq-OPEN : goal.returns-then-line-eq-OPEN
unfolding open_tests
returns-then-line-eq-OPEN c = simp (← c.line.ensures, eq-eqb _ _ c.if-line-eq-OPEN.true)

pub returns-then-not-settings_fit : goal.returns-then-not-settings_fit
unfolding open_tests
returns-then-not-settings_fit c = simp (← c.line.ensures, ne_eqb _ _ c.if-line-eq-OPEN.false, ← c.settings_fit.ensures, not-true c.settings_fit.result (ap not c.if-not-settings_fit.true))

pub returns-then-taken : goal.returns-then-taken
unfolding open_tests
returns-then-taken c = simp (← c.line.ensures, ne_eqb _ _ c.if-line-eq-OPEN.false, ← c.settings_fit.ensures, not-false c.settings_fit.result (ap not c.if-not-settings_fit.false), ← c.taken.ensures, c.if-taken.true)

pub returns-else-taken : goal.returns-else-taken
unfolding open_tests
returns-else-taken c = simp (← c.line.ensures, ne_eqb _ _ c.if-line-eq-OPEN.false, ← c.settings_fit.ensures, not-false c.settings_fit.result (ap not c.if-not-settings_fit.false), ← c.taken.ensures, c.if-taken.false)
