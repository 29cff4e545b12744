use native.Mathlib.Omega.{arith}
use Rattle.std.proofs.lemmas.Grind.{common_steps}
use Rattle.field.proofs.Laws.{top_of, low_of}
use Rattle.slip.specs.Slip.{form_fits}
use Rattle.slip.proofs.form_fits.Goals as goal

pub returns-then-a-eq1 : goal.returns-then-a-eq1
unfolding form_fits
returns-then-a-eq1 c =
    let form = top_of c.args.s.now 0 4 28 c.long_at-a.ensures in
    let zeros = low_of c.args.s.now 64 10 22 c.long_at-c.ensures in
    grind (arith, common_steps)

pub returns-else-a-eq1 : goal.returns-else-a-eq1
unfolding form_fits
returns-else-a-eq1 c =
    let form = top_of c.args.s.now 0 4 28 c.long_at-a.ensures in
    grind (arith, common_steps)
