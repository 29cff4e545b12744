use native.Mathlib.Omega.{arith}
use Rattle.std.proofs.lemmas.Grind.{common_steps}
use Rattle.connect.proofs.Writes.{body_length}
use Rattle.connect.proofs.write_verdict.Goals as goal

pub returns-then-space-size_of : goal.returns-then-space-size_of
returns-then-space-size_of c =
    let e = body_length c.args.c in
    grind (arith, common_steps)

pub returns : goal.returns
returns c =
    let e = body_length c.args.c in
    grind (arith, common_steps)
