use mathlib.Core.Path.{sym, ◌∙◌}
use native.Mathlib.Omega.{arith}
use Rattle.std.proofs.lemmas.Grind.{common_steps}
use Rattle.packet.proofs.Writes.{packet_length, fits_count}
use Rattle.packet.proofs.write.write_verdict.Goals as goal

pub returns-then-space-a : goal.returns-then-space-a
returns-then-space-a c =
    λ payload e.
    let n = packet_length c.args.h c.args.a (fits_count c.args.h c.args.a c.args.n (sym c.fields_fit.ensures ∙ c.if-not-fields_fit.false)) payload in
    grind (arith, common_steps)

pub returns : goal.returns
returns c =
    λ payload e.
    let n = packet_length c.args.h c.args.a (fits_count c.args.h c.args.a c.args.n (sym c.fields_fit.ensures ∙ c.if-not-fields_fit.false)) payload in
    grind (arith, common_steps)
