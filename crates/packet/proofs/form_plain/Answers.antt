use native.Mathlib.Omega.{arith}
use Rattle.std.proofs.lemmas.Grind.{common_steps}
use Rattle.field.proofs.Laws.{top_of, mid_of}
use Rattle.packet.proofs.form_plain.Goals as goal

pub returns-then-w-eq0 : goal.returns-then-w-eq0
returns-then-w-eq0 c =
    let extension = top_of c.args.s.now 0 1 15 c.word_at-w.ensures in
    let reserved = mid_of c.args.s.now 0 8 1 7 c.word_at-w.ensures in
    grind (arith, common_steps)

pub returns-else-w-eq0 : goal.returns-else-w-eq0
returns-else-w-eq0 c =
    let extension = top_of c.args.s.now 0 1 15 c.word_at-w.ensures in
    grind (arith, common_steps)
