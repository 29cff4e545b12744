use native.Mathlib.Omega.{arith}
use Rattle.std.proofs.lemmas.Grind.{common_steps}
use Rattle.field.proofs.Laws.{low_of}
use Rattle.packet.specs.Read.{base_at}
use Rattle.packet.proofs.base_at.Goals as goal

pub returns : goal.returns
unfolding base_at
returns c =
    let number = low_of c.args.s.now 32 2 14 c.word_at.ensures in
    grind (arith, common_steps)
