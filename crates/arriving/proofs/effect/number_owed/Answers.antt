use Rattle.arriving.proofs.Effects.{owes}
use Rattle.arriving.proofs.effect.number_owed.Goals as goal

pub enter-owed-requires : goal.enter-owed-requires
enter-owed-requires c = owes c.args.l c.requires.0
