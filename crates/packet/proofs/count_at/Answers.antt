use Rattle.field.proofs.Laws.{top_of}
use Rattle.packet.proofs.count_at.Goals as goal

pub returns : goal.returns
returns c = top_of c.args.s.now 32 2 14 c.word_at.ensures
