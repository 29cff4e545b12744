use Rattle.field.proofs.Laws.{mid_of}
use Rattle.connect.proofs.compression_at.Goals as goal

pub returns : goal.returns
returns c = mid_of c.args.s.now 0 8 4 4 c.word_at.ensures
