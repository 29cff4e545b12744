use Rattle.breaks.proofs.Writes.{write_done}
use Rattle.breaks.proofs.write.Goals as goal

pub returns : goal.returns
returns c = write_done c.args.b c.args.out.now c.write_verdict.ensures c.in_ok-write_verdict.was c.put_word.ensures
