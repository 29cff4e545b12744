use Rattle.connect.proofs.Writes.{write_done}
use Rattle.connect.proofs.write.Goals as goal

pub returns : goal.returns
returns c =
    let at = c.args in
    write_done at.c at.out.now c.write_verdict.ensures c.in_ok-write_verdict.was c.put.ensures.0 c.put.ensures.1
