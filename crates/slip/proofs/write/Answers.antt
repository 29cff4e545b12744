use Rattle.slip.proofs.Writes.{write_done}
use Rattle.slip.proofs.write.Goals as goal

pub returns : goal.returns
returns c =
    let at = c.args in
    write_done at.v at.out.now c.write_verdict.ensures c.in_ok-write_verdict.was c.put.ensures
