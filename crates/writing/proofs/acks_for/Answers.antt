use Rattle.writing.specs.Write.{acks_for}
use Rattle.writing.proofs.acks_for.Goals as goal

pub returns : goal.returns
unfolding acks_for
returns c = c.first_three.ensures
