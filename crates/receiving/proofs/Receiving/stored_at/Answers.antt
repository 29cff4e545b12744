use Rattle.receiving.specs.Receiving.{stored_at}
use Rattle.receiving.proofs.Receiving.stored_at.Goals as goal

pub returns : goal.returns
unfolding stored_at
returns c = simp (c.with-next.ensures, c.place_of-at.ensures)
