use Rattle.receiving.specs.Receiving.{handed_out}
use Rattle.receiving.proofs.Receiving.handed_out.Goals as goal

pub returns : goal.returns
unfolding handed_out
returns c = simp (c.place.ensures, c.dropped-next.ensures)
