use Rattle.sending.specs.Sending.{took_one}
use Rattle.sending.proofs.Sending.took.Goals as goal

pub returns : goal.returns
unfolding took_one
returns c = simp (c.with-next.ensures, c.next_place-at.ensures)
