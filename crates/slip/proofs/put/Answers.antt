use Rattle.slip.proofs.Writes.{fits_room, slip_stored}
use Rattle.slip.proofs.put.Goals as goal

pub returns : goal.returns
returns c =
    slip_stored c.args.v (fits_room c.args.v c.requires) c.args.out.now c.put_long.ensures c.put_long-2.ensures c.put_long-3.ensures
