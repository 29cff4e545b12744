use lib.ListN.{length}
use Rattle.writing.specs.Write.{empty_packet}
use Rattle.writing.proofs.Packets.{empty_owes, empty_passes}
use Rattle.writing.proofs.write_empty.Goals as goal

pub write-requires : goal.write-requires
write-requires c =
    let a = c.args in
    rw c.head_for-head.ensures
    (empty_owes a.l c.requires.0 a.channel (length a.out.now) c.requires.1, empty_passes a.l c.requires.0 a.channel (length a.out.now) c.requires.1)

pub returns : goal.returns
unfolding empty_packet
returns c = rw c.head_for-head.ensures at c.write.ensures
