use mathlib.Core.Path.{refl}
use Rattle.packet.proofs.Writes.{write_room, write_done}
use Rattle.packet.proofs.write.write_packet.Goals as goal

pub put_header-n-requires : goal.put_header-n-requires
put_header-n-requires c =
    let at = c.args in
    write_room at.h at.a at.payload.now at.largest at.out.now (c.write_verdict.ensures at.payload.now refl) c.in_ok-write_verdict.was

pub returns : goal.returns
returns c =
    let at = c.args in
    write_done at.h at.a at.payload.now at.largest at.out.now (c.write_verdict.ensures at.payload.now refl) c.in_ok-write_verdict.was c.put_header-n.ensures.0 c.put_header-n.ensures.1 c.put_octets.ensures
