use mathlib.Core.Path.{ap}
use Rattle.std.specs.Prelude.{is_ok}
use Rattle.ground.proofs.Settled.{same_value}
use Rattle.writing.proofs.Packets.{written_out}
use Rattle.writing.proofs.write.Goals as goal

pub unwrap-size-requires : goal.unwrap-size-requires
unwrap-size-requires c = ap is_ok (written_out (rw (c.acks_for-acks.ensures, c.send_largest-largest.ensures) at c.write_packet.ensures) c.requires.1).0

pub returns : goal.returns
returns c =
    let p = written_out (rw (c.acks_for-acks.ensures, c.send_largest-largest.ensures) at c.write_packet.ensures) c.requires.1 in
    (c.wrote_line-line.ensures, same_value c.unwrap-size.ensures p.0, p.1)
