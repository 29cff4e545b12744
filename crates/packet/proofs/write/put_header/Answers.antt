use native.Mathlib.Omega.{arith}
use Rattle.packet.specs.Acks.{ack_list}
use Rattle.field.proofs.Packs.{Wide}
use Rattle.packet.proofs.Writes.{wide_take, header_stored}
use Rattle.packet.proofs.write.put_header.Goals as goal

pub returns : goal.returns
returns c =
    let a = c.args.a in
    let w : Wide (ack_list a) = wide_take a.count _ (omega (arith, c.well_formed), (omega (arith, c.well_formed), (omega (arith, c.well_formed), tt))) in
    (omega arith, header_stored c.args.h a c.requires w c.args.out.now c.put_words.ensures)
