use Rattle.writing.specs.Send.{held_packet}
use Rattle.channel.specs.Channel.{modulus}
use lib.Bits.{bit_and}
use mathlib.Core.Path.{◌≡◌, ap, ◌∙◌}
use Prim.Native.Nat.{◌+◌, ◌-◌, ◌%◌}
use Rattle.store.specs.declared.Way.TheVariants as way
use Rattle.store.specs.Store.{slot_at}
use Rattle.line.specs.Part.{region_of}
use Rattle.writing.proofs.Sends.{send_owes, send_passes}
use Rattle.store.specs.declared.Region.{Region}
use lib.ListN.{length}
use lib.Bits.{and_mask}
use native.Mathlib.Omega.{arith}
use Rattle.writing.proofs.held.send.Goals as goal

pub write-requires : goal.write-requires
unfolding held_packet
write-requires c =
    let slot_is : let a = c.args in c.slot-at.result ≡ slot_at (region_of a.l way.Sending a.channel) a.h.place = c.slot-at.ensures ∙ ap (λ (g : Region). slot_at g c.args.h.place) c.region-region.ensures in
    let h = c.args.h in
    let n : c.slot-at.result + h.size - c.slot-at.result ≡ h.size = omega arith in
    let m : bit_and h.number 16383 ≡ h.number % modulus = and_mask h.number 14 in
    let a = c.args in
    rw (c.head_for-head.ensures, m, n, slot_is)
    (send_owes a.l c.requires.0 a.channel (length a.out.now) h c.requires.2, send_passes a.l c.requires.0 a.channel (length a.out.now) h c.requires.2 a.part.now c.requires.1)

pub returns : goal.returns
unfolding held_packet
returns c =
    let slot_is : let a = c.args in c.slot-at.result ≡ slot_at (region_of a.l way.Sending a.channel) a.h.place = c.slot-at.ensures ∙ ap (λ (g : Region). slot_at g c.args.h.place) c.region-region.ensures in
    let h = c.args.h in
    let n : c.slot-at.result + h.size - c.slot-at.result ≡ h.size = omega arith in
    let m : bit_and h.number 16383 ≡ h.number % modulus = and_mask h.number 14 in
    rw (c.head_for-head.ensures, m, n, slot_is) at c.write.ensures
