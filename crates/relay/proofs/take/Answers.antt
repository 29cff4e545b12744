use mathlib.Core.Path.{◌∙◌}
use Prim.Native.Nat.{ℕ}
use native.Mathlib.Omega.{arith}
use lib.ListN.{length}
use Rattle.sending.specs.Sending.{next_place}
use Rattle.line.specs.Line.{sending_of}
use Rattle.line.specs.Figures.{send_window}
use Rattle.store.specs.declared.Way.TheVariants.{Sending}
use Rattle.relay.proofs.Lines.{slot_in, take_reliable, take_size, take_steps, take_cap, take_window, take_place}
use Rattle.relay.proofs.take.Goals as goal

pub next_place-place-requires : goal.next_place-place-requires
next_place-place-requires c =
    let w = c.send_window-window.ensures in
    rw (w, c.sending-side.ensures) (take_steps c.args.l c.requires.0 c.args.channel (length c.args.message.now) c.requires.2)

pub put-requires : goal.put-requires
put-requires c =
    let n : ℕ = length c.args.message.now in
    let w = c.send_window-window.ensures in
    let p = c.next_place-place.ensures ∙ (λ i. next_place (w i) (c.sending-side.ensures i)) in
    rw (c.region-region.ensures, p)
    (slot_in c.args.l Sending c.args.channel (next_place (send_window c.args.l c.args.channel) (sending_of c.args.l c.args.channel)) (length c.args.part.now) (take_reliable c.args.l c.requires.0 c.args.channel n c.requires.2) (take_place c.args.l c.requires.0 c.args.channel n c.requires.2) c.requires.1, (take_size c.args.l c.requires.0 c.args.channel n c.requires.2))

pub overflow_cast-message : goal.overflow_cast-message
overflow_cast-message c =
    record { fits = omega (arith, take_size c.args.l c.requires.0 c.args.channel (length c.args.message.now) c.requires.2) }

pub took-next-requires : goal.took-next-requires
took-next-requires c =
    let n : ℕ = length c.args.message.now in
    let w = c.send_window-window.ensures in
    rw (w, c.sending-side.ensures) (take_steps c.args.l c.requires.0 c.args.channel n c.requires.2, take_cap c.args.l c.requires.0 c.args.channel n c.requires.2, take_window c.args.l c.requires.0 c.args.channel n c.requires.2)
