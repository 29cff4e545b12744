use mathlib.Core.Path.{ap, ◌∙◌}
use Prim.Native.Nat.{ℕ}
use lib.ListN.{length}
use Rattle.receiving.specs.Receiving.{next_size}
use Rattle.receiving.specs.declared.Receiving.{Receiving}
use Rattle.line.specs.Line.{receiving_of}
use Rattle.store.specs.declared.Way.TheVariants as way
use Rattle.relay.proofs.Lines.{slot_in, hand_first, hand_reliable, hand_steps, hand_cap, hand_room, hand_size}
use Rattle.relay.proofs.hand_out.Goals as goal

pub next_size-size-requires : goal.next_size-size-requires
next_size-size-requires c =
    rw c.receiving-side.ensures (hand_first c.args.l c.requires.0 c.args.channel (length c.args.out.now) c.requires.2)

pub copy_out-requires : goal.copy_out-requires
copy_out-requires c =
    let m : ℕ = length c.args.out.now in
    let s = c.receiving-side.ensures in
    let n = c.next_size-size.ensures ∙ ap (λ (r : Receiving). next_size r) s in
    let f = ap (λ (r : Receiving). r.origin) s in
    rw (c.region-region.ensures, n, f)
    (slot_in c.args.l way.Receiving c.args.channel (receiving_of c.args.l c.args.channel).origin (length c.args.part.now) (hand_reliable c.args.l c.requires.0 c.args.channel m c.requires.2) (hand_steps c.args.l c.requires.0 c.args.channel m c.requires.2).placed c.requires.1, (hand_size c.args.l c.requires.0 c.args.channel m c.requires.2), hand_room c.args.l c.requires.0 c.args.channel m c.requires.2)

pub handed_out-requires : goal.handed_out-requires
handed_out-requires c =
    let w = c.receive_window-window.ensures in
    rw (w, c.receiving-side.ensures) (hand_steps c.args.l c.requires.0 c.args.channel (length c.args.out.now) c.requires.2, hand_cap c.args.l c.requires.0 c.args.channel (length c.args.out.now) c.requires.2)
