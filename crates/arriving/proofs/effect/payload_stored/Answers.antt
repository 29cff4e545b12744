use Rattle.arriving.proofs.Effects.{stored_near, receiving_steps, place_near, same_side, stored_line_lem, stored_part_lem}
use Rattle.arriving.specs.Effect.{arrival_at}
use Rattle.relay.proofs.Lines.{slot_in}
use Rattle.store.specs.declared.Way.TheVariants as way
use Rattle.store.specs.Store.{slot_at}
use Rattle.line.specs.Line.{receiving_of, with_receiving}
use Rattle.receiving.specs.declared.Arrival.TheVariants.{Stored, There, Old}
use Rattle.receiving.specs.Receiving.{arrival_of, arrival_place, stored_at}
use Rattle.line.specs.Figures.{receive_window}
use lib.Seq.{sets}
use lib.ListN.{length}
use mathlib.Core.Path.{◌≡◌, sym, ◌∙◌}
use Prim.Native.Nat.{◌<◌}
use Rattle.arriving.proofs.effect.payload_stored.Goals as goal

pub place_of-place-requires : goal.place_of-place-requires
place_of-place-requires c =
    let new : let a = c.args in arrival_at a.l a.channel a.number ≡ Stored c.in-Stored.d = let a = c.args in
    let w = c.receive_window-window.ensures in
    sym (c.arrival-arrival.ensures ∙ (λ i. arrival_of (w i) (c.receiving-side.ensures i) a.number)) ∙ c.in-Stored.is in
    let near : c.in-Stored.d < receive_window c.args.l c.args.channel = let a = c.args in
    stored_near (receive_window a.l a.channel) (receiving_of a.l a.channel) a.number (new) in
    rw (c.receive_window-window.ensures, c.receiving-side.ensures) (receiving_steps c.args.l c.requires.0 c.args.channel, near)

pub put-requires : goal.put-requires
put-requires c =
    let new : let a = c.args in arrival_at a.l a.channel a.number ≡ Stored c.in-Stored.d = let a = c.args in
    let w = c.receive_window-window.ensures in
    sym (c.arrival-arrival.ensures ∙ (λ i. arrival_of (w i) (c.receiving-side.ensures i) a.number)) ∙ c.in-Stored.is in
    let near : c.in-Stored.d < receive_window c.args.l c.args.channel = let a = c.args in
    stored_near (receive_window a.l a.channel) (receiving_of a.l a.channel) a.number (new) in
    let w = c.receive_window-window.ensures in
    let p = c.place_of-place.ensures ∙ (λ i. arrival_place (w i) (c.receiving-side.ensures i) c.in-Stored.d) in
    rw (c.region-region.ensures, p)
    (slot_in c.args.l way.Receiving c.args.channel (arrival_place (receive_window c.args.l c.args.channel) (receiving_of c.args.l c.args.channel) c.in-Stored.d) (length c.args.part.now) c.requires.2 (place_near c.args.l c.requires.0 c.args.channel (near)) c.requires.1, c.requires.4)

pub stored_at-next-requires : goal.stored_at-next-requires
stored_at-next-requires c =
    let new : let a = c.args in arrival_at a.l a.channel a.number ≡ Stored c.in-Stored.d = let a = c.args in
    let w = c.receive_window-window.ensures in
    sym (c.arrival-arrival.ensures ∙ (λ i. arrival_of (w i) (c.receiving-side.ensures i) a.number)) ∙ c.in-Stored.is in
    let near : c.in-Stored.d < receive_window c.args.l c.args.channel = let a = c.args in
    stored_near (receive_window a.l a.channel) (receiving_of a.l a.channel) a.number (new) in
    rw (c.receive_window-window.ensures, c.receiving-side.ensures) (receiving_steps c.args.l c.requires.0 c.args.channel, near)

pub returns-in-Stored : goal.returns-in-Stored
returns-in-Stored c =
    let new : let a = c.args in arrival_at a.l a.channel a.number ≡ Stored c.in-Stored.d = let a = c.args in
    let w = c.receive_window-window.ensures in
    sym (c.arrival-arrival.ensures ∙ (λ i. arrival_of (w i) (c.receiving-side.ensures i) a.number)) ∙ c.in-Stored.is in
    let a = c.args in
    let d = c.in-Stored.d in
    let n = length a.message.now in
    let w = c.receive_window-window.ensures in
    let s = c.receiving-side.ensures in
    let t = c.stored_at-next.ensures ∙ (λ i. stored_at (w i) (s i) d n) in
    let p = c.place_of-place.ensures ∙ (λ i. arrival_place (w i) (s i) d) in (
      c.with_receiving.ensures ∙ (λ i. with_receiving (c.number_owed-owing.ensures i) a.channel (t i)) ∙ stored_line_lem a.l a.channel a.number (new) n,
      c.put.ensures ∙ (λ i. sets a.part.now (slot_at (c.region-region.ensures i) (p i)) a.message.now) ∙ stored_part_lem a.l a.channel a.number (new) a.message.now a.part.now,
    )

pub returns-in-There : goal.returns-in-There
returns-in-There c =
    let a = c.args in
    let w = c.receive_window-window.ensures in
    let e : arrival_at a.l a.channel a.number ≡ There = sym (c.arrival-arrival.ensures ∙ (λ i. arrival_of (w i) (c.receiving-side.ensures i) a.number)) ∙ c.in-There.is in
    (c.number_owed-owing.ensures ∙ sym (same_side a.l a.channel a.number) ∙ stored_line_lem a.l a.channel a.number e (length a.message.now), stored_part_lem a.l a.channel a.number e a.message.now a.part.now)

pub returns-in-Old : goal.returns-in-Old
returns-in-Old c =
    let a = c.args in
    let w = c.receive_window-window.ensures in
    let e : arrival_at a.l a.channel a.number ≡ Old = sym (c.arrival-arrival.ensures ∙ (λ i. arrival_of (w i) (c.receiving-side.ensures i) a.number)) ∙ c.in-Old.is in
    (c.number_owed-owing.ensures ∙ sym (same_side a.l a.channel a.number) ∙ stored_line_lem a.l a.channel a.number e (length a.message.now), stored_part_lem a.l a.channel a.number e a.message.now a.part.now)
