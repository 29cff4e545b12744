use mathlib.Core.Path.{◌≡◌, sym, ap, ◌∙◌}
use Rattle.ground.specs.Refusal.{verdict}
use Rattle.ground.specs.declared.Refusal.TheVariants.{NOTHING}
use Rattle.ground.proofs.Settled.{handed_on, was_found, was_missing}
use Rattle.relay.specs.RelayTests.{relay_channel_tests}
use Rattle.writing.specs.Send.{ranked}
use native.Mathlib.Omega.{arith}
use Rattle.std.specs.Prelude.{Ok, Err}
use Rattle.sending.specs.Sending.{held_of}
use Rattle.relay.proofs.Lines.{sending_steps}
use Rattle.writing.proofs.Sends.{send_refused, send_nothing, send_room, send_may}
use Rattle.writing.proofs.Packets.{acks_few}
use Rattle.writing.proofs.held.may_send.Goals as goal

pub ranked-requires : goal.ranked-requires
ranked-requires c =
    let asked_first : verdict (relay_channel_tests c.args.l c.args.channel) ≡ Ok tt = sym c.channel_verdict.ensures ∙ c.in_ok-channel_verdict.was in
    let w = c.send_window-window.ensures in
    rw (w, c.sending-side.ensures) (sending_steps c.args.l c.requires c.args.channel (asked_first))

pub overflow_add-header_length : goal.overflow_add-header_length
overflow_add-header_length c = record { fits = omega (arith, c.header_length.ensures, acks_few c.args.l, c.well_formed) }

pub returns-in_err-channel_verdict : goal.returns-in_err-channel_verdict
returns-in_err-channel_verdict c =
    let a = c.args in
    handed_on c.from_residual.result c.from_residual.ensures.1 ∙ sym (send_refused a.l a.channel a.rank a.space (sym c.channel_verdict.ensures ∙ c.in_err-channel_verdict.was))

pub returns-in_err-h : goal.returns-in_err-h
returns-in_err-h c =
    let asked_first : verdict (relay_channel_tests c.args.l c.args.channel) ≡ Ok tt = sym c.channel_verdict.ensures ∙ c.in_ok-channel_verdict.was in
    let found_is : ranked c.args.l c.args.channel c.args.rank ≡ c.ranked.result = let w = c.send_window-window.ensures in
    sym (c.ranked.ensures ∙ (λ i. held_of (w i) (c.sending-side.ensures i) c.args.rank)) in
    let a = c.args in
    let missing = was_missing c.ranked.result NOTHING c.ok_or.ensures.value c.in_err-h.was in
    handed_on c.from_residual-in_err-h.result c.from_residual-in_err-h.ensures.1 ∙ ap Err missing.1 ∙ sym (send_nothing a.l a.channel a.rank a.space (asked_first) (found_is ∙ missing.0))

pub returns : goal.returns
returns c =
    let asked_first : verdict (relay_channel_tests c.args.l c.args.channel) ≡ Ok tt = sym c.channel_verdict.ensures ∙ c.in_ok-channel_verdict.was in
    let found_is : ranked c.args.l c.args.channel c.args.rank ≡ c.ranked.result = let w = c.send_window-window.ensures in
    sym (c.ranked.ensures ∙ (λ i. held_of (w i) (c.sending-side.ensures i) c.args.rank)) in
    let a = c.args in
    sym (send_may a.l a.channel a.rank a.space (asked_first) (found_is ∙ was_found c.ranked.result NOTHING c.ok_or.ensures.value c.in_ok-h.was) (omega (arith, c.header_length.ensures, c.if-space-header_length.false)))

pub returns-then-space-header_length : goal.returns-then-space-header_length
returns-then-space-header_length c =
    let asked_first : verdict (relay_channel_tests c.args.l c.args.channel) ≡ Ok tt = sym c.channel_verdict.ensures ∙ c.in_ok-channel_verdict.was in
    let found_is : ranked c.args.l c.args.channel c.args.rank ≡ c.ranked.result = let w = c.send_window-window.ensures in
    sym (c.ranked.ensures ∙ (λ i. held_of (w i) (c.sending-side.ensures i) c.args.rank)) in
    let a = c.args in
    sym (send_room a.l a.channel a.rank a.space (asked_first) (found_is ∙ was_found c.ranked.result NOTHING c.ok_or.ensures.value c.in_ok-h.was) (omega (arith, c.header_length.ensures, c.if-space-header_length.true)))
