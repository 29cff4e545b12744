use mathlib.Core.Path.{sym, ◌∙◌}
use Rattle.ground.specs.Refusal.{verdict}
use Rattle.ground.proofs.Settled.{handed_on}
use Rattle.ground.proofs.Verdicts.{verdict_on, verdict_stop}
use Rattle.sending.specs.Sending.{take_tests}
use Rattle.relay.specs.RelayTests.{relay_channel_tests}
use Rattle.relay.specs.Take.{take_call_tests}
use Rattle.relay.proofs.Lines.{sending_ordered}
use Rattle.relay.proofs.may_take.Goals as goal

pub may_take-requires : goal.may_take-requires
may_take-requires c =
    rw c.sending.ensures (sending_ordered c.args.l c.requires c.args.channel (sym c.channel_verdict.ensures ∙ c.in_ok-channel_verdict.was))

pub returns-in_err-channel_verdict : goal.returns-in_err-channel_verdict
unfolding take_call_tests
returns-in_err-channel_verdict c =
    let l = c.args.l in
    handed_on c.from_residual.result c.from_residual.ensures.1 ∙ sym (verdict_stop (relay_channel_tests l c.args.channel) _ (sym c.channel_verdict.ensures ∙ c.in_err-channel_verdict.was))

pub returns : goal.returns
unfolding take_call_tests
returns c =
    let a = c.args in
    let fits = rw c.send_largest-largest.ensures at c.if-not-n-largest.false in
    let e = verdict_on (relay_channel_tests a.l a.channel) _ (sym c.channel_verdict.ensures ∙ c.in_ok-channel_verdict.was) in
    c.may_take.ensures ∙ (λ i. verdict (take_tests (c.send_window.ensures i) (c.sending.ensures i))) ∙ sym (e ∙ simp fits)

pub returns-then-not-n-largest : goal.returns-then-not-n-largest
unfolding take_call_tests
returns-then-not-n-largest c =
    let a = c.args in
    let unfit = rw c.send_largest-largest.ensures at c.if-not-n-largest.true in
    sym (verdict_on (relay_channel_tests a.l a.channel) _ (sym c.channel_verdict.ensures ∙ c.in_ok-channel_verdict.was) ∙ simp unfit)
