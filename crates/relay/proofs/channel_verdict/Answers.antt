use mathlib.Core.List.{[], ◌∷◌}
use Rattle.ground.specs.Refusal.{must}
use Rattle.ground.specs.declared.Refusal.TheVariants.{CHANNEL}
use Rattle.relay.specs.RelayTests.{relay_line_tests, reliable, relay_channel_tests}
use Rattle.ground.proofs.Settled.{handed_on}
use Rattle.ground.proofs.Verdicts.{verdict_on, verdict_stop}
use mathlib.Core.Path.{sym, ◌∙◌}
use Rattle.relay.proofs.channel_verdict.Goals as goal

pub returns-in_err-relay_verdict : goal.returns-in_err-relay_verdict
unfolding relay_channel_tests
returns-in_err-relay_verdict c = handed_on c.from_residual.result c.from_residual.ensures.1 ∙ sym (verdict_stop (relay_line_tests c.args.l) (must (reliable c.args.channel) CHANNEL ∷ []) (sym c.relay_verdict.ensures ∙ c.in_err-relay_verdict.was))

pub returns-then-not-channel : goal.returns-then-not-channel
unfolding relay_channel_tests
returns-then-not-channel c = sym (verdict_on (relay_line_tests c.args.l) (must (reliable c.args.channel) CHANNEL ∷ []) (sym c.relay_verdict.ensures ∙ c.in_ok-relay_verdict.was) ∙ simp c.if-not-channel.true)

pub returns : goal.returns
unfolding relay_channel_tests
returns c = sym (verdict_on (relay_line_tests c.args.l) (must (reliable c.args.channel) CHANNEL ∷ []) (sym c.relay_verdict.ensures ∙ c.in_ok-relay_verdict.was) ∙ simp c.if-not-channel.false)
