-- `tick` meets its contract: by the verdict, the effect or the refusal, and the same in numbers.
-- Assumes nothing.
use mathlib.Core.Path.{ap, ◌∙◌}
use Rattle.ground.proofs.Settled.{settles_took, settles_refused}
use Rattle.mode.specs.declared.Modes.{Modes}
use Rattle.std.specs.Prelude.{Ok}
use Rattle.mode.specs.declared.Due.{Due}
use Rattle.mode.specs.declared.Step.{Step}
use Rattle.mode.specs.Recovery.{tick_step}
use Rattle.mode.specs.Says.{tick_says}
use Rattle.mode.specs.Moved.{channels_for}
use Rattle.mode.proofs.Tries.{answer_says}
use Rattle.moves.proofs.recovery.tick.Goals as goal

pub returns-in-Ok : goal.returns-in-Ok
unfolding tick_step
returns-in-Ok c =
    let a = c.args in
    let v = c.tick_verdict in
    let passes = c.in-Ok.is in
    let answer = c.ticked_answer-answer.ensures in
    let made = c.ticked_modes-next.ensures in
    let channels = c.channels_for-channels.ensures ∙ ap (λ (n : Modes). channels_for a.modes.local n.local) made in
    record { value = settles_took _ _ _ v.ensures passes (λ i. record { answer = Ok (answer i); modes = made i; channels = channels i }); said = settles_took _ _ _ v.ensures passes (ap (λ (d : Due). tick_says (Ok d)) answer ∙ answer_says a.modes a.time) }

pub returns-in-Err : goal.returns-in-Err
unfolding tick_step
returns-in-Err c =
    let v = c.tick_verdict in
    record { value = c.refused.ensures ∙ settles_refused _ _ _ v.ensures c.in-Err.is; said = ap (λ (o : Step Due). tick_says o.answer) c.refused.ensures ∙ settles_refused _ _ _ v.ensures c.in-Err.is }
