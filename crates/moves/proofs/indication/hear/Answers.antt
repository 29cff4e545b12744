-- `hear` meets its contract: by the verdict, the effect or the refusal, and the same in numbers.
-- Assumes nothing.
use Prim.Native.Nat.{ℕ}
use mathlib.Core.Path.{ap, ◌∙◌}
use mathlib.Core.List.{[], ◌∷◌}
use Rattle.std.specs.Prelude.{Ok}
use Rattle.ground.proofs.Settled.{settles_took, settles_refused}
use Rattle.mode.specs.Indication.{hear_step, notice}
use Rattle.mode.specs.Says.{hear_says}
use Rattle.mode.specs.declared.Heard.{Heard}
use Rattle.mode.specs.declared.Step.{Step}
use Rattle.ground.specs.Pick.{bit}
use Rattle.ground.specs.Answer.{accepted}
use Rattle.mode.specs.Moved.{channels_for}
use Rattle.moves.proofs.indication.hear.Goals as goal

pub returns-in-Ok : goal.returns-in-Ok
unfolding hear_step
returns-in-Ok c =
    let a = c.args in
    let v = c.hear_verdict in
    let passes = c.in-Ok.is in
    let local = c.heard_mode-local.ensures in
    let made = c.heard_modes-next.ensures in
    let channels = c.channels_for-channels.ensures ∙ ap (λ (s : ℕ). channels_for a.modes.local s) local in
    let n = notice a.modes a.mode in
    record { value = settles_took _ _ _ v.ensures passes (λ i. record { answer = Ok (record { local = local i; notice = n }); modes = made i; channels = channels i }); said = settles_took _ _ _ v.ensures passes (λ i. accepted (local i ∷ bit n ∷ [])) }

pub returns-in-Err : goal.returns-in-Err
unfolding hear_step
returns-in-Err c =
    let v = c.hear_verdict in
    record { value = c.refused.ensures ∙ settles_refused _ _ _ v.ensures c.in-Err.is; said = ap (λ (o : Step Heard). hear_says o.answer) c.refused.ensures ∙ settles_refused _ _ _ v.ensures c.in-Err.is }
