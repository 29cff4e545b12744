-- `ask` meets its contract: by the verdict, the effect or the refusal, and the same in numbers.
-- Assumes nothing.
use Prim.Native.Nat.{ℕ}
use mathlib.Core.Path.{refl, ap, ◌∙◌}
use Rattle.std.specs.Prelude.{Ok}
use Rattle.mode.specs.Request.{ask_step}
use Rattle.mode.specs.Says.{ask_says}
use Rattle.mode.specs.declared.Step.{Step}
use Rattle.ground.proofs.Settled.{settles_took, settles_refused}
use Rattle.moves.proofs.request.ask.Goals as goal

pub returns-in-Ok : goal.returns-in-Ok
unfolding ask_step
returns-in-Ok c =
    let v = c.ask_verdict in
    let passes = c.in-Ok.is in
    let made = c.moved-next.ensures in
    let channels = c.channels_for-channels.ensures in
    record { value = settles_took _ _ _ v.ensures passes (λ i. record { answer = Ok c.args.mode; modes = made i; channels = channels i }); said = settles_took _ _ _ v.ensures passes refl }

pub returns-in-Err : goal.returns-in-Err
unfolding ask_step
returns-in-Err c =
    let v = c.ask_verdict in
    record { value = c.refused.ensures ∙ settles_refused _ _ _ v.ensures c.in-Err.is; said = ap (λ (o : Step ℕ). ask_says o.answer) c.refused.ensures ∙ settles_refused _ _ _ v.ensures c.in-Err.is }
