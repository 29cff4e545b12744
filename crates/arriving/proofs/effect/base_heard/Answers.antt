use Rattle.arriving.proofs.Effects.{sending_steps}
use Rattle.arriving.specs.Effect.{heard_line}
use Rattle.line.specs.Line.{with_sending}
use Rattle.sending.specs.Sending.{heard_base}
use Rattle.sending.specs.declared.Sending.{Sending}
use mathlib.Core.Path.{ap, ◌∙◌}
use Rattle.arriving.proofs.effect.base_heard.Goals as goal

pub heard_base-next-requires : goal.heard_base-next-requires
heard_base-next-requires c =
    rw (c.send_window-window.ensures, c.sending-side.ensures) (sending_steps c.args.l c.requires c.args.channel)

pub returns-then-channel : goal.returns-then-channel
unfolding heard_line
returns-then-channel c =
    let a = c.args in
    let w = c.send_window-window.ensures in
    let t = c.heard_base-next.ensures ∙ (λ i. heard_base (w i) (c.sending-side.ensures i) a.base) in
    simp c.if-channel.true (c.with_sending.ensures ∙ ap (λ (k : Sending). with_sending a.l a.channel k) t)

pub returns : goal.returns
unfolding heard_line
returns c = simp c.if-channel.false
