use Rattle.arriving.proofs.Effects.{acked_relaying}
use Rattle.arriving.specs.Effect.{acked_line, acked_all}
use Rattle.line.specs.declared.Line.{Line}
use native.Mathlib.Omega.{arith}
use mathlib.Core.Path.{◌≡◌, refl, ap, ◌∙◌}
use Rattle.arriving.proofs.effect.acks_heard.Goals as goal

pub returns-then-acks-eq0 : goal.returns-then-acks-eq0
unfolding acked_all
returns-then-acks-eq0 c = rw c.if-acks-eq0.true refl

pub returns-then-acks-eq1 : goal.returns-then-acks-eq1
unfolding acked_all
returns-then-acks-eq1 c = rw c.if-acks-eq1.true c.ack_heard-one.ensures

pub ack_heard-two-requires : goal.ack_heard-two-requires
ack_heard-two-requires c =
    rw c.ack_heard-one.ensures (acked_relaying c.args.l c.requires.0 c.args.acks.one)

pub returns-then-acks-eq2 : goal.returns-then-acks-eq2
unfolding acked_all
returns-then-acks-eq2 c =
    let a = c.args in
    rw c.if-acks-eq2.true (c.ack_heard-two.ensures ∙ ap (λ (m : Line). acked_line m a.acks.two) c.ack_heard-one.ensures)

pub ack_heard-requires : goal.ack_heard-requires
ack_heard-requires c =
    rw (c.ack_heard-two.ensures, c.ack_heard-one.ensures) (acked_relaying (acked_line c.args.l c.args.acks.one) (acked_relaying c.args.l c.requires.0 c.args.acks.one) c.args.acks.two)

pub returns : goal.returns
unfolding acked_all
returns c =
    let a = c.args in
    let e : a.acks.count ≡ 3 = omega (arith, c.requires.1, c.if-acks-eq0.false, c.if-acks-eq1.false, c.if-acks-eq2.false) in
    rw e (c.ack_heard.ensures ∙ ap (λ (m : Line). acked_line m a.acks.three) (c.ack_heard-two.ensures ∙ ap (λ (m : Line). acked_line m a.acks.two) c.ack_heard-one.ensures))
