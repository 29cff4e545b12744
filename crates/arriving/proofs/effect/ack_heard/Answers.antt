use Rattle.field.specs.Word.{channel_of}
use Rattle.arriving.proofs.Effects.{sending_spans}
use Rattle.arriving.specs.Effect.{acked_line}
use Rattle.line.specs.Line.{with_sending}
use Rattle.sending.specs.Sending.{acked_by}
use Rattle.sending.specs.declared.Acknowledged.{Acknowledged}
use Rattle.sending.specs.declared.Sending.{Sending}
use mathlib.Core.Path.{ap, ◌∙◌}
use lib.Bits.{and_mask}
use Rattle.arriving.proofs.effect.ack_heard.Goals as goal

pub acknowledged-heard-requires : goal.acknowledged-heard-requires
acknowledged-heard-requires c = rw c.sending-side.ensures (sending_spans c.args.l c.requires (channel_of c.args.word))

pub returns : goal.returns
unfolding acked_line
returns c =
    let a = c.args in
    let t = ap (λ (k : Acknowledged). k.side) c.acknowledged-heard.ensures ∙ (λ i. acked_by (c.sending-side.ensures i) (and_mask a.word 14 i)) in
    c.with_sending.ensures ∙ ap (λ (k : Sending). with_sending a.l (channel_of a.word) k) t
