use Rattle.field.proofs.Laws.{low_of, mid_of}
use Rattle.packet.specs.Read.{head_at}
use Rattle.packet.proofs.head_at.Goals as goal

pub returns : goal.returns
unfolding head_at
returns c =
    let s = c.args.s.now in
    let w = c.word_at-w.ensures in
    λ i. record { identifier = mid_of s 0 1 7 8 w i; kind = low_of s 0 9 7 w i; channel = c.channel_at-channel.ensures i; number = c.number_at-number.ensures i; base = c.base_at-base.ensures i }
