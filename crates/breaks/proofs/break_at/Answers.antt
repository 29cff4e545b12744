use Rattle.field.proofs.Laws.{top_of, mid_of, low_of}
use Rattle.breaks.specs.Break.{break_at}
use Rattle.breaks.proofs.break_at.Goals as goal

pub returns : goal.returns
unfolding break_at
returns c =
    let s = c.args.s.now in
    let w = c.word_at-w.ensures in
    λ i. record { source = top_of s 0 4 12 w i; kind = mid_of s 0 4 4 8 w i; lasts = low_of s 0 8 8 w i }
