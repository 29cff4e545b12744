use lib.Dec.{eqb}
use Rattle.field.proofs.Laws.{top_of, mid_of, low_of}
use Rattle.connect.specs.Read.{connect_at}
use Rattle.connect.proofs.connect_at.Goals as goal

pub returns : goal.returns
unfolding connect_at
returns c =
    let s = c.args.s.now in
    let w = c.word_at-w.ensures in
    let f = c.word_at-flags.ensures in
    λ i. record { modulation = top_of s 0 6 10 w i; direction = mid_of s 0 6 2 8 w i; compression = mid_of s 0 8 4 4 w i; correction = low_of s 0 12 4 w i; transmit = c.way_at-transmit.ensures i; receive = c.way_at-receive.ensures i; dlci = eqb (top_of s 48 1 15 f i) 1; octet = eqb (mid_of s 48 1 1 14 f i) 1; rawbit = eqb (mid_of s 48 2 1 13 f i) 1; frame = eqb (mid_of s 48 3 1 12 f i) 1; charstat = eqb (mid_of s 48 4 1 11 f i) 1; chardyn = eqb (mid_of s 48 5 1 10 f i) 1 }
