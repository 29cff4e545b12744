use lib.Dec.{lit≤}
use Rattle.field.proofs.Laws.{top_of, mid_of, low_of, bits_join}
use Rattle.slip.specs.Slip.{slip_at}
use Rattle.slip.proofs.slip_at.Goals as goal

pub returns : goal.returns
unfolding slip_at
returns c =
    let s = c.args.s.now in
    let x = c.long_at-a.ensures in
    let y = c.long_at-b.ensures in
    let z = c.long_at-c.ensures in
    λ i. record { identifier = mid_of s 0 4 7 21 x i; kind = mid_of s 0 11 7 14 x i; count1 = bits_join s 18 14 10 32 (lit≤ tt) (low_of s 0 18 14 x) (top_of s 32 10 22 y) i; count2 = bits_join s 42 22 2 32 (lit≤ tt) (low_of s 32 10 22 y) (top_of s 64 2 30 z) i; reason = mid_of s 64 2 8 22 z i }
