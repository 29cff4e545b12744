use Rattle.std.proofs.Common.{◌≡◌, ◌-◌, arith}
use Rattle.std.specs.Int.Count.{count_leading_zeros}
use Rattle.std.proofs.lemmas.Nat.{leading_length}
use Rattle.places.specs.Places.{mask_of}
use Rattle.places.proofs.Places.reach.Goals as goal

pub returns-clause-above : goal.returns-clause-above
unfolding mask_of
returns-clause-above c =
    let m = c.args.self.bits in
    let l = leading_length 32 m (omega arith) in
    let e : l.0 ≡ 32 - count_leading_zeros 32 m = omega (arith, l.1) in
    rw (← e) l.2
