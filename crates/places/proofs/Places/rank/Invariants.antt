use Rattle.std.proofs.Common.{◌≡◌, ◌+◌}
use Rattle.places.specs.Places.{mask_of, set_below}
use Rattle.places.proofs.Places.rank.Given as goal

abbrev pub invariant-loop-i : goal.invariant-loop-i
invariant-loop-i l = set_below (mask_of l.self) l.i + l.left ≡ l.rank
