use Rattle.std.proofs.Common.{◌≡◌, ◌+◌, ◌<◌, ℕ, length, get_or}
use Rattle.field.proofs.octets_at.Given as goal

abbrev pub invariant-loop-k : goal.invariant-loop-k
invariant-loop-k g l =
    (length l.octet-items ≡ g.row.N) × ((j : ℕ) → j < l.k → get_or l.octet-items j 0 ≡ get_or l.s (l.i + j) 0)
