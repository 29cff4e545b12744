use Rattle.std.proofs.Common.{◌≤◌, length}
use Rattle.words.proofs.arguments.read.Given as goal

abbrev pub invariant-loop-value : goal.invariant-loop-value
invariant-loop-value l = l.size ≤ length l.out
