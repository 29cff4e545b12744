use Rattle.std.proofs.Common.{rules, arith}
use Rattle.std.proofs.Output.{has_written_append, has_written_of_eq}
use Rattle.words.proofs.Hex.{turn}
use Rattle.words.proofs.answer.HexadecimalDisplay.fmt.Goals as goal

pub loop-octet-preserved : goal.loop-octet-preserved
loop-octet-preserved g c = λ p. has_written_of_eq _ _ _ _ _ (turn c.args.self.now.0.now c.loop-octet.octet-index (omega arith) (omega arith)) (has_written_append _ _ _ _ _ _ (c.loop-octet.invariant p) (search rules))
