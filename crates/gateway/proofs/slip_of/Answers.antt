use Rattle.calls.specs.Result.{slip_of}
use Rattle.gateway.proofs.slip_of.Goals as goal

pub returns-then-ended : goal.returns-then-ended
unfolding slip_of
returns-then-ended c = simp (← c.ended.ensures, c.if-ended.true)

pub returns-else-ended : goal.returns-else-ended
unfolding slip_of
returns-else-ended c = simp (← c.ended.ensures, c.if-ended.false)
