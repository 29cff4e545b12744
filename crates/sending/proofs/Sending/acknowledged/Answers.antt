use borrow.Author.Tests.{le-ltb, lt-ltb}
use Rattle.sending.specs.Sending.{acked_by, named_by}
use Rattle.sending.proofs.Sending.acknowledged.Goals as goal

pub returns-then-self-d : goal.returns-then-self-d
unfolding acked_by named_by
returns-then-self-d c = simp (← c.distance-d.ensures, le-ltb _ _ c.if-self-d.true)

pub returns : goal.returns
unfolding acked_by named_by
returns c = simp (
  ← c.distance-d.ensures,
  lt-ltb _ _
      c.if-self-d.false,
  c.has-named.ensures,
  c.without-next.ensures,
)
