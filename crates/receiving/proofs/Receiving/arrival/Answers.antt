use borrow.Author.Tests.{le-ltb, lt-ltb}
use Rattle.receiving.specs.Receiving.{arrival_of}
use Rattle.receiving.proofs.Receiving.arrival.Goals as goal

pub returns-then-window-d : goal.returns-then-window-d
unfolding arrival_of
returns-then-window-d c = simp (← c.distance-d.ensures, le-ltb _ _ c.if-window-d.true)

pub returns-then-has : goal.returns-then-has
unfolding arrival_of
returns-then-has c = simp (
  ← c.distance-d.ensures,
  lt-ltb _ _
      c.if-window-d.false,
  ← c.has.ensures,
  c.if-has.true,
)

pub returns : goal.returns
unfolding arrival_of
returns c = simp (
  ← c.distance-d.ensures,
  lt-ltb _ _
      c.if-window-d.false,
  ← c.has.ensures,
  c.if-has.false,
)
