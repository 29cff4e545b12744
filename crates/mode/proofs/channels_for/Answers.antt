-- `channels_for` meets its contract: each return is one case of the definition.
-- Assumes nothing.
use Rattle.mode.specs.Moved.{channels_for}
use Rattle.mode.proofs.channels_for.Goals as goal

pub returns-then-enters_m : goal.returns-then-enters_m
unfolding channels_for
returns-then-enters_m c = simp (← c.enters_m.ensures, c.if-enters_m.true)

pub returns-then-leaves_m : goal.returns-then-leaves_m
unfolding channels_for
returns-then-leaves_m c = simp (← c.enters_m.ensures, c.if-enters_m.false, ← c.leaves_m.ensures, c.if-leaves_m.true)

pub returns : goal.returns
unfolding channels_for
returns c = simp (← c.enters_m.ensures, c.if-enters_m.false, ← c.leaves_m.ensures, c.if-leaves_m.false)
