use native.Mathlib.Omega.{arith}
use borrow.Author.Tests.{le-ltb, lt-ltb, le-leb, lt-leb}
use Rattle.sending.specs.Sending.{heard_base}
use Rattle.sending.proofs.Sending.heard_base.Goals as goal

pub returns-then-d-eq0 : goal.returns-then-d-eq0
unfolding heard_base
returns-then-d-eq0 c = simp (← c.distance-d.ensures, le-ltb 0 c.distance-d.result (omega arith))

pub returns-then-self-d : goal.returns-then-self-d
unfolding heard_base
returns-then-self-d c =
    let d = c.distance-d in
    simp (← d.ensures, lt-ltb 0 d.result (omega arith), lt-leb _ _ c.if-self-d.true)

pub returns : goal.returns
unfolding heard_base
returns c =
    let d = c.distance-d in
    simp (
      ← d.ensures,
      lt-ltb 0 d.result (omega arith),
      le-leb _ _
          c.if-self-d.false,
      c.place.ensures,
      c.dropped-next.ensures,
    )
