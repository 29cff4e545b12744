use Rattle.line.specs.Line.{line_with}
use Rattle.line.specs.Mode.{stepped_to}
use Rattle.line.proofs.Line.stepped.Goals as goal

pub returns-in-Stay : goal.returns-in-Stay
unfolding stepped_to
returns-in-Stay c = rw c.in-Stay.is

pub returns-in-Fresh : goal.returns-in-Fresh
unfolding stepped_to
returns-in-Fresh c =
    let l = c.args.self in
    rw c.in-Fresh.is
    (λ i. line_with l.opened l.identifier l.kind c.args.modes (c.fresh-sending.ensures i) (c.fresh-sending.ensures i) (c.fresh-receiving.ensures i) (c.fresh-receiving.ensures i) (c.fresh-owed.ensures i))

pub returns-in-Emptied : goal.returns-in-Emptied
unfolding stepped_to
returns-in-Emptied c =
    let l = c.args.self in
    rw c.in-Emptied.is
    (λ i. line_with l.opened l.identifier l.kind c.args.modes (c.emptied.ensures i) (c.emptied-in-Emptied.ensures i) (c.emptied-in-Emptied-2.ensures i) (c.emptied-in-Emptied-3.ensures i) (c.fresh-owed-in-Emptied.ensures i))
