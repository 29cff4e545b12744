use Rattle.writing.specs.Write.{wrote_line}
use Rattle.writing.proofs.wrote_line.Goals as goal

pub returns : goal.returns
unfolding wrote_line
returns c =
    let l = c.args.l in
    λ i. record { opened = l.opened; identifier = l.identifier; kind = l.kind; modes = l.modes; sending = l.sending; receiving = l.receiving; owed = c.without_three-owed.ensures i }
