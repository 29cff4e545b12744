use Rattle.ground.proofs.Settled.{handed_on}
use Rattle.writing.specs.Write.{empty_tests}
use Rattle.line.specs.declared.Line.{Line}
use Rattle.calls.proofs.OrderStages.{empty_stages}
use Rattle.calls.proofs.FirstStops.{line_stops, line_goes_on}
use Rattle.ground.specs.Refusal.{verdict}
use mathlib.Core.Path.{ap, ◌∙◌}
use Rattle.outgoing.proofs.verdicts.may_write_empty.Goals as goal

pub returns-in_err-line_verdict : goal.returns-in_err-line_verdict
returns-in_err-line_verdict c = let a = c.args in handed_on c.from_residual.result c.from_residual.ensures.1 ∙ line_stops a.book a.line (empty_stages a.book a.line a.channel a.space) c.line_verdict.ensures c.in_err-line_verdict.was

pub returns : goal.returns
returns c =
    let a = c.args in
    line_goes_on a.book a.line (empty_stages a.book a.line a.channel a.space) c.line_verdict.ensures c.in_ok-line_verdict.was
    (c.may_write_empty.ensures ∙ ap (λ (l : Line). verdict (empty_tests l a.channel a.space)) c.line.ensures)
