use Rattle.ground.proofs.Settled.{handed_on}
use Rattle.calls.proofs.FirstTests.{on_line}
use Rattle.calls.proofs.FirstStops.{line_stops, line_goes_on}
use Rattle.calls.proofs.OrderStages.{open_stages}
use mathlib.Core.Path.{sym, ◌∙◌}
use Rattle.calls.proofs.may_open.Goals as goal

pub may_open_line-requires : goal.may_open_line-requires
may_open_line-requires c = let o = on_line c.args.book c.args.line (sym c.line_verdict.ensures ∙ c.in_ok-line_verdict.was) in (o.number, o.few)

pub returns-in_err-line_verdict : goal.returns-in_err-line_verdict
returns-in_err-line_verdict c = let a = c.args in handed_on c.from_residual.result c.from_residual.ensures.1 ∙ line_stops a.book a.line (open_stages a.book a.line a.settings) c.line_verdict.ensures c.in_err-line_verdict.was

pub returns : goal.returns
returns c = let a = c.args in line_goes_on a.book a.line (open_stages a.book a.line a.settings) c.line_verdict.ensures c.in_ok-line_verdict.was c.may_open_line.ensures
