use mathlib.Core.Path.{refl, ap}
use Rattle.mode.specs.Says.{hear_says}
use Rattle.mode.specs.Acts.{hear_outcome}
use Rattle.mode.specs.Acts as act
use Rattle.signals.proofs.Moves.{stops_at, goes_by}
use Rattle.signals.proofs.hear.Goals as goal

pub returns-in_err-open_line_verdict : goal.returns-in_err-open_line_verdict
returns-in_err-open_line_verdict c = let a = c.args in stops_at hear_says (λ r. refl) a.book a.line (act.hear a.mode a.time) c.open_line_verdict.ensures c.from_residual.result c.from_residual.ensures.1 c.in_err-open_line_verdict.was

pub returns : goal.returns
returns c =
    let a = c.args in
    goes_by hear_says (λ r. refl) a.book a.line (act.hear a.mode a.time) c.open_line_verdict.ensures c.in_ok-open_line_verdict.was c.hear.result c.line.ensures
    (ap hear_outcome c.hear.ensures.value) c.stepped.ensures
