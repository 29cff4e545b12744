use mathlib.Core.Path.{refl, ap}
use Rattle.mode.specs.Says.{ask_says}
use Rattle.mode.specs.Acts.{ask_outcome}
use Rattle.mode.specs.Acts as act
use Rattle.signals.proofs.Moves.{stops_at, goes_by}
use Rattle.signals.proofs.ask.Goals as goal

pub returns-in_err-open_line_verdict : goal.returns-in_err-open_line_verdict
returns-in_err-open_line_verdict c = let a = c.args in stops_at ask_says (λ r. refl) a.book a.line (act.ask a.mode a.time) c.open_line_verdict.ensures c.from_residual.result c.from_residual.ensures.1 c.in_err-open_line_verdict.was

pub returns : goal.returns
returns c =
    let a = c.args in
    goes_by ask_says (λ r. refl) a.book a.line (act.ask a.mode a.time) c.open_line_verdict.ensures c.in_ok-open_line_verdict.was c.ask.result c.line.ensures
    (ap ask_outcome c.ask.ensures.value) c.stepped.ensures
