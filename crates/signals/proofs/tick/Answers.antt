use mathlib.Core.Path.{refl, sym, ap, ◌∙◌, subst}
use Rattle.std.specs.Prelude.{Result, Ok, Err}
use Rattle.ground.specs.declared.Refusal.{Refusal}
use Rattle.ground.proofs.Settled.{handed_on}
use Rattle.mode.specs.Says.{tick_says}
use Rattle.mode.specs.Tries.{Tries}
use Rattle.mode.specs.Acts.{tick_outcome}
use Rattle.mode.specs.Acts as act
use Rattle.mode.specs.declared.Due.{Due}
use Rattle.mode.specs.declared.Step.{Step}
use Rattle.mode.proofs.TriesSaid.{tick_tries}
use Rattle.calls.specs.Result.{answer_in}
use Rattle.calls.specs.declared.After.{After}
use Rattle.signals.proofs.Moves.{answer_beside, stops_at, goes_by}
use Rattle.signals.proofs.tick.Goals as goal

pub returns-in_err-open_line_verdict : goal.returns-in_err-open_line_verdict
returns-in_err-open_line_verdict c =
    let a = c.args in (
      stops_at tick_says (λ r. refl) a.book a.line (act.tick a.time) c.open_line_verdict.ensures c.from_residual.result c.from_residual.ensures.1 c.in_err-open_line_verdict.was,
      subst (λ (r : Result (After Due) Refusal). Tries (answer_in r)) (sym (handed_on c.from_residual.result c.from_residual.ensures.1)) tt,
    )

pub returns : goal.returns
returns c =
    let a = c.args in
    let e = ap answer_in c.stepped.ensures ∙ answer_beside _ c.tick.result.answer ∙ ap (λ (s : Step Due). s.answer) c.tick.ensures.value in (
      goes_by tick_says (λ r. refl) a.book a.line (act.tick a.time) c.open_line_verdict.ensures c.in_ok-open_line_verdict.was c.tick.result c.line.ensures
          (ap tick_outcome c.tick.ensures.value) c.stepped.ensures,
      subst Tries (sym e) (tick_tries c.line.result.modes a.time),
    )
