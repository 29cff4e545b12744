use Prim.Native.Nat.{ℕ}
use Rattle.std.specs.Prelude.{Result}
use Rattle.ground.specs.declared.Refusal.{Refusal}
use Rattle.ground.proofs.Settled.{handed_on}
use Rattle.outgoing.specs.Says.{held_says}
use Rattle.calls.proofs.Results.{did_refused, result_accepted, same_line}
use Rattle.calls.specs.Result.{result_with, accepted_result, effect}
use Rattle.calls.proofs.FirstTests.{asked_line}
use Rattle.calls.proofs.OrderStages.{report_stages}
use Rattle.calls.specs.Order.{order, line_for}
use Rattle.calls.specs.Call as call
use Rattle.line.specs.declared.Line.{Line}
use Rattle.line.specs.Line.{sending_of}
use Rattle.sending.specs.Sending.{held_count}
use Rattle.ground.specs.Answer.{accepted}
use mathlib.Core.List.{[], ◌∷◌}
use mathlib.Core.Path.{sym, ap, ◌∙◌}
use Rattle.outgoing.proofs.held.Goals as goal

pub line-requires : goal.line-requires
line-requires c = let a = c.args in (asked_line (report_stages a.book a.line a.channel) c.may_report.ensures c.in_ok-may_report.was).0.number

pub returns-in_err-may_report : goal.returns-in_err-may_report
unfolding order accepted_result effect line_for
returns-in_err-may_report c = λ store out. let a = c.args in ap (λ (r : Result ℕ Refusal). result_with (held_says r) a.book store out) (handed_on c.from_residual.result c.from_residual.ensures.1) ∙ sym (did_refused (call.report a.line a.channel) a.book store out (sym c.may_report.ensures ∙ c.in_err-may_report.was))

pub returns : goal.returns
unfolding order accepted_result effect line_for
returns c =
    λ store out. let a = c.args in
    let n = c.held.ensures ∙ ap (λ (l : Line). held_count (sending_of l a.channel)) c.line.ensures in
    (λ t. result_with (accepted (n t ∷ [])) (sym (same_line a.book a.line) t) store out) ∙ sym (result_accepted (call.report a.line a.channel) a.book store out (sym c.may_report.ensures ∙ c.in_ok-may_report.was))
