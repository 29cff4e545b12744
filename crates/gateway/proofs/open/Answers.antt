use Rattle.calls.proofs.Results.{refused_does, result_accepted}
use Rattle.calls.specs.Result.{result_with, accepted_result, effect}
use Rattle.calls.proofs.FirstTests.{asked_line}
use Rattle.calls.proofs.OrderStages.{open_stages}
use Rattle.calls.specs.Order.{order, line_for}
use Rattle.calls.specs.Call as call
use Rattle.book.specs.declared.Book.{Book}
use Rattle.book.specs.Book.{with_line}
use Rattle.line.specs.declared.Line.{Line}
use Rattle.gateway.specs.Says.{open_says}
use Rattle.ground.specs.Answer.{accepted}
use mathlib.Core.List.{[]}
use mathlib.Core.Path.{refl, sym, ap, ◌∙◌}
use Rattle.gateway.proofs.open.Goals as goal

pub with_line-book-requires : goal.with_line-book-requires
with_line-book-requires c = let a = c.args in (asked_line (open_stages a.book a.line a.settings) c.may_open.ensures c.in_ok-may_open.was).0.number

pub returns-in_err-may_open : goal.returns-in_err-may_open
unfolding order accepted_result effect line_for
returns-in_err-may_open c = λ store out. let a = c.args in refused_does open_says (λ r. refl) (call.opening a.line a.settings a.time) a.book store out c.from_residual.result c.from_residual.ensures.1 (sym c.may_open.ensures ∙ c.in_err-may_open.was)

pub returns : goal.returns
unfolding order accepted_result effect line_for
returns c =
    λ store out. let a = c.args in
    let b = c.with_line-book.ensures ∙ ap (λ (l : Line). with_line a.book a.line l) c.opened_with-opened.ensures in
    ap (λ (k : Book). result_with (accepted []) k store out) b ∙ sym (result_accepted (call.opening a.line a.settings a.time) a.book store out (sym c.may_open.ensures ∙ c.in_ok-may_open.was))
