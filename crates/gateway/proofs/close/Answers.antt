use Rattle.std.specs.Prelude.{Ok, is_ok}
use Rattle.ground.proofs.Settled.{same_value}
use Rattle.gateway.proofs.Slips.{slip_passes}
use Rattle.calls.proofs.Results.{refused_does, result_accepted}
use Rattle.calls.specs.Result.{result_with, accepted_result, effect, slip_of}
use Rattle.calls.proofs.FirstTests.{asked_line}
use Rattle.calls.proofs.OrderStages.{close_stages}
use Rattle.calls.specs.Order.{order, line_for}
use Rattle.calls.specs.Call as call
use Rattle.book.specs.Book.{line_of}
use Rattle.writing.proofs.Packets.{written_out}
use Rattle.line.specs.declared.Line.{Line}
use Rattle.ground.specs.Answer.{write_says}
use lib.ListN.{length}
use mathlib.Core.Path.{refl, sym, ap, ◌∙◌}
use Rattle.gateway.proofs.close.Goals as goal

pub line-requires : goal.line-requires
line-requires c = let a = c.args in (asked_line (close_stages a.book a.line (length a.out.now)) c.may_close.ensures c.in_ok-may_close.was).0.number

pub closed_at-book-requires : goal.closed_at-book-requires
closed_at-book-requires c = let a = c.args in let o = (asked_line (close_stages a.book a.line (length a.out.now)) c.may_close.ensures c.in_ok-may_close.was).0 in (o.number, o.few)

pub returns-in_err-may_close : goal.returns-in_err-may_close
unfolding order accepted_result effect line_for
returns-in_err-may_close c = λ store. let a = c.args in refused_does write_says (λ r. refl) (call.closing a.line) a.book store a.out.now c.from_residual.result c.from_residual.ensures.1 (sym c.may_close.ensures ∙ c.in_err-may_close.was)

pub unwrap-answer-requires : goal.unwrap-answer-requires
unwrap-answer-requires c =
    let a = c.args in
    let v = sym c.may_close.ensures ∙ c.in_ok-may_close.was in
    let o = asked_line (close_stages a.book a.line (length a.out.now)) refl v in
    let s = c.slip_of.ensures ∙ ap (λ (l : Line). slip_of l) c.line.ensures in
    let p = written_out (rw s at c.write.ensures) (slip_passes (line_of a.book a.line) (length a.out.now) o.0.line o.1) in
    ap is_ok p.0

pub returns : goal.returns
unfolding order accepted_result effect line_for
returns c =
    λ store. let a = c.args in
    let v = sym c.may_close.ensures ∙ c.in_ok-may_close.was in
    let o = asked_line (close_stages a.book a.line (length a.out.now)) refl v in
    let s = c.slip_of.ensures ∙ ap (λ (l : Line). slip_of l) c.line.ensures in
    let p = written_out (rw s at c.write.ensures) (slip_passes (line_of a.book a.line) (length a.out.now) o.0.line o.1) in
    (λ t. result_with (write_says (Ok (same_value c.unwrap-answer.ensures p.0 t))) (c.closed_at-book.ensures t) store (p.1 t)) ∙ sym (result_accepted (call.closing a.line) a.book store a.out.now v)
