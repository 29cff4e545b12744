use Rattle.calls.proofs.Accepted.{accepted_does, put_back}
use Rattle.calls.proofs.Results.{refused_does}
use Rattle.calls.specs.Result.{effect}
use Rattle.calls.proofs.FirstTests.{asked_line}
use Rattle.calls.proofs.OrderStages.{empty_stages}
use Rattle.calls.specs.Order.{order, line_for}
use Rattle.calls.specs.Call as call
use Rattle.writing.specs.Write.{empty_packet, wrote_line}
use Rattle.line.specs.declared.Line.{Line}
use Rattle.ground.specs.Answer.{write_says}
use lib.ListN.{length, drop}
use mathlib.Core.List.{◌++◌}
use mathlib.Core.Path.{refl, sym, ap, ◌∙◌}
use Rattle.std.specs.Prelude.{Ok}
use Rattle.outgoing.proofs.empty.Goals as goal

pub line-requires : goal.line-requires
line-requires c = let a = c.args in (asked_line (empty_stages a.book a.line a.channel (length a.out.now)) c.may_write_empty.ensures c.in_ok-may_write_empty.was).0.number

pub write_empty-sent-requires : goal.write_empty-sent-requires
write_empty-sent-requires c = let a = c.args in let o = asked_line (empty_stages a.book a.line a.channel (length a.out.now)) c.may_write_empty.ensures c.in_ok-may_write_empty.was in rw c.line.ensures (o.0.line, o.1)

pub with_line-book-requires : goal.with_line-book-requires
with_line-book-requires c = let a = c.args in (asked_line (empty_stages a.book a.line a.channel (length a.out.now)) c.may_write_empty.ensures c.in_ok-may_write_empty.was).0.number

pub returns-in_err-may_write_empty : goal.returns-in_err-may_write_empty
unfolding order
returns-in_err-may_write_empty c = λ store. let a = c.args in refused_does write_says (λ r. refl) (call.empty a.line a.channel) a.book store a.out.now c.from_residual.result c.from_residual.ensures.1 (sym c.may_write_empty.ensures ∙ c.in_err-may_write_empty.was)

pub returns : goal.returns
unfolding order effect line_for
returns c =
    λ store. let a = c.args in
    let l = c.line.ensures in
    let w = c.write_empty-sent.ensures in
    let n = w.1 ∙ ap (λ (k : Line). length (empty_packet k a.channel)) l in
    accepted_does write_says (call.empty a.line a.channel) a.book store a.out.now (sym c.may_write_empty.ensures ∙ c.in_ok-may_write_empty.was) refl (λ t. write_says (Ok (n t)))
    (put_back a.book a.line wrote_line l w.0 c.with_line-book.ensures)
    refl
    (w.2 ∙ ap (λ (k : Line). empty_packet k a.channel ++ drop (length (empty_packet k a.channel)) a.out.now) l)
