use Rattle.outgoing.proofs.Passing.{send_refuses, send_passes, send_is, send_lent, sendable}
use Rattle.calls.proofs.Accepted.{accepted_does, put_back}
use Rattle.calls.proofs.Lent.{part_lent, ends_inside, ends_small, long_enough}
use Rattle.calls.proofs.Results.{refused_does}
use Rattle.calls.specs.Result.{effect}
use Rattle.calls.specs.Order.{order, line_for}
use Rattle.calls.specs.Call as call
use Rattle.writing.specs.Send.{held_packet}
use Rattle.writing.specs.Write.{wrote_line}
use Rattle.ground.specs.Answer.{write_says}
use native.Mathlib.Omega.{arith}
use lib.ListN.{length, drop}
use mathlib.Core.List.{◌++◌}
use mathlib.Core.Path.{refl, ◌∙◌}
use Rattle.std.specs.Prelude.{Ok}
use Rattle.outgoing.proofs.send.Goals as goal

pub line-l-requires : goal.line-l-requires
line-l-requires c = (send_lent _ _ _ _ _ _ c.may_send.ensures c.in_ok-h.was).number

pub part_start-at-requires : goal.part_start-at-requires
part_start-at-requires c = omega (arith, (send_lent _ _ _ _ _ _ c.may_send.ensures c.in_ok-h.was).number)

pub overflow_add-end : goal.overflow_add-end
overflow_add-end c =
    let a = c.args in
    record { fits = omega (arith, ends_small a.book a.line c.part_start-at.ensures c.line-l.ensures c.part_length.ensures a.store.now (send_lent _ _ _ _ _ _ c.may_send.ensures c.in_ok-h.was)) }

pub slice_bounds-send-end : goal.slice_bounds-send-end
slice_bounds-send-end c = let a = c.args in ends_inside a.book a.line c.part_start-at.ensures c.line-l.ensures c.part_length.ensures a.store.now (send_lent _ _ _ _ _ _ c.may_send.ensures c.in_ok-h.was)

pub send-sent-requires : goal.send-sent-requires
send-sent-requires c =
    let a = c.args in
    let k = send_lent _ _ _ _ _ _ c.may_send.ensures c.in_ok-h.was in
    rw c.line-l.ensures (k.line, long_enough a.book a.line c.part_start-at.ensures c.line-l.ensures c.part_length.ensures a.store.now k, sendable _ _ _ _ _ _ c.may_send.ensures c.in_ok-h.was)

pub with_line-book-requires : goal.with_line-book-requires
with_line-book-requires c = (send_lent _ _ _ _ _ _ c.may_send.ensures c.in_ok-h.was).number

pub returns-in_err-h : goal.returns-in_err-h
unfolding order
returns-in_err-h c = let a = c.args in refused_does write_says (λ r. refl) (call.sending a.line a.channel a.rank) a.book a.store.now a.out.now c.from_residual.result c.from_residual.ensures.1 (send_refuses a.book (length a.store.now) a.line a.channel a.rank (length a.out.now) c.may_send.ensures c.in_err-h.was)

pub returns : goal.returns
unfolding order effect line_for
returns c =
    let a = c.args in
    let l = c.line-l.ensures in
    let h = send_is a.book (length a.store.now) a.line a.channel a.rank (length a.out.now) c.may_send.ensures c.in_ok-h.was in
    let w = c.send-sent.ensures in
    let part = part_lent a.book a.line c.part_start-at.ensures l c.part_length.ensures a.store.now in
    let n = w.1 ∙ (λ t. length (held_packet (l t) a.channel (h t) (part t))) in
    accepted_does write_says (call.sending a.line a.channel a.rank) a.book a.store.now a.out.now (send_passes a.book (length a.store.now) a.line a.channel a.rank (length a.out.now) c.may_send.ensures c.in_ok-h.was) refl
    (λ t. write_says (Ok (n t)))
    (put_back a.book a.line wrote_line l w.0 c.with_line-book.ensures)
    refl
    (w.2 ∙ (λ t. held_packet (l t) a.channel (h t) (part t) ++ drop (length (held_packet (l t) a.channel (h t) (part t))) a.out.now))
