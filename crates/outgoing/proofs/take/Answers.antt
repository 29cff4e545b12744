use Rattle.calls.proofs.Accepted.{accepted_does, put_back}
use Rattle.calls.proofs.Lent.{lent, part_lent, part_returned, ends_inside, ends_small, long_enough}
use Rattle.calls.proofs.OrderStages.{take_stages}
use Rattle.calls.proofs.Results.{refused_does}
use Rattle.calls.specs.Result.{effect}
use Rattle.calls.specs.Order.{order, line_for}
use Rattle.calls.specs.Call as call
use Rattle.book.specs.Book.{line_of}
use Rattle.book.specs.Parts.{part_start}
use Rattle.book.proofs.Parts.{part_in_lem}
use Rattle.relay.proofs.Keeps.{took_in_store}
use Rattle.relay.specs.Take.{took_line, took_part}
use Rattle.line.specs.declared.Line.{Line}
use Rattle.line.specs.Line.{sending_of}
use Rattle.sending.specs.declared.Sending.{Sending}
use Rattle.channel.specs.Channel.{modulus}
use Rattle.ground.specs.Answer.{accepted}
use lib.ListN.{length}
use lib.Bits.{and_mask}
use native.Mathlib.Omega.{arith}
use Prim.Native.Nat.{◌%◌}
use mathlib.Core.List.{[], ◌∷◌}
use mathlib.Core.Path.{refl, sym, ap, ◌∙◌}
use Rattle.outgoing.specs.Says.{take_says}
use Rattle.outgoing.proofs.take.Goals as goal

pub line-l-requires : goal.line-l-requires
line-l-requires c = (lent (take_stages _ _ _ _ _) c.may_take.ensures c.in_ok-may_take.was).number

pub part_start-start-requires : goal.part_start-start-requires
part_start-start-requires c = omega (arith, (lent (take_stages _ _ _ _ _) c.may_take.ensures c.in_ok-may_take.was).number)

pub overflow_add-end : goal.overflow_add-end
overflow_add-end c =
    let a = c.args in
    record { fits = omega (arith, ends_small a.book a.line c.part_start-start.ensures c.line-l.ensures c.part_length.ensures a.store.now (lent (take_stages _ _ _ _ _) c.may_take.ensures c.in_ok-may_take.was)) }

pub slice_bounds-take-end : goal.slice_bounds-take-end
slice_bounds-take-end c = let a = c.args in ends_inside a.book a.line c.part_start-start.ensures c.line-l.ensures c.part_length.ensures a.store.now (lent (take_stages _ _ _ _ _) c.may_take.ensures c.in_ok-may_take.was)

pub take-taken-requires : goal.take-taken-requires
take-taken-requires c =
    let a = c.args in
    let k = lent (take_stages _ _ _ _ _) c.may_take.ensures c.in_ok-may_take.was in
    rw c.line-l.ensures (k.line, long_enough a.book a.line c.part_start-start.ensures c.line-l.ensures c.part_length.ensures a.store.now k, k.own)

pub with_line-book-requires : goal.with_line-book-requires
with_line-book-requires c = (lent (take_stages _ _ _ _ _) c.may_take.ensures c.in_ok-may_take.was).number

pub returns-in_err-may_take : goal.returns-in_err-may_take
unfolding order
returns-in_err-may_take c = λ out. let a = c.args in refused_does take_says (λ r. refl) (call.taking a.line a.channel a.message.now) a.book a.store.now out c.from_residual.result c.from_residual.ensures.1 (sym c.may_take.ensures ∙ c.in_err-may_take.was)

pub returns : goal.returns
unfolding order effect line_for
returns c =
    λ out. let a = c.args in
    let l = c.line-l.ensures in
    let store = a.store.now in
    let k = lent (take_stages a.book (length a.store.now) a.line a.channel (length a.message.now)) c.may_take.ensures c.in_ok-may_take.was in
    let s = c.sending.ensures ∙ ap (λ (x : Line). sending_of x a.channel) l in
    let m = and_mask c.sending.result.taken 14 ∙ ap (λ (x : Sending). x.taken % modulus) s in
    let part = c.take-taken.ensures.1 ∙ (λ t. took_part (l t) a.channel a.message.now (part_lent a.book a.line c.part_start-start.ensures l c.part_length.ensures store t)) in
    accepted_does take_says (call.taking a.line a.channel a.message.now) a.book store out (sym c.may_take.ensures ∙ c.in_ok-may_take.was) refl (λ t. accepted (m t ∷ []))
    (put_back a.book a.line (λ (x : Line). took_line x a.channel (length a.message.now)) l c.take-taken.ensures.0 c.with_line-book.ensures)
    (part_returned a.book a.line c.part_start-start.ensures l c.part_length.ensures store part ∙ took_in_store (line_of a.book a.line) a.channel a.message.now store (part_start a.book a.line) k.line k.own (part_in_lem a.book store k.room a.line k.number))
    refl
