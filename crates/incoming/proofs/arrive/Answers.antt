use Rattle.incoming.proofs.Passing.{arrive_refuses, arrive_passes, arrive_is, arrive_line, arrive_addressed, arrive_lent}
use Rattle.incoming.specs.declared.Arriving.{Arriving}
use Rattle.calls.proofs.Accepted.{accepted_does, put_back}
use Rattle.calls.proofs.Lent.{part_lent, part_returned, ends_inside, ends_small, long_enough}
use Rattle.calls.proofs.Results.{refused_does}
use Rattle.calls.specs.Result.{effect}
use Rattle.calls.specs.Order.{order, line_for}
use Rattle.calls.specs.Call as call
use Rattle.book.specs.Book.{line_of, with_line}
use Rattle.book.specs.Parts.{part_start}
use Rattle.book.proofs.Parts.{part_in_lem}
use Rattle.arriving.specs.Arrive.{arrived_line, arrived_part, arrived_store}
use Rattle.arriving.proofs.Arrivals.{arrive_relaying}
use Rattle.arriving.proofs.Keeps.{arrived_in_store}
use Rattle.line.specs.declared.Line.{Line}
use Rattle.incoming.specs.Says.{arrive_says}
use Rattle.ground.specs.Answer.{accepted}
use lib.ListN.{length}
use native.Mathlib.Omega.{arith}
use mathlib.Core.List.{[], ◌∷◌}
use mathlib.Core.Path.{refl, sym, ap, ◌∙◌}
use borrow.Author.Rules.{rules}
use Rattle.incoming.proofs.arrive.Goals as goal

pub line-l-requires : goal.line-l-requires
line-l-requires c = let a = c.args in omega (arith, (arrive_lent a.book (length a.store.now) a.packet.now c.may_arrive.ensures c.in_ok-a.was (search rules)).number)

pub part_start-start-requires : goal.part_start-start-requires
part_start-start-requires c = let a = c.args in omega (arith, (arrive_lent a.book (length a.store.now) a.packet.now c.may_arrive.ensures c.in_ok-a.was (search rules)).number)

pub overflow_add-end : goal.overflow_add-end
overflow_add-end c =
    let a = c.args in
    record { fits = omega (arith, ends_small a.book c.in_ok-a.a.line c.part_start-start.ensures c.line-l.ensures c.part_length.ensures a.store.now (arrive_lent a.book (length a.store.now) a.packet.now c.may_arrive.ensures c.in_ok-a.was (search rules))) }

pub slice_bounds-arrive-end : goal.slice_bounds-arrive-end
slice_bounds-arrive-end c = let a = c.args in ends_inside a.book c.in_ok-a.a.line c.part_start-start.ensures c.line-l.ensures c.part_length.ensures a.store.now (arrive_lent a.book (length a.store.now) a.packet.now c.may_arrive.ensures c.in_ok-a.was (search rules))

pub arrive-arrived-requires : goal.arrive-arrived-requires
arrive-arrived-requires c =
    let a = c.args in
    let k = arrive_lent a.book (length a.store.now) a.packet.now c.may_arrive.ensures c.in_ok-a.was (search rules) in
    let h = arrive_is a.book (length a.store.now) a.packet.now c.may_arrive.ensures c.in_ok-a.was in
    rw c.line-l.ensures
    (k.line, (arrive_addressed a.book (length a.store.now) a.packet.now c.may_arrive.ensures c.in_ok-a.was).opened, long_enough a.book c.in_ok-a.a.line c.part_start-start.ensures c.line-l.ensures c.part_length.ensures a.store.now k, k.own, ap (λ (x : Arriving). x.head) h, ap (λ (x : Arriving). x.acks) h)

pub with_line-book-requires : goal.with_line-book-requires
with_line-book-requires c = let a = c.args in (arrive_lent a.book (length a.store.now) a.packet.now c.may_arrive.ensures c.in_ok-a.was (search rules)).number

pub returns-in_err-a : goal.returns-in_err-a
unfolding order
returns-in_err-a c = λ out. let a = c.args in refused_does arrive_says (λ r. refl) (call.arrival a.packet.now) a.book a.store.now out c.from_residual.result c.from_residual.ensures.1 (arrive_refuses a.book (length a.store.now) a.packet.now c.may_arrive.ensures c.in_err-a.was)

pub returns : goal.returns
unfolding order effect line_for
returns c =
    let a = c.args in
    let k = arrive_lent a.book (length a.store.now) a.packet.now c.may_arrive.ensures c.in_ok-a.was (search rules) in
    λ out.
    let s = a.packet.now in
    let store = a.store.now in
    let j = c.in_ok-a.a.line in
    let i = sym (arrive_line a.book (length a.store.now) a.packet.now c.may_arrive.ensures c.in_ok-a.was) in
    let l = c.line-l.ensures in
    let w = c.arrive-arrived.ensures in
    let d = arrive_addressed a.book (length a.store.now) a.packet.now c.may_arrive.ensures c.in_ok-a.was in
    let part = w.1 ∙ (λ t. arrived_part (l t) s (part_lent a.book j c.part_start-start.ensures l c.part_length.ensures store t)) in
    accepted_does arrive_says (call.arrival s) a.book store out (arrive_passes a.book (length a.store.now) a.packet.now c.may_arrive.ensures c.in_ok-a.was) refl
    (λ t. accepted (i t ∷ []))
    (put_back a.book j (λ (x : Line). arrived_line x s) l w.0 c.with_line-book.ensures ∙ (λ t. with_line a.book (i t) (arrived_line (line_of a.book (i t)) s)))
    (part_returned a.book j c.part_start-start.ensures l c.part_length.ensures store part
    ∙ arrived_in_store (line_of a.book j) (arrive_relaying (line_of a.book j) s d.line d.fits d.opened) (part_start a.book j) store (part_in_lem a.book store k.room j k.number) s d.line
    ∙ (λ t. arrived_store (line_of a.book (i t)) (part_start a.book (i t)) s store))
    refl
