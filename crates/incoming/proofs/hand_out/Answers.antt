use Rattle.incoming.proofs.Passing.{handed_length}
use Rattle.calls.proofs.Accepted.{accepted_does, put_back}
use Rattle.calls.proofs.Lent.{lent, part_lent, ends_inside, ends_small, long_enough}
use Rattle.calls.proofs.OrderStages.{hand_stages}
use Rattle.calls.proofs.Results.{refused_does}
use Rattle.calls.specs.Result.{effect}
use Rattle.calls.specs.Order.{order, line_for}
use Rattle.calls.specs.Call as call
use Rattle.book.specs.Book.{line_of}
use Rattle.book.specs.Parts.{part_of}
use Rattle.book.proofs.Parts.{part_long}
use Rattle.relay.proofs.Lines.{hand_first}
use Rattle.relay.specs.HandOut.{handed_line, handed_octets}
use Rattle.line.specs.declared.Line.{Line}
use Rattle.line.specs.Line.{receiving_of}
use Rattle.receiving.specs.declared.Receiving.{Receiving}
use Rattle.receiving.specs.Receiving.{next_size}
use Rattle.ground.specs.Answer.{accepted, write_says}
use lib.ListN.{length, drop}
use native.Mathlib.Omega.{arith}
use Prim.Native.Nat.{ℕ}
use mathlib.Core.List.{[], ◌∷◌, ◌++◌}
use mathlib.Core.Path.{refl, sym, ap, ◌∙◌}
use Rattle.incoming.proofs.hand_out.Goals as goal

pub line-l-requires : goal.line-l-requires
line-l-requires c = (lent (hand_stages _ _ _ _ _) c.may_hand_out.ensures c.in_ok-may_hand_out.was).number

pub next_size-answer-requires : goal.next_size-answer-requires
next_size-answer-requires c =
    let a = c.args in
    let k = lent (hand_stages _ _ _ _ _) c.may_hand_out.ensures c.in_ok-may_hand_out.was in
    rw (c.receiving.ensures, c.line-l.ensures) (hand_first (line_of a.book a.line) k.line a.channel (length a.out.now) k.own)

pub part_start-start-requires : goal.part_start-start-requires
part_start-start-requires c = omega (arith, (lent (hand_stages _ _ _ _ _) c.may_hand_out.ensures c.in_ok-may_hand_out.was).number)

pub overflow_add-end : goal.overflow_add-end
overflow_add-end c =
    let a = c.args in
    record { fits = omega (arith, ends_small a.book a.line c.part_start-start.ensures c.line-l.ensures c.part_length.ensures a.store.now (lent (hand_stages _ _ _ _ _) c.may_hand_out.ensures c.in_ok-may_hand_out.was)) }

pub slice_bounds-hand_out-end : goal.slice_bounds-hand_out-end
slice_bounds-hand_out-end c = let a = c.args in ends_inside a.book a.line c.part_start-start.ensures c.line-l.ensures c.part_length.ensures a.store.now (lent (hand_stages _ _ _ _ _) c.may_hand_out.ensures c.in_ok-may_hand_out.was)

pub hand_out-handed-requires : goal.hand_out-handed-requires
hand_out-handed-requires c =
    let a = c.args in
    let k = lent (hand_stages _ _ _ _ _) c.may_hand_out.ensures c.in_ok-may_hand_out.was in
    rw c.line-l.ensures (k.line, long_enough a.book a.line c.part_start-start.ensures c.line-l.ensures c.part_length.ensures a.store.now k, k.own)

pub with_line-book-requires : goal.with_line-book-requires
with_line-book-requires c = (lent (hand_stages _ _ _ _ _) c.may_hand_out.ensures c.in_ok-may_hand_out.was).number

pub returns-in_err-may_hand_out : goal.returns-in_err-may_hand_out
unfolding order
returns-in_err-may_hand_out c = let a = c.args in refused_does write_says (λ r. refl) (call.hand_out a.line a.channel) a.book a.store.now a.out.now c.from_residual.result c.from_residual.ensures.1 (sym c.may_hand_out.ensures ∙ c.in_err-may_hand_out.was)

pub returns : goal.returns
unfolding order effect line_for
returns c =
    let a = c.args in
    let k = lent (hand_stages a.book (length a.store.now) a.line a.channel (length a.out.now)) c.may_hand_out.ensures c.in_ok-may_hand_out.was in
    let l = c.line-l.ensures in
    let m = line_of a.book a.line in
    let store = a.store.now in
    let own = part_of a.book a.line store in
    let part = part_lent a.book a.line c.part_start-start.ensures l c.part_length.ensures store in
    let h = c.hand_out-handed.ensures in
    let long = sym (handed_length m a.channel (length a.out.now) own k.line (omega (arith, part_long a.book store k.room a.line k.number)) k.own) in
    let n = c.next_size-answer.ensures ∙ ap (λ (r : Receiving). next_size r) (c.receiving.ensures ∙ ap (λ (x : Line). receiving_of x a.channel) l) ∙ long in
    accepted_does write_says (call.hand_out a.line a.channel) a.book store a.out.now (sym c.may_hand_out.ensures ∙ c.in_ok-may_hand_out.was) refl (λ t. accepted (n t ∷ []))
    (put_back a.book a.line (λ (x : Line). handed_line x a.channel) l h.0 c.with_line-book.ensures)
    refl
    (h.1 ∙ (λ t. handed_octets (l t) a.channel (part t) ++ drop (next_size (receiving_of (l t) a.channel)) a.out.now) ∙ ap (λ (z : ℕ). handed_octets m a.channel own ++ drop z a.out.now) long)
