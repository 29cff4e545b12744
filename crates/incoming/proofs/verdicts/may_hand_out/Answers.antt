use Rattle.ground.proofs.Settled.{handed_on}
use Rattle.calls.proofs.FirstTests.{on_both}
use Rattle.relay.specs.HandOut.{hand_call_tests}
use Rattle.line.specs.declared.Line.{Line}
use Rattle.calls.proofs.OrderStages.{hand_stages}
use Rattle.calls.proofs.FirstStops.{both_stop, both_go_on}
use Rattle.ground.specs.Refusal.{verdict}
use mathlib.Core.Path.{sym, ap, ◌∙◌}
use Rattle.incoming.proofs.verdicts.may_hand_out.Goals as goal

pub may_hand_out-requires : goal.may_hand_out-requires
may_hand_out-requires c = rw c.line.ensures (on_both c.args.book c.args.store c.args.line (sym c.store_line_verdict.ensures ∙ c.in_ok-store_line_verdict.was)).0.line

pub returns-in_err-store_line_verdict : goal.returns-in_err-store_line_verdict
returns-in_err-store_line_verdict c = let a = c.args in handed_on c.from_residual.result c.from_residual.ensures.1 ∙ both_stop a.book a.store a.line (hand_stages a.book a.store a.line a.channel a.space) c.store_line_verdict.ensures c.in_err-store_line_verdict.was

pub returns : goal.returns
returns c =
    let a = c.args in
    both_go_on a.book a.store a.line (hand_stages a.book a.store a.line a.channel a.space) c.store_line_verdict.ensures c.in_ok-store_line_verdict.was
    (c.may_hand_out.ensures ∙ ap (λ (l : Line). verdict (hand_call_tests l a.channel a.space)) c.line.ensures)
