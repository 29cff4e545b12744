use Rattle.line.specs.declared.Line.{Line}
use mathlib.Core.Path.{sym, ap, ◌∙◌}
use Prim.Native.Nat.{ℕ}
use mathlib.Core.List.{[], ◌∷◌}
use lib.Dec.{leb}
use borrow.Author.Tests.{le-leb, lt-leb}
use Rattle.ground.specs.Refusal.{Test, verdict, must}
use Rattle.ground.specs.declared.Refusal.TheVariants.{ROOM}
use Rattle.ground.proofs.Settled.{handed_on}
use Rattle.ground.proofs.Verdicts.{verdict_on, verdict_stop}
use Rattle.receiving.specs.Receiving.{hand_tests, next_size}
use Rattle.receiving.specs.declared.Receiving.{Receiving}
use Rattle.line.specs.Line.{receiving_of}
use Rattle.relay.specs.RelayTests.{relay_channel_tests}
use Rattle.relay.specs.HandOut.{hand_call_tests}
use Rattle.relay.proofs.Lines.{first_in}
use Rattle.relay.proofs.may_hand_out.Goals as goal

-- the last test of the list: the output holds message R
abbrev roomy : Line → ℕ → ℕ → Test
roomy l channel space = must (leb (next_size (receiving_of l channel)) space) ROOM

pub next_size-requires : goal.next_size-requires
next_size-requires c =
    rw c.receiving-side.ensures (first_in c.args.l c.requires c.args.channel (sym c.channel_verdict.ensures ∙ c.in_ok-channel_verdict.was))

pub returns-in_err-channel_verdict : goal.returns-in_err-channel_verdict
unfolding hand_call_tests
returns-in_err-channel_verdict c =
    let l = c.args.l in
    handed_on c.from_residual.result c.from_residual.ensures.1 ∙ sym (verdict_stop (relay_channel_tests l c.args.channel) _ (sym c.channel_verdict.ensures ∙ c.in_err-channel_verdict.was))

pub returns-in_err-may_hand_out : goal.returns-in_err-may_hand_out
unfolding hand_call_tests
returns-in_err-may_hand_out c =
    let a = c.args in
    let e = c.may_hand_out.ensures ∙ ap (λ (r : Receiving). verdict (hand_tests r)) c.receiving-side.ensures in
    handed_on c.from_residual-in_err-may_hand_out.result c.from_residual-in_err-may_hand_out.ensures.1 ∙ sym (verdict_on (relay_channel_tests a.l a.channel) _ (sym c.channel_verdict.ensures ∙ c.in_ok-channel_verdict.was) ∙ verdict_stop (hand_tests (receiving_of a.l a.channel)) (roomy a.l a.channel a.space ∷ []) (sym e ∙ c.in_err-may_hand_out.was))

pub returns : goal.returns
unfolding hand_call_tests
returns c =
    let a = c.args in
    let e = c.may_hand_out.ensures ∙ ap (λ (r : Receiving). verdict (hand_tests r)) c.receiving-side.ensures in
    let n = c.next_size.ensures ∙ ap (λ (r : Receiving). next_size r) c.receiving-side.ensures in
    sym (verdict_on (relay_channel_tests a.l a.channel) _ (sym c.channel_verdict.ensures ∙ c.in_ok-channel_verdict.was) ∙ verdict_on (hand_tests (receiving_of a.l a.channel)) (roomy a.l a.channel a.space ∷ []) (sym e ∙ c.in_ok-may_hand_out.was) ∙ simp (← n, le-leb _ _ c.if-space-next_size.false))

pub returns-then-space-next_size : goal.returns-then-space-next_size
unfolding hand_call_tests
returns-then-space-next_size c =
    let a = c.args in
    let e = c.may_hand_out.ensures ∙ ap (λ (r : Receiving). verdict (hand_tests r)) c.receiving-side.ensures in
    let n = c.next_size.ensures ∙ ap (λ (r : Receiving). next_size r) c.receiving-side.ensures in
    sym (verdict_on (relay_channel_tests a.l a.channel) _ (sym c.channel_verdict.ensures ∙ c.in_ok-channel_verdict.was) ∙ verdict_on (hand_tests (receiving_of a.l a.channel)) (roomy a.l a.channel a.space ∷ []) (sym e ∙ c.in_ok-may_hand_out.was) ∙ simp (← n, lt-leb _ _ c.if-space-next_size.true))
