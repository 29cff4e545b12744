use Rattle.writing.specs.Write.{header_length_for, empty_tests}
use Rattle.line.specs.declared.Line.{Line}
use Rattle.relay.specs.RelayTests.{relay_line_tests}
use Rattle.ground.proofs.Settled.{handed_on}
use Rattle.ground.proofs.Verdicts.{verdict_on, verdict_stop}
use Rattle.ground.specs.declared.Refusal.TheVariants.{CHANNEL, ROOM}
use Rattle.ground.specs.Refusal.{Test, must}
use borrow.Author.Tests.{le-leb, lt-leb}
use lib.Dec.{leb}
use Prim.Native.Nat.{ℕ}
use mathlib.Core.List.{List, [], ◌∷◌}
use mathlib.Core.Path.{sym, ◌∙◌}
use Rattle.writing.proofs.may_write_empty.Goals as goal

abbrev rest : Line → ℕ → ℕ → List Test
rest l channel space = must (leb channel 2) CHANNEL ∷ must (leb (header_length_for l) space) ROOM ∷ []

pub returns-then-channel-gt2 : goal.returns-then-channel-gt2
unfolding empty_tests
returns-then-channel-gt2 c = sym (verdict_on (relay_line_tests c.args.l) (rest c.args.l c.args.channel c.args.space) (sym c.relay_verdict.ensures ∙ c.in_ok-relay_verdict.was) ∙ simp (lt-leb _ _ c.if-channel-gt2.true))

pub returns-in_err-relay_verdict : goal.returns-in_err-relay_verdict
unfolding empty_tests
returns-in_err-relay_verdict c = handed_on c.from_residual.result c.from_residual.ensures.1 ∙ sym (verdict_stop (relay_line_tests c.args.l) (rest c.args.l c.args.channel c.args.space) (sym c.relay_verdict.ensures ∙ c.in_err-relay_verdict.was))

pub returns : goal.returns
unfolding empty_tests
returns c = sym (verdict_on (relay_line_tests c.args.l) (rest c.args.l c.args.channel c.args.space) (sym c.relay_verdict.ensures ∙ c.in_ok-relay_verdict.was) ∙ simp (le-leb _ _ c.if-channel-gt2.false, ← c.header_length.ensures, le-leb _ _ c.if-space-header_length.false))

pub returns-then-space-header_length : goal.returns-then-space-header_length
unfolding empty_tests
returns-then-space-header_length c = sym (verdict_on (relay_line_tests c.args.l) (rest c.args.l c.args.channel c.args.space) (sym c.relay_verdict.ensures ∙ c.in_ok-relay_verdict.was) ∙ simp (le-leb _ _ c.if-channel-gt2.false, ← c.header_length.ensures, lt-leb _ _ c.if-space-header_length.true))
