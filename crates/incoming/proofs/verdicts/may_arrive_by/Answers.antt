use mathlib.Core.Path.{◌≡◌, ap, ◌∙◌}
use native.Mathlib.Omega.{arith}
use lib.ListN.{length}
use Rattle.std.specs.Prelude.{Err}
use Rattle.ground.specs.Refusal.{verdict}
use Rattle.ground.specs.declared.Refusal.TheVariants.{NOLINE}
use Rattle.ground.proofs.Settled.{handed_on, was_found, was_missing}
use Rattle.line.specs.declared.Line.{Line}
use Rattle.arriving.specs.Arrive.{arrive_tests}
use Rattle.incoming.proofs.Arrivals.{arrives_at, head_passes, head_refuses, owner_is, arrival_refused, arrival_nobody, arrival_at_lem, arrival_in}
use borrow.Author.Rules.{rules}
use Rattle.incoming.proofs.verdicts.may_arrive_by.Goals as goal

pub line-requires : goal.line-requires
line-requires c =
    let a = c.args in
    let k : length a.book.lines ≡ 4 = search rules in
    omega (arith, k, arrival_in a.book a.s.now (owner_is a.s.now c.read_head.ensures.is a.book c.in_ok-head.was c.owner_of.ensures ∙ was_found c.owner_of.result NOLINE c.ok_or.ensures.value c.in_ok-line.was))

pub returns-in_err-head : goal.returns-in_err-head
returns-in_err-head c = let a = c.args in handed_on c.from_residual.result c.from_residual.ensures.1 ∙ arrival_refused a.book a.s.now (head_refuses a.s.now c.read_head.ensures.is c.in_err-head.was)

pub returns : goal.returns
returns c =
    let a = c.args in
    c.may_arrive_at.ensures
    ∙ ap (λ (l : Line). arrives_at c.in_ok-line.line a.s.now (verdict (arrive_tests l a.s.now))) c.line.ensures
    ∙ arrival_at_lem a.book a.s.now (head_passes a.s.now c.read_head.ensures.is c.in_ok-head.was)
    (owner_is a.s.now c.read_head.ensures.is a.book c.in_ok-head.was c.owner_of.ensures ∙ was_found c.owner_of.result NOLINE c.ok_or.ensures.value c.in_ok-line.was)

pub returns-in_err-line : goal.returns-in_err-line
returns-in_err-line c =
    let a = c.args in
    let missing = was_missing c.owner_of.result NOLINE c.ok_or.ensures.value c.in_err-line.was in
    handed_on c.from_residual-in_err-line.result c.from_residual-in_err-line.ensures.1 ∙ ap Err missing.1
    ∙ arrival_nobody a.book a.s.now (head_passes a.s.now c.read_head.ensures.is c.in_ok-head.was)
    (owner_is a.s.now c.read_head.ensures.is a.book c.in_ok-head.was c.owner_of.ensures ∙ missing.0)
