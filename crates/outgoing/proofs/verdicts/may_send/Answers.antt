use Rattle.ground.proofs.Settled.{handed_on}
use Rattle.calls.proofs.FirstTests.{on_both}
use Rattle.book.specs.Book.{line_of}
use Rattle.writing.specs.Send.{send_verdict, ranked, held_in}
use Rattle.line.specs.declared.Line.{Line}
use Rattle.calls.proofs.OrderStages.{send_stages}
use Rattle.calls.proofs.FirstStops.{both_stop, both_go_on}
use Rattle.ground.specs.Refusal.{Verdict, settle}
use mathlib.Core.Path.{refl, sym, ap, ◌∙◌}
use Rattle.std.specs.Prelude.{Result, Ok, Err}
use Rattle.outgoing.proofs.verdicts.may_send.Goals as goal
use Rattle.ground.specs.declared.Refusal.{Refusal}
use Rattle.sending.specs.declared.Held.{Held}

pub may_send-requires : goal.may_send-requires
may_send-requires c = rw c.line.ensures (on_both c.args.book c.args.store c.args.line (sym c.store_line_verdict.ensures ∙ c.in_ok-store_line_verdict.was)).0.line

pub returns-in_err-store_line_verdict : goal.returns-in_err-store_line_verdict
returns-in_err-store_line_verdict c =
    let a = c.args in
    handed_on c.from_residual.result c.from_residual.ensures.1 ∙ ap (λ (v : Verdict). settle {A = Result Held Refusal} v Err (Ok (held_in (ranked (line_of a.book a.line) a.channel a.rank))))
    (both_stop a.book a.store a.line (send_stages a.book a.store a.line a.channel a.rank a.space) c.store_line_verdict.ensures c.in_err-store_line_verdict.was)

pub returns : goal.returns
unfolding send_verdict
returns c =
    let a = c.args in
    c.may_send.ensures
    ∙ ap (λ (l : Line). send_verdict l a.channel a.rank a.space) c.line.ensures
    ∙ ap (λ (v : Verdict). settle {A = Result Held Refusal} v Err (Ok (held_in (ranked (line_of a.book a.line) a.channel a.rank))))
    (both_go_on a.book a.store a.line (send_stages a.book a.store a.line a.channel a.rank a.space) c.store_line_verdict.ensures c.in_ok-store_line_verdict.was refl)
