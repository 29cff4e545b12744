use Rattle.ground.proofs.Settled.{handed_on}
use Rattle.slip.specs.Slip.{slip_length}
use Rattle.calls.specs.Order.{close_order}
use Rattle.calls.specs.Stages.{fit_book, line_number, must_be_open}
use Rattle.book.specs.Book.{line_of}
use Rattle.calls.proofs.Stops.{stops, goes_on}
use Rattle.ground.specs.declared.Refusal.TheVariants.{ROOM}
use Rattle.ground.specs.Refusal.{must}
use lib.Dec.{leb}
use mathlib.Core.List.{[], ◌∷◌}
use mathlib.Core.Path.{refl, ◌∙◌}
use borrow.Author.Tests.{le-leb, lt-leb}
use Rattle.calls.proofs.may_close.Goals as goal

pub returns-in_err-open_line_verdict : goal.returns-in_err-open_line_verdict
unfolding close_order
returns-in_err-open_line_verdict c = let a = c.args in handed_on c.from_residual.result c.from_residual.ensures.1 ∙ stops (fit_book a.book ∷ line_number a.line ∷ must_be_open (line_of a.book a.line) ∷ []) (must (leb slip_length a.space) ROOM ∷ []) refl c.open_line_verdict.ensures c.in_err-open_line_verdict.was

pub returns : goal.returns
unfolding close_order
returns c = let a = c.args in goes_on (fit_book a.book ∷ line_number a.line ∷ must_be_open (line_of a.book a.line) ∷ []) (must (leb slip_length a.space) ROOM ∷ []) refl c.open_line_verdict.ensures c.in_ok-open_line_verdict.was (simp (le-leb _ _ c.if-space-lt-LENGTH.false))

pub returns-then-space-lt-LENGTH : goal.returns-then-space-lt-LENGTH
unfolding close_order
returns-then-space-lt-LENGTH c = let a = c.args in goes_on (fit_book a.book ∷ line_number a.line ∷ must_be_open (line_of a.book a.line) ∷ []) (must (leb slip_length a.space) ROOM ∷ []) refl c.open_line_verdict.ensures c.in_ok-open_line_verdict.was (simp (lt-leb _ _ c.if-space-lt-LENGTH.true))
