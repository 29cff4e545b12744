-- The fresh book passes BOOK's test.
-- Assumes nothing.
use mathlib.Core.Path.{◌≡◌, refl}
use mathlib.Core.Bool.{true}
use Rattle.owed.specs.Owed.{no_twice}
use Rattle.line.specs.Line.{closed_line}
use Rattle.line.specs.Fit.{line_fits}
use Rattle.line.proofs.Shape.{closed_shaped}
use Rattle.book.specs.Book.{fresh_book, open_in, lines_fit, book_fits}
use Rattle.book.specs.Shape.{BookShaped}
use Rattle.book.specs.Resting.{all_span}
use Rattle.book.proofs.RestingTurns.{get_or_alike}

pub fresh_fits : book_fits fresh_book ≡ true
unfolding book_fits lines_fit line_fits open_in all_span no_twice
fresh_fits = refl

pub fresh_shaped : BookShaped fresh_book
fresh_shaped = record { lines = refl; resting = refl; each = λ i. rw (get_or_alike 4 i closed_line) closed_shaped }
