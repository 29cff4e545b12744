-- The arrays of a book have the lengths that its declaration gives them: so has every book that a program can hold.
-- Assumes nothing.
use Rattle.std.specs.Prelude.{ℕ, ◌≡◌, length}
use Rattle.line.specs.Shape.{Shaped}
use Rattle.book.specs.Book.{line_of}
use Rattle.book.specs.declared.Book.{Book}

pub record BookShaped (b : Book) : Type 0 where
  pub lines : length b.lines ≡ 4
  pub resting : length b.resting ≡ 16
  pub each : (i : ℕ) → Shaped (line_of b i)
