-- An identifier goes to rest when its line is closed (RULES 7.6).
-- Assumes nothing.
use Rattle.std.specs.Prelude.{ℕ, length, set}
use Rattle.book.specs.Resting.{rests, rested_in}
use Rattle.line.specs.Line.{closed_line}
use Rattle.book.specs.declared.Book.{Book}
use Rattle.book.specs.Book.{resting_of, line_of}

-- "A closed line's record is as in a fresh book" (RULES 7.5), and its identifier rests (RULES 7.6)
unfoldable pub closed_at : Book → ℕ → Book
closed_at b i =
    let l = rests (resting_of b) (line_of b i).identifier in
    record { lines = set b.lines i closed_line; resting = rested_in b.resting l; rested = length l }
