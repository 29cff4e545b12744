-- A line is closed: those that rest in the book then.
-- Assumes nothing.
use Prim.Native.Nat.{ℕ}
use mathlib.Core.Path.{◌≡◌}
use lib.ListN.{length, drop}
use lib.Seq.{take-append_seam}
use Rattle.book.specs.Resting.{rests}
use Rattle.book.specs.declared.Book.{Book}
use Rattle.book.specs.Book.{resting_of, line_of}
use Rattle.book.specs.Closing.{closed_at}

-- those that rest once a line is closed
pub closed_resting : (b : Book) (i : ℕ) → resting_of (closed_at b i) ≡ rests (resting_of b) (line_of b i).identifier
unfolding closed_at
closed_resting b i = let l = rests (resting_of b) (line_of b i).identifier in take-append_seam l (drop (length l) b.resting)
