-- A gateway's book: four lines (RULES 1.1), and the identifiers that rest. What BOOK asks of it (RULES 13.18).
-- Assumes nothing.
use Rattle.std.specs.Prelude.{ℕ, suc, Bool, true, ◌&&◌, List, [], ◌∷◌, ◌++◌, eqb, leb, get_or, set, take, replicate, Option, Some, None}
use Rattle.ground.specs.Pick.{pick, all_hold}
use Rattle.owed.specs.Owed.{member, no_twice}
use Rattle.book.specs.Resting.{all_span}
use Rattle.line.specs.Line.{is_open, closed_line}
use Rattle.line.specs.Fit.{line_fits}
use Rattle.line.specs.declared.Line.{Line}
use Rattle.book.specs.declared.Book.{Book}

-- "as in a fresh book": four closed lines, and nothing rests (RULES 7.7)
abbrev pub fresh_book : Book
fresh_book = record { lines = replicate 4 closed_line; resting = replicate 16 0; rested = 0 }

-- line i
abbrev pub line_of : Book → ℕ → Line
line_of b i = get_or b.lines i closed_line

-- the book with another record of line i, and all else as it was
abbrev pub with_line : Book → ℕ → Line → Book
with_line b i l = record { lines = set b.lines i l; resting = b.resting; rested = b.rested }

-- A key is a number that a line has from its opening to its closing and that no other open line may have: its identifier. What is asked of
-- keys is said of any.

-- the keys of the open lines
unfoldable pub open_keys : (Line → ℕ) → List Line → List ℕ
open_keys key [] = []
open_keys key (l ∷ ls) = pick (is_open l) (key l ∷ open_keys key ls) (open_keys key ls)

-- the open line that has that key: the first from the front, where k lines stand before these
unfoldable pub owner_by : (Line → ℕ) → ℕ → List Line → ℕ → Option ℕ
owner_by key k [] x = None
owner_by key k (l ∷ ls) x = pick (is_open l && eqb (key l) x) (Some k) (owner_by key (suc k) ls x)

abbrev pub identifier_of : Line → ℕ
identifier_of l = l.identifier

-- the identifiers of the open lines; where this is unfolded, so is what it says
unfoldable pub open_in : List Line → List ℕ
unfolding open_keys
open_in = open_keys identifier_of

-- those that rest, oldest first (RULES 7.6); what stands after them in the array is not read (RULES 15.26)
abbrev pub resting_of : Book → List ℕ
resting_of b = take b.rested b.resting

-- the identifiers "among open and resting" (RULES 15.25)
abbrev pub identifiers_of : Book → List ℕ
identifiers_of b = open_in b.lines ++ resting_of b

unfoldable pub lines_fit : List Line → Bool
lines_fit [] = true
lines_fit (l ∷ ls) = line_fits l && lines_fit ls

-- what BOOK asks: of each line; that at most 16 rest (RULES 15.23), each 0 to 127 (RULES 15.24); and not "one identifier twice among open
-- and resting" (RULES 15.25)
unfoldable pub book_fits : Book → Bool
book_fits b = all_hold (lines_fit b.lines ∷ leb b.rested 16 ∷ all_span (resting_of b) ∷ no_twice (identifiers_of b) ∷ [])

-- the open line that has the identifier (RULES 4.1)
unfoldable pub owner_from : ℕ → List Line → ℕ → Option ℕ
unfolding owner_by
owner_from = owner_by identifier_of

abbrev pub owner_of : Book → ℕ → Option ℕ
owner_of b identifier = owner_from 0 b.lines identifier

-- "An identifier open on another line is taken. So is one among the last 16 closed." (RULES 7.2)
abbrev pub taken : Book → ℕ → Bool
taken b identifier = member identifier (identifiers_of b)
