-- Nothing of a closed line's record is read but the flag that says so, neither by BOOK's test nor where an identifier is looked for.
-- Assumes nothing.
use Prim.Native.Nat.{ℕ}
use mathlib.Core.Path.{◌≡◌, ap, ◌∙◌}
use mathlib.Core.Bool.{false}
use mathlib.Core.List.{List, [], ◌∷◌, ◌++◌}
use lib.Dec.{eqb, leb}
use Rattle.ground.specs.Pick.{all_hold}
use Rattle.owed.specs.Owed.{member, no_twice}
use Rattle.book.specs.Resting.{all_span}
use Rattle.line.specs.Line.{is_open}
use Rattle.line.specs.declared.Line.{Line}
use Rattle.book.specs.Book.{identifier_of, open_in, line_of, with_line, resting_of, book_fits, taken, owner_from, owner_of}
use Rattle.book.specs.declared.Book.{Book}
use Rattle.book.proofs.LineAnew.{open_closed, lines_closed, whose_closed}

module _ (b : Book) (i : ℕ) (o : is_open (line_of b i) ≡ false) (l : Line) (e : l.opened ≡ (line_of b i).opened) where
  c : is_open l ≡ false
  c = ap (λ (n : ℕ). eqb n 1) e ∙ o

  pub closed_unread : book_fits (with_line b i l) ≡ book_fits b
  unfolding book_fits open_in
  closed_unread =
      λ j. all_hold (lines_closed l c b.lines i o e j ∷ leb b.rested 16 ∷ all_span (resting_of b) ∷ no_twice (open_closed identifier_of l c b.lines i o j ++ resting_of b) ∷ [])

  pub taken_unread : (identifier : ℕ) → taken (with_line b i l) identifier ≡ taken b identifier
  unfolding open_in
  taken_unread identifier = ap (λ (xs : List ℕ). member identifier (xs ++ resting_of b)) (open_closed identifier_of l c b.lines i o)

  pub whose_unread : (identifier : ℕ) → owner_of (with_line b i l) identifier ≡ owner_of b identifier
  unfolding owner_from
  whose_unread identifier = whose_closed identifier_of l c 0 b.lines i identifier o
