-- No identifier is twice among the open lines and those that rest, in any book that is reached from a fresh one.
-- Assumes nothing.
use Prim.Native.Nat.{ℕ, ◌<◌}
use mathlib.Core.Path.{◌≡◌}
use mathlib.Core.Bool.{true, false, not}
use mathlib.Core.List.{List, [], ◌∷◌, ◌++◌}
use Rattle.line.specs.Line.{is_open}
use Rattle.ground.proofs.Picks.{both_true}
use Rattle.owed.specs.Owed.{member, no_twice}
use Rattle.book.specs.Book.{fresh_book, line_of, open_in, resting_of, book_fits}
use Rattle.book.specs.Shape.{BookShaped}
use Rattle.book.specs.declared.Book.{Book}
use Rattle.book.proofs.Facts.{book_ok}
use Rattle.book.proofs.Fresh.{fresh_fits, fresh_shaped}
use Rattle.book.proofs.OneOwner.{one_owner, never_resting}
use Rattle.laws.specs.Reached.{Turn, turned, reach}
use Rattle.laws.proofs.Keeps.{Passes, every_call_keeps}

-- "one identifier twice among open and resting": on two open lines, on an open line and at rest, or at rest twice
pub record NoneTwice (b : Book) : Type 0 where
  pub lines : (i j : ℕ) → i < 4 → j < 4 → is_open (line_of b i) ≡ true → is_open (line_of b j) ≡ true → (line_of b i).identifier ≡ (line_of b j).identifier → i ≡ j
  pub rests : (i : ℕ) → i < 4 → is_open (line_of b i) ≡ true → member (line_of b i).identifier (resting_of b) ≡ false
  pub resting : no_twice (resting_of b) ≡ true

-- of a list where none is twice none is in its second part
pub once_behind : (a r : List ℕ) → no_twice (a ++ r) ≡ true → no_twice r ≡ true
unfolding no_twice
once_behind [] r e = e
once_behind (x ∷ a) r e = once_behind a r (both_true (not (member x (a ++ r))) (no_twice (a ++ r)) e).1

-- THE PROMISE, of a book that BOOK lets pass
pub no_identifier_twice : (b : Book) → book_fits b ≡ true → BookShaped b → NoneTwice b
no_identifier_twice b fits shaped =
    record {
      lines = λ i j h g o p e. one_owner b fits shaped i h o j g p e;
      rests = λ i h o. never_resting b fits shaped i h o;
      resting = once_behind (open_in b.lines) (resting_of b) (book_ok b fits).once;
    }

-- such is a fresh book, and every book that calls leave of such a one
pub fresh_passes : (book_fits fresh_book ≡ true) × BookShaped fresh_book
fresh_passes = (fresh_fits, fresh_shaped)

pub reach_keeps : (ts : List Turn) (b : Book) → book_fits b ≡ true → BookShaped b → Passes (reach b ts)
unfolding reach
reach_keeps [] b fits shaped = (fits, shaped)
reach_keeps (t ∷ ts) b fits shaped =
    let k = every_call_keeps t.call b t.store t.out fits shaped in
    reach_keeps ts (turned b t).book k.0 k.1

-- so whatever is called and whatever is lent, BOOK never refuses a book that was made by calls
pub reached_passes : (ts : List Turn) → (book_fits (reach fresh_book ts) ≡ true) × BookShaped (reach fresh_book ts)
reached_passes ts = reach_keeps ts fresh_book fresh_fits fresh_shaped

pub reached_once : (ts : List Turn) → NoneTwice (reach fresh_book ts)
reached_once ts =
    let k = reached_passes ts in
    no_identifier_twice (reach fresh_book ts) k.0 k.1
