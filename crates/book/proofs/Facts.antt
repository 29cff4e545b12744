-- What BOOK asks of a book, as facts: of each line, of its identifier, and of those that rest.
-- Assumes nothing.
use Prim.Native.Nat.{ℕ, zero, suc, ◌≤◌, ◌<◌}
use mathlib.Core.Path.{◌≡◌, refl}
use mathlib.Core.Bool.{true}
use mathlib.Core.List.{List, [], ◌∷◌}
use native.Mathlib.Omega.{arith}
use native.Mathlib.Decide.{dec_lt}
use lib.Dec.{leb}
use lib.ListN.{length, get_or, get_or-eq_default}
use borrow.Author.Tests.{leb-true, le-leb}
use Rattle.ground.proofs.Picks.{both_true, each, pick_by}
use Rattle.owed.specs.Owed.{no_twice}
use Rattle.book.specs.Resting.{all_span}
use Rattle.line.specs.Line.{is_open, closed_line}
use Rattle.line.specs.Fit.{line_fits}
use Rattle.line.specs.declared.Line.{Line}
use Rattle.line.proofs.Keeps.{line_ok, closed_fits}
use Rattle.book.specs.declared.Book.{Book}
use Rattle.book.specs.Book.{open_in, lines_fit, book_fits, resting_of, identifiers_of, line_of}

pub record BookOk (b : Book) : Type 0 where
  pub lines : lines_fit b.lines ≡ true
  pub few : b.rested ≤ 16
  pub spans : all_span (resting_of b) ≡ true
  pub once : no_twice (identifiers_of b) ≡ true

-- the test decides the facts
pub book_ok : (b : Book) → book_fits b ≡ true → BookOk b
unfolding book_fits
book_ok b e =
    let t = each (lines_fit b.lines ∷ leb b.rested 16 ∷ all_span (resting_of b) ∷ no_twice (identifiers_of b) ∷ []) e in
    record { lines = t.0; few = leb-true _ _ t.1.0; spans = t.1.1.0; once = t.1.1.1.0 }

pub ok_book : (b : Book) → BookOk b → book_fits b ≡ true
unfolding book_fits
ok_book b k = rw (k.lines, le-leb _ _ k.few, k.spans, k.once)

-- each line fits
pub lines_at : (ls : List Line) → lines_fit ls ≡ true → (i : ℕ) (d : Line) → i < length ls → line_fits (get_or ls i d) ≡ true
unfolding lines_fit
lines_at [] f i d h = absurd (omega arith)
lines_at (l ∷ ls) f zero d h = (both_true (line_fits l) (lines_fit ls) f).0
lines_at (l ∷ ls) f (suc i) d h = lines_at ls (both_true (line_fits l) (lines_fit ls) f).1 i d (omega arith)

-- an open line's identifier is one of 0 to 127
pub line_span : (l : Line) → line_fits l ≡ true → is_open l ≡ true → leb l.identifier 127 ≡ true
line_span l f o = (each (leb l.identifier 127 ∷ leb 96 l.kind ∷ leb l.kind 127 ∷ []) (line_ok l o f).settings).0

pub open_at : (ls : List Line) → lines_fit ls ≡ true → (i : ℕ) (d : Line) → i < length ls → is_open (get_or ls i d) ≡ true → (get_or ls i d).identifier < 128
open_at ls f i d h o =
    let e : (get_or ls i d).identifier ≤ 127 = leb-true _ _ (line_span (get_or ls i d) (lines_at ls f i d h) o) in
    omega arith

pub open_span : (ls : List Line) → lines_fit ls ≡ true → all_span (open_in ls) ≡ true
unfolding lines_fit all_span open_in
open_span [] f = refl
open_span (l ∷ ls) f =
    let b = both_true (line_fits l) (lines_fit ls) f in
    let r = open_span ls b.1 in
    pick_by (λ (xs : List ℕ). all_span xs ≡ true) (is_open l) (λ e. rw (line_span l b.0 e, r)) (λ e. r)

-- each line of a book fits; past the end stands a closed one
pub line_fits_lem : (b : Book) → book_fits b ≡ true → (i : ℕ) → line_fits (line_of b i) ≡ true
line_fits_lem b f i = go (dec_lt i (length b.lines))
  where
    go : Dec (i < length b.lines) → line_fits (line_of b i) ≡ true
    go (yes h) = lines_at b.lines (book_ok b f).lines i closed_line h
    go (no h) = rw (get_or-eq_default b.lines closed_line {n = i} (omega arith)) (closed_fits closed_line refl)
