-- A line put anew, opened or closed leaves a book that passes BOOK's test, with arrays of the declared lengths.
-- Assumes nothing.
use Prim.Native.Nat.{ℕ, ◌<◌, ◌-◌}
use mathlib.Core.Path.{◌≡◌, refl, sym, ap, ◌∙◌}
use mathlib.Core.Bool.{true, false, not}
use mathlib.Core.List.{List, [], ◌∷◌, ◌++◌, append_assoc}
use native.Mathlib.Omega.{arith}
use lib.ListN.{length, set, drop, length-set, length-append, length-drop}
use lib.Seq.{set-get_or}
use borrow.Author.Tests.{not-true}
use Rattle.ground.proofs.Picks.{both_true}
use Rattle.owed.specs.Owed.{member, no_twice}
use Rattle.owed.proofs.Lists.{twice_last}
use Rattle.book.specs.Resting.{all_span, rests}
use Rattle.book.proofs.RestingLists.{rests_most}
use Rattle.book.proofs.Spans.{span_append, span_rest}
use Rattle.line.specs.Line.{is_open, closed_line}
use Rattle.line.specs.Fit.{line_fits}
use Rattle.line.specs.Shape.{Shaped}
use Rattle.line.specs.declared.Line.{Line}
use Rattle.line.proofs.Keeps.{closed_fits}
use Rattle.line.proofs.Same.{SameOpening}
use Rattle.line.proofs.Shape.{closed_shaped}
use Rattle.book.specs.Book.{identifier_of, open_in, line_of, with_line, resting_of, book_fits, taken}
use Rattle.book.specs.Closing.{closed_at}
use Rattle.book.specs.Shape.{BookShaped}
use Rattle.book.specs.declared.Book.{Book}
use Rattle.book.proofs.LineAnew.{set_by, lines_set, open_same, open_closed, once_open, once_less}
use Rattle.book.proofs.Facts.{book_ok, ok_book, line_span, line_fits_lem}
use Rattle.book.proofs.Closing.{closed_resting}

-- a line anew, open or closed as it was and with what its opening named
pub with_line_keeps : (b : Book) → book_fits b ≡ true → (i : ℕ) (l : Line) → line_fits l ≡ true → SameOpening (line_of b i) l → book_fits (with_line b i l) ≡ true
unfolding open_in
with_line_keeps b f i l g same =
    let k = book_ok b f in
    ok_book (with_line b i l) (record {
      lines = lines_set b.lines i l k.lines g;
      few = k.few;
      spans = k.spans;
      once = ap (λ (xs : List ℕ). no_twice (xs ++ resting_of b)) (open_same identifier_of b.lines i l same.opened same.identifier) ∙ k.once;
    })

-- a closed line opened, with an identifier that is not taken
pub opened_keeps : (b : Book) → book_fits b ≡ true → BookShaped b → (i : ℕ) → i < 4 → is_open (line_of b i) ≡ false
    → (l : Line) → is_open l ≡ true → line_fits l ≡ true → taken b l.identifier ≡ false → book_fits (with_line b i l) ≡ true
unfolding open_in
opened_keeps b f s i h c l o g t =
    let k = book_ok b f in
    ok_book (with_line b i l) (record {
      lines = lines_set b.lines i l k.lines g;
      few = k.few;
      spans = k.spans;
      once = once_open identifier_of b.lines (resting_of b) i l (omega (arith, s.lines)) o ∙ rw (open_closed identifier_of closed_line refl b.lines i c, t) k.once;
    })

-- an open line closed, its identifier at rest
pub closed_keeps : (b : Book) → book_fits b ≡ true → BookShaped b → (i : ℕ) → i < 4 → is_open (line_of b i) ≡ true → book_fits (closed_at b i) ≡ true
unfolding closed_at all_span open_in
closed_keeps b f s i h o =
    let k = book_ok b f in
    let x = (line_of b i).identifier in
    let r = resting_of b in
    let m = r ++ (x ∷ []) in
    let others = open_in (set b.lines i closed_line) in
    let whole : no_twice (open_in (set b.lines i (line_of b i)) ++ r) ≡ true = rw (set-get_or b.lines i closed_line) k.once in
    let e = both_true (not (member x (others ++ r))) (no_twice (others ++ r)) (sym (once_open identifier_of b.lines r i (line_of b i) (omega (arith, s.lines)) o) ∙ whole) in
    let last : no_twice (others ++ m) ≡ true = rw (← append_assoc others r (x ∷ []), twice_last x (others ++ r), e.1, not-true (member x (others ++ r)) e.0) in
    ok_book (closed_at b i) (record {
      lines = lines_set b.lines i closed_line k.lines (closed_fits closed_line refl);
      few = rests_most r x;
      spans = rw (closed_resting b i) (span_rest (length m - 16) m (span_append r (x ∷ []) k.spans (rw (line_span (line_of b i) (line_fits_lem b f i) o))));
      once = rw (closed_resting b i) (once_less (length m - 16) others m last);
    })

-- the arrays' lengths
pub with_line_shaped : (b : Book) → BookShaped b → (i : ℕ) (l : Line) → Shaped l → BookShaped (with_line b i l)
with_line_shaped b s i l k =
    record {
      lines = length-set b.lines i l ∙ s.lines;
      resting = s.resting;
      each = set_by Shaped b.lines i l closed_line k s.each;
    }

pub closed_shaped_book : (b : Book) → BookShaped b → (i : ℕ) → BookShaped (closed_at b i)
unfolding closed_at
closed_shaped_book b s i =
    let l = rests (resting_of b) (line_of b i).identifier in
    record {
      lines = length-set b.lines i closed_line ∙ s.lines;
      resting = omega (arith, length-append l (drop (length l) b.resting), length-drop (length l) b.resting, rests_most (resting_of b) (line_of b i).identifier, s.resting);
      each = set_by Shaped b.lines i closed_line closed_line closed_shaped s.each;
    }
