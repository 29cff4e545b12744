-- What the first tests of a call give, once they pass: a book that fits, a line number that is one, a line that fits.
-- Assumes nothing.
use Prim.Native.Nat.{ℕ, ◌≤◌, ◌<◌}
use mathlib.Core.Path.{◌≡◌, sym, ap, ◌∙◌}
use mathlib.Core.Bool.{true}
use mathlib.Core.List.{List, [], ◌∷◌}
use native.Mathlib.Omega.{arith}
use lib.Dec.{leb}
use borrow.Author.Tests.{leb-true}
use Rattle.std.specs.Prelude.{Ok}
use Rattle.ground.specs.Refusal.{Verdict, Test, verdict}
use Rattle.ground.proofs.Verdicts.{passed, pass_both}
use Rattle.line.specs.Fit.{line_fits}
use Rattle.book.specs.Book.{line_of, book_fits}
use Rattle.book.specs.Parts.{store_length}
use Rattle.book.specs.declared.Book.{Book}
use Rattle.book.proofs.Facts.{book_ok, line_fits_lem}
use Rattle.calls.specs.Stages.{fit_book, roomy, line_number, must_be_open}

pub record OnLine (b : Book) (i : ℕ) : Type 0 where
  pub book : book_fits b ≡ true
  pub few : b.rested ≤ 16
  pub number : i < 4
  pub line : line_fits (line_of b i) ≡ true

there : (b : Book) (i : ℕ) → book_fits b ≡ true → leb i 3 ≡ true → OnLine b i
there b i e n =
    let m : i ≤ 3 = leb-true _ _ n in
    record { book = e; few = (book_ok b e).few; number = omega arith; line = line_fits_lem b e i }

pub on_line : (b : Book) (i : ℕ) → verdict (fit_book b ∷ line_number i ∷ []) ≡ Ok tt → OnLine b i
on_line b i e =
    let t = passed (fit_book b ∷ line_number i ∷ []) e in
    there b i t.0 t.1.0

pub on_both : (b : Book) (n i : ℕ) → verdict (fit_book b ∷ roomy b n ∷ line_number i ∷ []) ≡ Ok tt → OnLine b i × (store_length b ≤ n)
on_both b n i e =
    let t = passed (fit_book b ∷ roomy b n ∷ line_number i ∷ []) e in
    (there b i t.0 t.1.1.0, leb-true _ _ t.1.0)

-- and with what stands behind them
pub line_passed : (b : Book) (i : ℕ) (ts : List Test) → verdict (fit_book b ∷ line_number i ∷ ts) ≡ Ok tt → OnLine b i × (verdict ts ≡ Ok tt)
line_passed b i ts e =
    let p = pass_both (fit_book b ∷ line_number i ∷ []) ts e in
    (on_line b i p.0, p.1)

pub both_passed : (b : Book) (n i : ℕ) (ts : List Test) → verdict (fit_book b ∷ roomy b n ∷ line_number i ∷ ts) ≡ Ok tt → OnLine b i × (store_length b ≤ n) × (verdict ts ≡ Ok tt)
both_passed b n i ts e =
    let p = pass_both (fit_book b ∷ roomy b n ∷ line_number i ∷ []) ts e in
    let o = on_both b n i p.0 in
    (o.0, o.1, p.1)

-- the same of a call's whole list, once the code has worked out its verdict
module _ {b : Book} {i : ℕ} {ts whole : List Test} {v : Verdict} where
  pub asked_line : whole ≡ (fit_book b ∷ line_number i ∷ ts) → v ≡ verdict whole → v ≡ Ok tt → OnLine b i × (verdict ts ≡ Ok tt)
  asked_line parts e p = line_passed b i ts (sym (ap verdict parts) ∙ sym e ∙ p)

  pub asked_both : (n : ℕ) → whole ≡ (fit_book b ∷ roomy b n ∷ line_number i ∷ ts) → v ≡ verdict whole → v ≡ Ok tt → OnLine b i × (store_length b ≤ n) × (verdict ts ≡ Ok tt)
  asked_both n parts e p = both_passed b n i ts (sym (ap verdict parts) ∙ sym e ∙ p)

-- and of what a mode call asks before its own tests
pub asked_open : (b : Book) (i : ℕ) {v : Verdict} → v ≡ verdict (fit_book b ∷ line_number i ∷ must_be_open (line_of b i) ∷ []) → v ≡ Ok tt → OnLine b i
asked_open b i e p = (line_passed b i (must_be_open (line_of b i) ∷ []) (sym e ∙ p)).0
