-- Each line by itself: a line put anew or closed is what was put there, and every other stays.
-- Assumes nothing.
use Prim.Native.Nat.{ℕ, zero, suc, ◌<◌}
use mathlib.Core.Path.{◌≡◌, refl, sym}
use mathlib.Core.List.{List, [], ◌∷◌}
use native.Mathlib.Omega.{arith}
use lib.ListN.{get_or, set}
use lib.Seq.{get_or-set_same, get_or-set_other}
use Rattle.line.specs.Line.{closed_line}
use Rattle.line.specs.declared.Line.{Line}
use Rattle.book.specs.Book.{line_of, with_line}
use Rattle.book.specs.Closing.{closed_at}
use Rattle.book.specs.Shape.{BookShaped}
use Rattle.book.specs.declared.Book.{Book}

pub line_same : (b : Book) → BookShaped b → (i : ℕ) → i < 4 → (l : Line) → line_of (with_line b i l) i ≡ l
line_same b s i h l = get_or-set_same b.lines i l closed_line (omega (arith, s.lines))

pub line_other : (b : Book) (i : ℕ) (l : Line) (j : ℕ) → (i ≡ j → ⊥) → line_of (with_line b i l) j ≡ line_of b j
line_other b i l j n = get_or-set_other b.lines i j l closed_line (λ e. n (sym e))

-- past the end a line is closed too
pub closed_same : (b : Book) (i : ℕ) → line_of (closed_at b i) i ≡ closed_line
unfolding closed_at
closed_same b i = here b.lines i
  where
    here : (ls : List Line) (i : ℕ) → get_or (set ls i closed_line) i closed_line ≡ closed_line
    here [] i = refl
    here (l ∷ ls) zero = refl
    here (l ∷ ls) (suc i) = here ls i

pub closed_other : (b : Book) (i j : ℕ) → (i ≡ j → ⊥) → line_of (closed_at b i) j ≡ line_of b j
unfolding closed_at
closed_other b i j n = get_or-set_other b.lines i j closed_line closed_line (λ e. n (sym e))
