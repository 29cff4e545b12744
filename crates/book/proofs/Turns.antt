-- One turn of each loop: over the lines, whether each fits; and over the open lines and then those that rest, whose identifiers are seen.
-- Assumes nothing.
use Prim.Native.Nat.{ℕ, ◌+◌, ◌≤◌, ◌<◌}
use mathlib.Core.Path.{◌≡◌, sym, ap, ◌∙◌}
use mathlib.Core.Bool.{true, false}
use mathlib.Core.List.{List, [], ◌∷◌, ◌++◌}
use native.Mathlib.Numerals.{add-one}
use lib.Dec.{eqb}
use lib.ListN.{length, get_or, set, drop, drop_of_length-le}
use lib.Seq.{drop-cons}
use Rattle.line.specs.Line.{is_open}
use Rattle.line.specs.Fit.{line_fits}
use Rattle.line.specs.declared.Line.{Line}
use Rattle.book.specs.Book.{open_keys, lines_fit}
use Rattle.book.specs.Marks.{new_in}
use Rattle.book.proofs.Facts.{open_at, open_span}
use Rattle.book.proofs.Once.{new_once}
use Rattle.book.proofs.Spans.{span_at, span_append}

-- what is left from place i on: the element there, and what is left behind it
left {ℓ} : {A : Type ℓ} (l : List A) (i : ℕ) (d : A) → i < length l → drop i l ≡ get_or l i d ∷ drop (i + 1) l
left l i d h = drop-cons l i d h ∙ ap (λ (n : ℕ). get_or l i d ∷ drop n l) (sym (add-one i))

-- whether each line fits: the turn of line i
module _ (ls : List Line) (i : ℕ) (d : Line) (h : i < length ls) where
  -- it fits
  pub lines_on : line_fits (get_or ls i d) ≡ true → lines_fit (drop i ls) ≡ lines_fit (drop (i + 1) ls)
  unfolding lines_fit
  lines_on e = rw (left ls i d h, e)

  -- it does not
  pub lines_lost : line_fits (get_or ls i d) ≡ false → lines_fit (drop i ls) ≡ false
  unfolding lines_fit
  lines_lost e = rw (left ls i d h, e)

-- no line is left
pub lines_end : (ls : List Line) (i : ℕ) → length ls ≤ i → lines_fit (drop i ls) ≡ true
unfolding lines_fit
lines_end ls i h = rw (drop_of_length-le ls h)

-- by any key of a line: the open lines' keys are seen, and others after them
module _ (key : Line → ℕ) where
  -- the turn of line i
  module _ (ls : List Line) (i : ℕ) (d : Line) (h : i < length ls) (m others : List ℕ) where
    -- its key is new
    pub open_new : (next : List ℕ) → is_open (get_or ls i d) ≡ true → eqb (get_or m (key (get_or ls i d)) 0) 0 ≡ true → next ≡ set m (key (get_or ls i d)) 1
        → new_in m (open_keys key (drop i ls) ++ others) ≡ new_in next (open_keys key (drop (i + 1) ls) ++ others)
    unfolding open_keys new_in
    open_new next o e s = rw (left ls i d h, o, e, s)

    -- its key was seen before
    pub open_again : is_open (get_or ls i d) ≡ true → eqb (get_or m (key (get_or ls i d)) 0) 0 ≡ false → new_in m (open_keys key (drop i ls) ++ others) ≡ false
    unfolding open_keys new_in
    open_again o e = rw (left ls i d h, o, e)

    -- it is closed
    pub open_on : is_open (get_or ls i d) ≡ false → new_in m (open_keys key (drop i ls) ++ others) ≡ new_in m (open_keys key (drop (i + 1) ls) ++ others)
    unfolding open_keys
    open_on o = rw (left ls i d h, o)

  -- no line is left
  pub open_end : (ls : List Line) (i : ℕ) → length ls ≤ i → open_keys key (drop i ls) ≡ []
  unfolding open_keys
  open_end ls i h = rw (drop_of_length-le ls h)

-- numbers are seen: the turn of the one at place i
module _ (l : List ℕ) (i : ℕ) (h : i < length l) (m : List ℕ) where
  -- it is new
  pub see_new : eqb (get_or m (get_or l i 0) 0) 0 ≡ true → new_in m (drop i l) ≡ new_in (set m (get_or l i 0) 1) (drop (i + 1) l)
  unfolding new_in
  see_new e = rw (left l i 0 h, e)

  -- it was seen before
  pub see_again : eqb (get_or m (get_or l i 0) 0) 0 ≡ false → new_in m (drop i l) ≡ false
  unfolding new_in
  see_again e = rw (left l i 0 h, e)

-- none is left
pub see_end : (m l : List ℕ) (i : ℕ) → length l ≤ i → new_in m (drop i l) ≡ true
unfolding new_in
see_end m l i h = rw (drop_of_length-le l h)

-- what a proof of the loop that tests each line goes by
pub ruleset fitting = (lines_on, lines_lost, lines_end)

-- and what one of the two loops that see identifiers goes by
pub ruleset sightings = (open_at, open_span, open_new, open_again, open_on, open_end, see_new, see_again, see_end, span_at, span_append, new_once)
