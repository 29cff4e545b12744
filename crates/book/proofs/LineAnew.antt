-- One line among the lines, and one number among others: what changes where a line is put anew. What is said of keys is said of any key.
-- Assumes nothing.
use Prim.Native.Nat.{ℕ, zero, suc, ◌<◌}
use mathlib.Core.Path.{◌≡◌, refl, sym, ap, ap₂, ◌∙◌}
use mathlib.Core.Bool.{Bool, true, false, not, ◌&&◌, ◌||◌}
use mathlib.Core.List.{List, [], ◌∷◌, ◌++◌, append_assoc}
use native.Mathlib.Omega.{arith}
use lib.Dec.{eqb}
use lib.ListN.{length, get_or, set, take, drop}
use lib.Seq.{set_split}
use borrow.Author.Tests.{eq-eqb}
use Rattle.std.specs.Prelude.{Option, Some}
use Rattle.ground.specs.Pick.{pick}
use Rattle.ground.proofs.Picks.{both_true}
use Rattle.ground.proofs.Either.{or_true}
use Rattle.owed.specs.Owed.{member, no_twice}
use Rattle.owed.proofs.Lists.{eqb_turn}
use Rattle.line.specs.Line.{is_open, closed_line}
use Rattle.line.specs.Fit.{line_fits}
use Rattle.line.specs.declared.Line.{Line}
use Rattle.book.specs.Book.{open_keys, lines_fit, owner_by}

-- What holds of each line, and of the one put anew, holds of each line then.
pub set_by {ℓ} : {A : Type 0} (P : A → Type ℓ) (ls : List A) (i : ℕ) (l d : A) → P l → ((j : ℕ) → P (get_or ls j d)) → (j : ℕ) → P (get_or (set ls i l) j d)
set_by P [] i l d p f j = f j
set_by P (x ∷ ls) zero l d p f zero = p
set_by P (x ∷ ls) zero l d p f (suc j) = f (suc j)
set_by P (x ∷ ls) (suc i) l d p f zero = f zero
set_by P (x ∷ ls) (suc i) l d p f (suc j) = set_by P ls i l d p (λ k. f (suc k)) j

-- A line put anew that fits.
pub lines_set : (ls : List Line) (i : ℕ) (l : Line) → lines_fit ls ≡ true → line_fits l ≡ true → lines_fit (set ls i l) ≡ true
unfolding lines_fit
lines_set [] i l f g = f
lines_set (x ∷ ls) zero l f g = rw g (both_true (line_fits x) (lines_fit ls) f).1
lines_set (x ∷ ls) (suc i) l f g =
    let b = both_true (line_fits x) (lines_fit ls) f in
    rw b.0 (lines_set ls i l b.1 g)

-- A closed line put in a closed line's place.
pub lines_closed : (l : Line) → is_open l ≡ false → (ls : List Line) (i : ℕ) → is_open (get_or ls i closed_line) ≡ false → l.opened ≡ (get_or ls i closed_line).opened
    → lines_fit (set ls i l) ≡ lines_fit ls
unfolding lines_fit line_fits
lines_closed l c [] i o e = refl
lines_closed l c (x ∷ ls) zero o e = rw (c, o) (ap (λ (n : ℕ). eqb n 0 && lines_fit ls) e)
lines_closed l c (x ∷ ls) (suc i) o e = ap (λ (t : Bool). line_fits x && t) (lines_closed l c ls i o e)

-- A number between others: none is there twice if it is not among the others, and none of those is.
member_insert : (y x : ℕ) (a c : List ℕ) → member y (a ++ (x ∷ c)) ≡ (eqb x y || member y (a ++ c))
unfolding member
member_insert y x [] c = refl
member_insert y x (z ∷ a) c = ap (λ (t : Bool). eqb z y || t) (member_insert y x a c) ∙ turn (eqb z y) (eqb x y) (member y (a ++ c))
  where
    turn : (p q r : Bool) → (p || (q || r)) ≡ (q || (p || r))
    turn true true r = refl
    turn true false r = refl
    turn false q r = refl

once_insert : (x : ℕ) (a c : List ℕ) → no_twice (a ++ (x ∷ c)) ≡ (not (member x (a ++ c)) && no_twice (a ++ c))
unfolding no_twice member
once_insert x [] c = refl
once_insert x (z ∷ a) c =
    ap₂ (λ (p q : Bool). not p && q) (member_insert z x a c ∙ ap (λ (t : Bool). t || member z (a ++ c)) (eqb_turn x z)) (once_insert x a c)
    ∙ turn (eqb z x) (member z (a ++ c)) (member x (a ++ c)) (no_twice (a ++ c))
  where
    turn : (p q r s : Bool) → (not (p || q) && (not r && s)) ≡ (not (p || r) && (not q && s))
    turn true q r s = refl
    turn false true true s = refl
    turn false true false s = refl
    turn false false r s = refl

-- what is there once is so without the first of the rest
pub once_less : (k : ℕ) (a m : List ℕ) → no_twice (a ++ m) ≡ true → no_twice (a ++ drop k m) ≡ true
once_less zero a m e = e
once_less (suc k) a [] e = e
once_less (suc k) a (x ∷ m) e = once_less k a m (both_true (not (member x (a ++ m))) (no_twice (a ++ m)) (sym (once_insert x a m) ∙ e)).1

module _ (key : Line → ℕ) where
  -- A line put anew that is open or closed as it was, with its key.
  pub open_same : (ls : List Line) (i : ℕ) (l : Line) → is_open l ≡ is_open (get_or ls i closed_line) → key l ≡ key (get_or ls i closed_line) → open_keys key (set ls i l) ≡ open_keys key ls
  unfolding open_keys
  open_same [] i l o e = refl
  open_same (x ∷ ls) zero l o e = ap₂ (λ (t : Bool) (y : ℕ). pick t (y ∷ open_keys key ls) (open_keys key ls)) o e
  open_same (x ∷ ls) (suc i) l o e = ap (λ (xs : List ℕ). pick (is_open x) (key x ∷ xs) xs) (open_same ls i l o e)

  -- A closed line put in a closed line's place.
  module _ (l : Line) (c : is_open l ≡ false) where
    pub open_closed : (ls : List Line) (i : ℕ) → is_open (get_or ls i closed_line) ≡ false → open_keys key (set ls i l) ≡ open_keys key ls
    unfolding open_keys
    open_closed [] i o = refl
    open_closed (x ∷ ls) zero o = rw (c, o)
    open_closed (x ∷ ls) (suc i) o = ap (λ (xs : List ℕ). pick (is_open x) (key x ∷ xs) xs) (open_closed ls i o)

    pub whose_closed : (k : ℕ) (ls : List Line) (i x : ℕ) → is_open (get_or ls i closed_line) ≡ false → owner_by key k (set ls i l) x ≡ owner_by key k ls x
    unfolding owner_by
    whose_closed k [] i x o = refl
    whose_closed k (y ∷ ls) zero x o = rw (c, o)
    whose_closed k (y ∷ ls) (suc i) x o = ap (λ (w : Option ℕ). pick (is_open y && eqb (key y) x) (Some k) w) (whose_closed (suc k) ls i x o)

  -- An open line's key is among those that are open.
  pub open_member : (ls : List Line) (i : ℕ) → i < length ls → is_open (get_or ls i closed_line) ≡ true → member (key (get_or ls i closed_line)) (open_keys key ls) ≡ true
  unfolding open_keys member
  open_member [] i h o = absurd (omega arith)
  open_member (x ∷ ls) zero h o = rw (o, eq-eqb (key x) (key x) refl)
  open_member (x ∷ ls) (suc i) h o = go (is_open x) (open_member ls i (omega arith) o)
    where
      y : ℕ
      y = key (get_or ls i closed_line)

      go : (t : Bool) → member y (open_keys key ls) ≡ true → member y (pick t (key x ∷ open_keys key ls) (open_keys key ls)) ≡ true
      go true e = rw e (or_true (eqb (key x) y))
      go false e = e

  -- The open keys around a line.
  open_append : (a b : List Line) → open_keys key (a ++ b) ≡ open_keys key a ++ open_keys key b
  unfolding open_keys
  open_append [] b = refl
  open_append (l ∷ a) b = go (is_open l) (open_append a b)
    where
      go : (t : Bool) → open_keys key (a ++ b) ≡ open_keys key a ++ open_keys key b
          → pick t (key l ∷ open_keys key (a ++ b)) (open_keys key (a ++ b)) ≡ pick t (key l ∷ open_keys key a) (open_keys key a) ++ open_keys key b
      go true e = ap (λ (xs : List ℕ). key l ∷ xs) e
      go false e = e

  open_set : (ls : List Line) (i : ℕ) (l : Line) → i < length ls
      → open_keys key (set ls i l) ≡ open_keys key (take i ls) ++ pick (is_open l) (key l ∷ open_keys key (drop (suc i) ls)) (open_keys key (drop (suc i) ls))
  unfolding open_keys
  open_set ls i l h = ap (open_keys key) (set_split ls i l h) ∙ open_append (take i ls) (l ∷ drop (suc i) ls)

  -- an open line among the lines, and others that count: its key, and all others
  pub once_open : (ls : List Line) (r : List ℕ) (i : ℕ) (l : Line) → i < length ls → is_open l ≡ true
      → no_twice (open_keys key (set ls i l) ++ r) ≡ (not (member (key l) (open_keys key (set ls i closed_line) ++ r)) && no_twice (open_keys key (set ls i closed_line) ++ r))
  once_open ls r i l h o =
      let a = open_keys key (take i ls) in
      let c = open_keys key (drop (suc i) ls) in
      rw (open_set ls i l h, open_set ls i closed_line h, o, append_assoc a (key l ∷ c) r, append_assoc a c r) (once_insert (key l) a (c ++ r))
