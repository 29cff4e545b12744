-- What a walk over the lines, or over those that rest, comes to.
-- Assumes nothing.
use Prim.Native.Nat.{ℕ, suc}
use mathlib.Core.Path.{◌≡◌, refl}
use mathlib.Core.Bool.{Bool, true, false, cond, ◌&&◌, ◌||◌}
use mathlib.Core.List.{List, [], ◌∷◌}
use native.Mathlib.Numerals.{add-one}
use lib.Dec.{eqb, leb}
use Rattle.std.specs.Prelude.{Option, Some, None}
use Rattle.std.specs.List.{list_all, list_any, position_from}
use Rattle.std.proofs.lemmas.List.Recursion.{same_from_clauses}
use Rattle.ground.specs.Pick.{pick}
use Rattle.owed.specs.Owed.{member}
use Rattle.line.specs.Line.{is_open}
use Rattle.line.specs.declared.Line.{Line}
use Rattle.book.specs.Book.{owner_by}
use Rattle.book.specs.Resting.{all_span}

pub span_all : (l : List ℕ) → list_all (λ x. leb x 127) l ≡ all_span l
unfolding all_span
span_all = same_from_clauses (list_all (λ x. leb x 127)) all_span (λ x b. leb x 127 && b) refl (λ _ _. refl) (λ _ _. refl)

pub member_any : (x : ℕ) (l : List ℕ) → member x l ≡ list_any (λ y. eqb y x) l
unfolding member
member_any x = same_from_clauses (member x) (list_any (λ y. eqb y x)) (λ y b. eqb y x || b) refl (λ _ _. refl) (λ _ _. refl)

-- by any key of a line
module _ (key : Line → ℕ) where
  pub owner_placed : (x k : ℕ) (ls : List Line) → owner_by key k ls x ≡ position_from (λ l. is_open l && eqb (key l) x) k ls
  unfolding owner_by
  owner_placed x k [] = refl
  owner_placed x k (l ∷ ls) = go (is_open l && eqb (key l) x) _ _ (rw (add-one k) (owner_placed x (suc k) ls))
    where
      go : (t : Bool) (w : Option ℕ) (p : Option ℕ) → w ≡ p → pick t (Some k) w ≡ cond t (Some k) p
      go true w p e = refl
      go false w p e = e
