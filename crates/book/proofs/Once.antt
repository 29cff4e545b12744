-- Identifiers seen one after another and marked: none finds its place marked exactly if none stands in the list twice.
-- Assumes nothing.
use Prim.Native.Nat.{ℕ, ◌≤◌, ◌<◌}
use mathlib.Core.Path.{◌≡◌, refl, ap, ap₂, ◌∙◌}
use mathlib.Core.Bool.{Bool, true, false, not, ◌&&◌, ◌||◌}
use mathlib.Core.List.{List, [], ◌∷◌}
use native.Mathlib.Omega.{arith}
use lib.Dec.{eqb, leb, lit<}
use lib.ListN.{length, get_or, set, replicate, length-set}
use lib.Seq.{get_or-set_same, get_or-set_other}
use borrow.Author.Tests.{leb-true, eqb-true, eqb-false}
use Rattle.ground.proofs.Picks.{both_true}
use Rattle.ground.proofs.Either.{by_test}
use Rattle.owed.specs.Owed.{member, no_twice}
use Rattle.book.specs.Resting.{all_span}
use Rattle.book.proofs.RestingTurns.{get_or_alike}
use Rattle.book.specs.Marks.{new_in, none}

-- each of these is without a mark, before any of them is marked
all_new : List ℕ → List ℕ → Bool
all_new m [] = true
all_new m (x ∷ l) = eqb (get_or m x 0) 0 && all_new m l

-- a mark more: what stands there is new no longer
new_set : (m : List ℕ) (x y : ℕ) → x < length m → eqb (get_or (set m x 1) y 0) 0 ≡ (not (eqb y x) && eqb (get_or m y 0) 0)
new_set m x y h =
    by_test (eqb y x)
    (λ e. let q : y ≡ x = eqb-true y x e in rw (e, q, get_or-set_same m x 1 0 h))
    (λ e. rw (e, get_or-set_other m x y 1 0 (eqb-false y x e)))

all_set : (m : List ℕ) (x : ℕ) (l : List ℕ) → x < length m → all_new (set m x 1) l ≡ (not (member x l) && all_new m l)
unfolding all_new member
all_set m x [] h = refl
all_set m x (y ∷ l) h = ap₂ (λ (a b : Bool). a && b) (new_set m x y h) (all_set m x l h) ∙ turn (eqb y x) (eqb (get_or m y 0) 0) (member x l) (all_new m l)
  where
    turn : (a b c d : Bool) → ((not a && b) && (not c && d)) ≡ (not (a || c) && (b && d))
    turn true b c d = refl
    turn false true c d = refl
    turn false false true d = refl
    turn false false false d = refl

new_is : (m l : List ℕ) → 127 < length m → all_span l ≡ true → new_in m l ≡ (all_new m l && no_twice l)
unfolding new_in all_new no_twice all_span
new_is m [] h s = refl
new_is m (x ∷ l) h s =
    let b = both_true (leb x 127) (all_span l) s in
    let k : x ≤ 127 = leb-true x 127 b.0 in
    ap (λ (t : Bool). eqb (get_or m x 0) 0 && t)
    (new_is (set m x 1) l (omega (arith, length-set m x 1)) b.1 ∙ ap (λ (t : Bool). t && no_twice l) (all_set m x l (omega arith)))
    ∙ turn (eqb (get_or m x 0) 0) (member x l) (all_new m l) (no_twice l)
  where
    turn : (a b c d : Bool) → (a && ((not b && c) && d)) ≡ ((a && c) && (not b && d))
    turn true true true d = refl
    turn true true false d = refl
    turn true false c d = refl
    turn false b c d = refl

-- where nothing is marked each is new
unmarked : (n : ℕ) (l : List ℕ) → all_new (replicate n 0) l ≡ true
unfolding all_new
unmarked n [] = refl
unmarked n (x ∷ l) = rw (get_or_alike {A = ℕ} n x 0, unmarked n l)

pub new_once : (l : List ℕ) → all_span l ≡ true → new_in none l ≡ no_twice l
new_once l s = new_is none l (lit< tt) s ∙ ap (λ (t : Bool). t && no_twice l) (unmarked 128 l)
