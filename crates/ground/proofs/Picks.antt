-- What follows from a pick, and from tests taken together.
-- Assumes nothing.
use Prim.Native.Nat.{ℕ, ◌<◌, ◌≤◌}
use mathlib.Core.Path.{◌≡◌, refl}
use mathlib.Core.Bool.{Bool, true, false, ◌&&◌}
use mathlib.Core.List.{List, [], ◌∷◌}
use native.Mathlib.Omega.{arith}
use lib.Dec.{ltb}
use borrow.Author.Tests.{ltb-true, ltb-false}
use Rattle.ground.specs.Pick.{pick, and_all, all_hold}

-- the two outcomes of a test are not one
pub clash {ℓ} : {A : Type ℓ} → false ≡ true → A
clash e = absurd (let z : ◌≡◌ {A = ℕ} 0 1 = cc in omega arith)

-- what holds of both choices, each with the test's outcome, holds of the pick
pub pick_by {ℓ κ} : {A : Type ℓ} (P : A → Type κ) (t : Bool) {a b : A} → (t ≡ true → P a) → (t ≡ false → P b) → P (pick t a b)
pick_by P true f g = f refl
pick_by P false f g = g refl

-- the same where the test is an order of two numbers
pub pick_lt {ℓ κ} : {A : Type ℓ} (P : A → Type κ) (m n : ℕ) {a b : A} → (m < n → P a) → (n ≤ m → P b) → P (pick (ltb m n) a b)
pick_lt P m n f g = pick_by P (ltb m n) (λ t. f (ltb-true m n t)) (λ t. g (ltb-false m n t))

pub and_false : (a : Bool) → (a && false) ≡ false
and_false true = refl
and_false false = refl

pub both_true : (a b : Bool) → (a && b) ≡ true → (a ≡ true) × (b ≡ true)
both_true true b e = (refl, e)
both_true false b e = clash e

-- each of the tests holds
abbrev pub Each : List Bool → Type 0
Each [] = Unit
Each (b ∷ bs) = (b ≡ true) × Each bs

each_from : (a : Bool) (bs : List Bool) → and_all a bs ≡ true → (a ≡ true) × Each bs
each_from a [] e = (e, tt)
each_from a (b ∷ bs) e =
    let r = each_from (a && b) bs e in
    let s = both_true a b r.0 in
    (s.0, (s.1, r.1))

-- tests that hold together hold each
pub each : (bs : List Bool) → all_hold bs ≡ true → Each bs
each bs e = (each_from true bs e).1

-- and the other way round
together_from : (bs : List Bool) → Each bs → and_all true bs ≡ true
together_from [] e = refl
together_from (b ∷ bs) e = rw e.0 (together_from bs e.1)

pub together : (bs : List Bool) → Each bs → all_hold bs ≡ true
together bs e = together_from bs e
