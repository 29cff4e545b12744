-- Facts that hold of each of a list.
-- Assumes nothing.
use Prim.Native.Nat.{ℕ, zero, suc}
use mathlib.Core.Path.{◌≡◌, refl, sym, ap, subst}
use mathlib.Core.List.{List, [], ◌∷◌, ◌++◌, map, Memᴰ}
use lib.ListN.{take, drop}
use Rattle.promise.specs.Run.{Each, none, also}

module _ {A : Type 0} {P : A → Type 0} where
  pub each_at : {a : A} {l : List A} → Memᴰ a l → Each P l → P a
  each_at (Memᴰ.head e) (also p h) = subst P (sym e) p
  each_at (Memᴰ.tail m) (also p h) = each_at m h

  pub each_append : {l k : List A} → Each P l → Each P k → Each P (l ++ k)
  each_append none k = k
  each_append (also p h) k = also p (each_append h k)

  pub each_take : (n : ℕ) {l : List A} → Each P l → Each P (take n l)
  each_take zero h = none
  each_take (suc n) none = none
  each_take (suc n) (also p h) = also p (each_take n h)

  pub each_drop : (n : ℕ) {l : List A} → Each P l → Each P (drop n l)
  each_drop zero h = h
  each_drop (suc n) none = none
  each_drop (suc n) (also p h) = each_drop n h

pub each_map : {A : Type 0} {P Q : A → Type 0} → ((a : A) → P a → Q a) → {l : List A} → Each P l → Each Q l
each_map f none = none
each_map f (also {a = a} p h) = also (f a p) (each_map f h)

-- the first of a list, and the rest, each as another thing
pub take_map : {A B : Type 0} (f : A → B) (n : ℕ) (l : List A) → take n (map f l) ≡ map f (take n l)
take_map f zero l = refl
take_map f (suc n) [] = refl
take_map {B = B} f (suc n) (x ∷ l) = ap (λ (m : List B). f x ∷ m) (take_map f n l)

pub drop_map : {A B : Type 0} (f : A → B) (n : ℕ) (l : List A) → drop n (map f l) ≡ map f (drop n l)
drop_map f zero l = refl
drop_map f (suc n) [] = refl
drop_map f (suc n) (x ∷ l) = drop_map f n l
