-- Tests over the acknowledgements as a list, as the code makes them, are the tests by which the rules are said.
-- Assumes nothing.
use Prim.Native.Nat.{ℕ, zero, suc}
use mathlib.Core.Path.{◌≡◌, refl}
use mathlib.Core.Bool.{Bool, true, false, ◌&&◌}
use mathlib.Core.List.{[], ◌∷◌}
use lib.ListN.{take, drop}
use native.Mathlib.Omega.{arith}
use lib.Dec.{ltb, eqb}
use borrow.Author.Tests.{lt-ltb}
use Rattle.std.specs.List.{list_all}
use Rattle.ground.specs.Pick.{pick, all_hold}
use Rattle.field.specs.Word.{served}
use Rattle.packet.specs.Acks.{acks_served, acks_blank}
use Rattle.packet.specs.declared.Acks.{Acks}

and_true : (a : Bool) → (a && true) ≡ a
and_true true = refl
and_true false = refl

and_and : (a b c : Bool) → (a && (b && c)) ≡ ((a && b) && c)
and_and true b c = refl
and_and false b c = refl

take_none : (n : ℕ) → take {A = ℕ} n [] ≡ []
take_none zero = refl
take_none (suc n) = refl

drop_none : (n : ℕ) → drop {A = ℕ} n [] ≡ []
drop_none zero = refl
drop_none (suc n) = refl

module _ (t : ℕ → Bool) (x y z : ℕ) where
  -- the test holds of the first n of three
  first_pass : (n : ℕ) → list_all t (take n (x ∷ y ∷ z ∷ [])) ≡ all_hold (pick (ltb 0 n) (t x) true ∷ pick (ltb 1 n) (t y) true ∷ pick (ltb 2 n) (t z) true ∷ [])
  first_pass zero = refl
  first_pass (suc zero) = simp (and_true)
  first_pass (suc (suc zero)) = simp (and_true)
  first_pass (suc (suc (suc n))) =
      let m = suc (suc (suc n)) in
      rw (take_none n, lt-ltb 0 m (omega arith), lt-ltb 1 m (omega arith), lt-ltb 2 m (omega arith), and_true (t z)) (and_and (t x) (t y) (t z))

  -- the test holds of those behind the first n of three
  rest_pass : (n : ℕ) → list_all t (drop n (x ∷ y ∷ z ∷ [])) ≡ all_hold (pick (ltb 0 n) true (t x) ∷ pick (ltb 1 n) true (t y) ∷ pick (ltb 2 n) true (t z) ∷ [])
  rest_pass zero = rw (and_true (t z)) (and_and (t x) (t y) (t z))
  rest_pass (suc zero) = simp (and_true)
  rest_pass (suc (suc zero)) = and_true (t z)
  rest_pass (suc (suc (suc n))) =
      let m = suc (suc (suc n)) in
      rw (drop_none n, lt-ltb 0 m (omega arith), lt-ltb 1 m (omega arith), lt-ltb 2 m (omega arith)) refl

-- each acknowledgement that is there names a channel that is served
pub served_words : (a : Acks) → list_all served (take a.count (a.one ∷ a.two ∷ a.three ∷ [])) ≡ acks_served a
unfolding acks_served
served_words a = first_pass served a.one a.two a.three a.count

-- each word past the count is 0
pub blank_words : (a : Acks) → list_all (λ w. eqb w 0) (drop a.count (a.one ∷ a.two ∷ a.three ∷ [])) ≡ acks_blank a
unfolding acks_blank
blank_words a = rest_pass (λ w. eqb w 0) a.one a.two a.three a.count
