-- What a test of each number below a bound says of one number, and how a loop that met no failure shows it.
-- Assumes nothing.
use Prim.Native.Nat.{ℕ, zero, suc, ◌<◌}
use mathlib.Core.Path.{◌≡◌, refl, sym, subst}
use mathlib.Core.Bool.{Bool, true, false, ◌&&◌}
use mathlib.Core.Logic.{◌≢◌}
use native.Mathlib.Decide.{dec_lt, ℕ_discrete}
use native.Mathlib.Omega.{arith}
use Rattle.ground.specs.Every.{every}
use Rattle.ground.proofs.Picks.{both_true, and_false}

-- by cases: a number below n + 1 is below n, or is n
pub below_suc : (P : ℕ → Type 0) (n : ℕ) → ((i : ℕ) → i < n → P i) → P n → (i : ℕ) → i < suc n → P i
below_suc P n f e i l = go (dec_lt i n)
  where
    go : Dec (i < n) → P i
    go (yes q) = f i q
    go (no q) = let s : n ≡ i = omega arith in subst P s e

-- by cases: a number is k, or it is another
pub apart : (P : ℕ → Type 0) (k : ℕ) → P k → ((n : ℕ) → n ≢ k → P n) → (n : ℕ) → P n
apart P k e f n = go (ℕ_discrete n k)
  where
    go : Dec (n ≡ k) → P n
    go (yes q) = subst P (sym q) e
    go (no q) = f n q

module _ (P : ℕ → Bool) where
  -- what held of each holds of one
  pub every_at : (n : ℕ) → every n P ≡ true → (i : ℕ) → i < n → P i ≡ true
  unfolding every
  every_at zero t i l = absurd (omega arith)
  every_at (suc n) t i l =
      let b = both_true (every n P) (P n) t in
      below_suc (λ j. P j ≡ true) n (every_at n b.0) b.1 i l

  -- what holds of one after another holds of each
  pub every_all : (n : ℕ) → ((i : ℕ) → i < n → P i ≡ true) → every n P ≡ true
  unfolding every
  every_all zero f = refl
  every_all (suc n) f = rw (every_all n (λ i l. f i (omega arith)), f n (omega arith))

  -- one failure decides
  pub every_not : (n i : ℕ) → i < n → P i ≡ false → every n P ≡ false
  unfolding every
  every_not zero i l e = absurd (omega arith)
  every_not (suc n) i l e =
      below_suc (λ j. P j ≡ false → (every n P && P n) ≡ false) n (λ j q f. rw (every_not n j q f)) (λ f. rw f (and_false (every n P))) i l e
