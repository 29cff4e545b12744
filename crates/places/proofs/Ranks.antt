-- How many offsets of a mask lie below one, and which has a given rank.
-- Assumes nothing.
use Prim.Native.Nat.{ℕ, zero, suc, ◌+◌, ◌/◌, ◌%◌, ◌^◌, ◌<◌, ◌≤◌}
use mathlib.Core.Path.{◌≡◌, refl, sym, ap, ap₂, ◌∙◌}
use mathlib.Core.Bool.{Bool, true, false, ◌&&◌}
use mathlib.Core.Logic.{◌⊎◌, inl, inr, ⊎_elim}
use native.Mathlib.Decide.{dec_lt, le_ind}
use native.Mathlib.Nat.{mod-eq_of_lt, mod-lt, lt_of_lt_of_le}
use native.Mathlib.Omega.{arith}
use lib.Count.{ones, ones_cat}
use lib.Dec.{eqb}
use lib.Pow.{pow_pos, pow_mono, mod-pow-add}
use borrow.Author.Tests.{eqb-true, eq-eqb, ne_eqb}
use Rattle.std.specs.Prelude.{Option, Some, None}
use Rattle.ground.specs.Pick.{pick}
use Rattle.ground.proofs.Every.{below_suc}
use Rattle.ground.proofs.Picks.{pick_by, both_true, clash}
use Rattle.places.proofs.Bits.{bit_past}
use Rattle.places.specs.Places.{widest, bit_of, set_below, count_of, has_rank, or_else, lowest, rank_of}

-- one offset more, in the set or not
pub set_in : (m n : ℕ) → bit_of m n ≡ true → set_below m (suc n) ≡ set_below m n + 1
unfolding set_below
set_in m n t = rw t

pub set_out : (m n : ℕ) → bit_of m n ≡ false → set_below m (suc n) ≡ set_below m n
unfolding set_below
set_out m n f = rw f (omega arith)

set_step : (m n : ℕ) → set_below m n ≤ set_below m (suc n)
unfolding set_below
set_step m n = omega arith

pub set_mono : (m i j : ℕ) → i ≤ j → set_below m i ≤ set_below m j
set_mono m i j l = le_ind (λ (k : ℕ). set_below m i ≤ set_below m k) (omega arith) (λ k q e. omega (arith, set_step m k)) j l

-- an offset of the set counts among those below any higher one
pub set_lt : (m i j : ℕ) → bit_of m i ≡ true → i < j → set_below m i < set_below m j
set_lt m i j t l = omega (arith, set_in m i t, set_mono m (suc i) j (omega arith))

-- the count of ones is the count of the offsets
module _ (m : ℕ) where
  bit_ones : (x : ℕ) → ones (x % 2) ≡ pick (eqb (x % 2) 1) 1 0
  unfolding ones
  bit_ones x = ⊎_elim (λ (e : x % 2 ≡ 0). rw e) (λ (e : x % 2 ≡ 1). rw e) (two (x % 2) (omega arith))
    where
      two : (y : ℕ) → y < 2 → (y ≡ 0) ⊎ (y ≡ 1)
      two zero h = inl refl
      two (suc zero) h = inr refl
      two (suc (suc y)) h = absurd (omega arith)

  none_ones : ones 0 ≡ 0
  unfolding ones
  none_ones = refl

  ones_below : (n : ℕ) → ones (m % 2 ^ n) ≡ set_below m n
  unfolding set_below
  ones_below zero = ap ones (zero_of (m % 2 ^ 0) (mod-lt m (pow_pos 0))) ∙ none_ones
    where
      zero_of : (x : ℕ) → x < 1 → x ≡ 0
      zero_of x l = omega arith
  ones_below (suc n) =
      let e : suc n ≡ 1 + n = omega arith in
      ap (λ (k : ℕ). ones (m % 2 ^ k)) e ∙ ap ones (mod-pow-add m 1 n)
      ∙ ones_cat n (m / 2 ^ n % 2) (m % 2 ^ n) (mod-lt m (pow_pos n))
      ∙ ap₂ (λ (x y : ℕ). x + y) (bit_ones (m / 2 ^ n)) (ones_below n)
      ∙ sum (pick (bit_of m n) 1 0) (set_below m n)
    where
      sum : (x y : ℕ) → x + y ≡ y + x
      sum x y = omega arith

  -- where the mask reaches no further, all its offsets are counted
  pub count_below : (n : ℕ) → m < 2 ^ n → ones m ≡ set_below m n
  count_below n l = ap ones (sym (mod-eq_of_lt l)) ∙ ones_below n

-- The lowest number below a bound of which a test holds.
module _ (P : ℕ → Bool) where
  pub lowest_none : (n : ℕ) → ((i : ℕ) → i < n → P i ≡ false) → lowest n P ≡ None
  unfolding lowest
  lowest_none zero f = refl
  lowest_none (suc n) f = rw (lowest_none n (λ i l. f i (omega arith)), f n (omega arith))

  pub lowest_is : (n i : ℕ) → i < n → P i ≡ true → ((j : ℕ) → j < i → P j ≡ false) → lowest n P ≡ Some i
  unfolding lowest
  lowest_is zero i l t f = absurd (omega arith)
  lowest_is (suc n) i l t f =
      below_suc (λ k. P k ≡ true → ((j : ℕ) → j < k → P j ≡ false) → lowest (suc n) P ≡ Some k) n
      (λ k q u g. rw (lowest_is n k q u g)) (λ u g. rw (lowest_none n g, u)) i l t f

  pub lowest_holds : (n i : ℕ) → lowest n P ≡ Some i → (i < n) × (P i ≡ true)
  unfolding lowest
  lowest_holds zero i e = absurd (let z : ◌≡◌ {A = ℕ} 0 1 = cc in omega arith)
  lowest_holds (suc n) i e = go (lowest n P) (lowest_holds n i) e
    where
      go : (p : Option ℕ) → (p ≡ Some i → (i < n) × (P i ≡ true)) → or_else p (pick (P n) (Some n) None) ≡ Some i → (i < suc n) × (P i ≡ true)
      go (Some j) h e = let k = h e in (omega (arith, k.0), k.1)
      go None h e =
          pick_by (λ (q : Option ℕ). q ≡ Some i → (i < suc n) × (P i ≡ true)) (P n)
          (λ t s. let k : n ≡ i = cc in (omega arith, rw k at t)) (λ f s. absurd (let z : ◌≡◌ {A = ℕ} 0 1 = cc in omega arith)) e

-- the r-th offset is in the set, and exactly r offsets of the set lie below it
pub rank_holds : (m r i : ℕ) → rank_of m r ≡ Some i → (i < widest) × (bit_of m i ≡ true) × (set_below m i ≡ r)
unfolding rank_of
rank_holds m r i e =
    let h = lowest_holds (has_rank m r) widest i e in
    let b = both_true (bit_of m i) (eqb (set_below m i) r) h.1 in
    (h.0, b.0, eqb-true _ _ b.1)

-- a lower offset of the set has a lower rank
lower : (m r i : ℕ) → bit_of m i ≡ true → set_below m i ≡ r → (j : ℕ) → j < i → has_rank m r j ≡ false
lower m r i t e j l = go (bit_of m j) refl
  where
    go : (b : Bool) → bit_of m j ≡ b → (b && eqb (set_below m j) r) ≡ false
    go true s = ne_eqb _ _ (λ (q : set_below m j ≡ r). omega (arith, set_lt m j i s l))
    go false s = refl

pub rank_is : (m r i : ℕ) → i < widest → bit_of m i ≡ true → set_below m i ≡ r → rank_of m r ≡ Some i
unfolding rank_of
rank_is m r i l t e = lowest_is (has_rank m r) widest i l (rw (t, eq-eqb _ _ e)) (lower m r i t e)

-- there is none where no more than r offsets are in the set
pub rank_missing : (m r n : ℕ) → m < 2 ^ n → set_below m n ≤ r → rank_of m r ≡ None
unfolding rank_of
rank_missing m r n h l = lowest_none (has_rank m r) widest (λ i q. go i (bit_of m i) refl (dec_lt i n))
  where
    go : (i : ℕ) (b : Bool) → bit_of m i ≡ b → Dec (i < n) → (b && eqb (set_below m i) r) ≡ false
    go i true s (yes q) = ne_eqb _ _ (λ (e : set_below m i ≡ r). omega (arith, set_lt m i n s q))
    go i true s (no q) = clash (sym (bit_past m n i h (omega arith)) ∙ s)
    go i false s q = refl

-- an offset found by its rank is as far as the mask reaches at most
pub rank_below : (m r i n : ℕ) → m < 2 ^ n → rank_of m r ≡ Some i → i < n
rank_below m r i n h e = go (dec_lt i n)
  where
    go : Dec (i < n) → i < n
    go (yes q) = q
    go (no q) = clash (sym (bit_past m n i h (omega arith)) ∙ (rank_holds m r i e).1)

-- every offset that the mask has room for is counted, as far as the mask reaches
pub count_reach : (m n : ℕ) → m < 2 ^ n → n ≤ widest → count_of m ≡ set_below m n
count_reach m n h l = sym (count_below m widest (lt_of_lt_of_le h (pow_mono l))) ∙ count_below m n h

-- a rank below the count is some offset's
pub rank_below_count : (m n r : ℕ) → r < set_below m n → (i : ℕ) × (i < n) × (bit_of m i ≡ true) × (set_below m i ≡ r)
unfolding set_below
rank_below_count m zero r l = absurd (omega arith)
rank_below_count m (suc n) r l = go (dec_lt r (set_below m n)) (rank_below_count m n r) (bit_of m n) refl l
  where
    Found : ℕ → Type 0
    Found k = (i : ℕ) × (i < k) × (bit_of m i ≡ true) × (set_below m i ≡ r)

    go : Dec (r < set_below m n) → (r < set_below m n → Found n) → (b : Bool) → bit_of m n ≡ b → r < set_below m n + pick b 1 0 → Found (suc n)
    go (yes q) f b e l = let i = f q in (i.0, omega (arith, i.1), i.2, i.3)
    go (no q) f true e l = (n, omega arith, e, omega arith)
    go (no q) f false e l = absurd (omega arith)

pub rank_found : (m r : ℕ) → r < count_of m → (i : ℕ) × (rank_of m r ≡ Some i)
rank_found m r l = let f = rank_below_count m widest r l in (f.0, rank_is m r f.0 f.1 f.2 f.3)

-- and every offset of the set has a rank below the count
pub rank_of_lem : (m i : ℕ) → i < widest → bit_of m i ≡ true → (rank_of m (set_below m i) ≡ Some i) × (set_below m i < count_of m)
rank_of_lem m i l t = (rank_is m (set_below m i) i l t refl, set_lt m i widest t l)
