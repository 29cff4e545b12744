-- A set of offsets as a mask, whose bit i is set where offset i is in the set. All that is said of a mask is said of a number. What a set is
-- made of is closed: above, `mask_set` is all that is known of `mask_of` and `set_of`, and only a run that is computed opens them. So a wider
-- mask changes these two and `widest`, the methods and their proofs, and nothing above.
-- Assumes nothing.
use Rattle.std.specs.Prelude.{ℕ, zero, suc, ◌+◌, ◌-◌, ◌/◌, ◌%◌, ◌^◌, Bool, ◌&&◌, eqb, Option, Some, None}
use Rattle.ground.specs.Pick.{pick}
use Rattle.places.specs.declared.Places.{Places}

-- the mask of a set, and the set of a mask
unfoldable pub mask_of : Places → ℕ
mask_of p = p.bits

unfoldable pub set_of : ℕ → Places
set_of m = record { bits = m }

-- how many offsets a mask has room for
abbrev pub widest : ℕ
widest = 32

-- offset i is in the set
abbrev pub bit_of : ℕ → ℕ → Bool
bit_of m i = eqb (m / 2 ^ i % 2) 1

-- the set with offset i in it
abbrev pub with_bit : ℕ → ℕ → ℕ
with_bit m i = pick (bit_of m i) m (m + 2 ^ i)

-- the set without offset i
abbrev pub without_bit : ℕ → ℕ → ℕ
without_bit m i = pick (bit_of m i) (m - 2 ^ i) m

-- every offset of the set is below n: nothing is left once n offsets are dropped
abbrev pub within : ℕ → ℕ → Bool
within n m = eqb (m / 2 ^ n) 0

-- how many offsets of the set lie below n
unfoldable pub set_below : ℕ → ℕ → ℕ
set_below m zero = 0
set_below m (suc n) = set_below m n + pick (bit_of m n) 1 0

-- how many offsets are in the set
abbrev pub count_of : ℕ → ℕ
count_of m = set_below m widest

-- offset i is in the set and exactly r offsets of the set lie below it
abbrev pub has_rank : ℕ → ℕ → ℕ → Bool
has_rank m r i = bit_of m i && eqb (set_below m i) r

-- the first offset if there is one, else the second
abbrev pub or_else : Option ℕ → Option ℕ → Option ℕ
or_else (Some i) q = Some i
or_else None q = q

-- the lowest offset below n of which the test holds
unfoldable pub lowest : ℕ → (ℕ → Bool) → Option ℕ
lowest zero P = None
lowest (suc n) P = or_else (lowest n P) (pick (P n) (Some n) None)

-- the r-th offset of the set, the lowest being 0
unfoldable pub rank_of : ℕ → ℕ → Option ℕ
rank_of m r = lowest widest (has_rank m r)
