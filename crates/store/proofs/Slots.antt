-- No two slots of a line's part overlap.
-- Assumes nothing.
use Prim.Native.Nat.{ℕ, ◌+◌, ◌*◌, ◌≤◌, ◌<◌}
use mathlib.Core.Path.{◌≡◌}
use mathlib.Core.Logic.{◌≢◌, ◌⊎◌, inl, inr, ⊎_elim}
use native.Mathlib.Decide.{dec_lt}
use native.Mathlib.Nat.{suc-mul, add-mul, mul-le-mul_right}
use native.Mathlib.Omega.{arith}
use Rattle.store.specs.Store.{region_from, slot_at}
use Rattle.store.specs.declared.Region.{Region}

-- a place further on begins at least a slot's size further on
pub slot_next : (g : Region) (p q : ℕ) → p < q → slot_at g p + g.size ≤ slot_at g q
slot_next g p q l = omega (arith, suc-mul p g.size, mul-le-mul_right g.size l)

-- n octets from b on and m octets from a on have none in common
abbrev pub Apart : ℕ → ℕ → ℕ → ℕ → Type 0
Apart b n a m = (b + n ≤ a) ⊎ (a + m ≤ b)

-- two places of one region
pub places_apart : (g : Region) (p q : ℕ) → p ≢ q → Apart (slot_at g p) g.size (slot_at g q) g.size
places_apart g p q d = go (dec_lt p q)
  where
    go : Dec (p < q) → Apart (slot_at g p) g.size (slot_at g q) g.size
    go (yes l) = inl (slot_next g p q l)
    go (no l) = inr (slot_next g q p (omega arith))

-- the v slots of one region end before another begins
abbrev pub Before : Region → ℕ → Region → Type 0
Before g v k = slot_at g v ≤ k.start

-- slots of two regions, of v and of w slots
pub regions_slots : (g k : Region) (v w p q : ℕ) → p < v → q < w → Before g v k ⊎ Before k w g → Apart (slot_at g p) g.size (slot_at k q) k.size
regions_slots g k v w p q a b = ⊎_elim (λ s. inl (omega (arith, slot_next g p v a))) (λ s. inr (omega (arith, slot_next k q w b)))

-- The slots of two channels, which have v and w of them: channel 2's begin where channel 1's end, and end v + w slots after the start.
module _ (start v w size : ℕ) where
  pub first_end : slot_at (region_from start v size 1) v ≡ start + v * size
  first_end = omega arith

  pub second_end : slot_at (region_from start v size 2) w ≡ start + (v + w) * size
  second_end = omega (arith, add-mul v w size)
