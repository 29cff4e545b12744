-- The slots of a line's part: those of different ways and channels have no octet in common, and all lie in the part.
-- Assumes nothing.
use Prim.Native.Nat.{ℕ, zero, suc, ◌+◌, ◌*◌, ◌≤◌, ◌<◌}
use mathlib.Core.Path.{◌≡◌, refl, sym, ◌∙◌}
use mathlib.Core.Logic.{◌≢◌, ◌⊎◌, inl, inr, ⊎_elim}
use native.Mathlib.Nat.{add-mul}
use native.Mathlib.Omega.{arith}
use Rattle.store.specs.Store.{slot_at, SlotIn}
use Rattle.store.specs.declared.Region.{Region}
use Rattle.store.specs.declared.Way.{Way}
use Rattle.store.specs.declared.Way.TheVariants.{Sending, Receiving}
use Rattle.store.proofs.Slots.{slot_next, Before, first_end, second_end}
use Rattle.line.specs.Part.{slot_count, slot_size, way_length, part_length, way_start, region_of}
use Rattle.line.specs.declared.Line.{Line}

-- Whose a region is: a way's, and a channel's that has slots.
pub record Side : Type 0 where
  pub way : Way
  pub channel : ℕ

pub record Served (x : Side) : Type 0 where
  pub low : 1 ≤ x.channel
  pub high : x.channel ≤ 2

module _ (l : Line) where
  abbrev pub region : Side → Region
  region x = region_of l x.way x.channel

  abbrev pub slots : Side → ℕ
  slots x = slot_count l x.way x.channel

  -- a slot holds the largest message
  pub region_size : (way : Way) (channel : ℕ) → (region_of l way channel).size ≡ slot_size l way
  region_size way channel = refl

  -- what a way has begins here, the slots of channel 2 in its middle, and it ends here
  abbrev middle : Way → ℕ
  middle way = way_start l way + slot_count l way 1 * slot_size l way

  abbrev way_end : Way → ℕ
  way_end way = way_start l way + way_length l way

  middle_in : (way : Way) → middle way ≤ way_end way
  middle_in way = omega (arith, add-mul (slot_count l way 1) (slot_count l way 2) (slot_size l way))

  way_in : (way : Way) → way_end way ≤ part_length l
  way_in Sending = omega arith
  way_in Receiving = omega arith

  ways_apart : way_end Sending ≤ way_start l Receiving
  ways_apart = omega arith

  abbrev Lies : Side → Type 0
  Lies x =
      ((x.channel ≡ 1) × ((region x).start ≡ way_start l x.way) × (slot_at (region x) (slots x) ≡ middle x.way))
      ⊎ ((x.channel ≡ 2) × ((region x).start ≡ middle x.way) × (slot_at (region x) (slots x) ≡ way_end x.way))

  lies : (x : Side) → Served x → Lies x
  lies x s = go x.channel s.low s.high
    where
      go : (c : ℕ) → 1 ≤ c → c ≤ 2 → Lies (record { way = x.way; channel = c })
      go zero a b = absurd (omega arith)
      go (suc zero) a b = inl (refl, refl, first_end (way_start l x.way) (slot_count l x.way 1) (slot_count l x.way 2) (slot_size l x.way))
      go (suc (suc zero)) a b = inr (refl, refl, second_end (way_start l x.way) (slot_count l x.way 1) (slot_count l x.way 2) (slot_size l x.way))
      go (suc (suc (suc c))) a b = absurd (omega arith)

  starts : (x : Side) → Served x → way_start l x.way ≤ (region x).start
  starts x s = ⊎_elim (λ e. omega (arith, e.1)) (λ e. omega (arith, e.1)) (lies x s)

  ends : (x : Side) → Served x → slot_at (region x) (slots x) ≤ way_end x.way
  ends x s = ⊎_elim (λ e. omega (arith, e.2, middle_in x.way)) (λ e. omega (arith, e.2)) (lies x s)

  -- a region lies in the part
  pub region_end : (x : Side) → Served x → slot_at (region x) (slots x) ≤ part_length l
  region_end x s = omega (arith, ends x s, way_in x.way)

  -- so the slot of a place is in any part that is long enough
  pub slot_there : (x : Side) → Served x → (p n : ℕ) → p < slots x → part_length l ≤ n → SlotIn (region x) p n
  slot_there x s p n a r = record { inside = omega (arith, slot_next (region x) p (slots x) a, region_end x s) }

  -- regions of two ways or of two channels
  abbrev Clear : Side → Side → Type 0
  Clear x y = Before (region x) (slots x) (region y) ⊎ Before (region y) (slots y) (region x)

  -- of one way, where the channels differ
  channels_apart : (way : Way) (c d : ℕ) → Served (record { way = way; channel = c }) → Served (record { way = way; channel = d }) → c ≢ d
      → Clear (record { way = way; channel = c }) (record { way = way; channel = d })
  channels_apart way c d s t n =
      ⊎_elim (λ p. ⊎_elim (λ q. absurd (n (p.0 ∙ sym q.0))) (λ q. inl (omega (arith, p.2, q.1))) (lies (record { way = way; channel = d }) t))
      (λ p. ⊎_elim (λ q. inr (omega (arith, p.1, q.2))) (λ q. absurd (n (p.0 ∙ sym q.0))) (lies (record { way = way; channel = d }) t))
      (lies (record { way = way; channel = c }) s)

  both_ways : (v w : Way) (c d : ℕ) → Served (record { way = v; channel = c }) → Served (record { way = w; channel = d })
      → ◌≢◌ {A = Side} (record { way = v; channel = c }) (record { way = w; channel = d }) → Clear (record { way = v; channel = c }) (record { way = w; channel = d })
  both_ways Sending Sending c d s t n = channels_apart Sending c d s t (λ e. n (λ i. record { way = Sending; channel = e i }))
  both_ways Sending Receiving c d s t n = inl (omega (arith, ends _ s, starts _ t, ways_apart))
  both_ways Receiving Sending c d s t n = inr (omega (arith, ends _ t, starts _ s, ways_apart))
  both_ways Receiving Receiving c d s t n = channels_apart Receiving c d s t (λ e. n (λ i. record { way = Receiving; channel = e i }))

  pub regions_apart : (x y : Side) → Served x → Served y → x ≢ y → Clear x y
  regions_apart x y = both_ways x.way y.way x.channel y.channel
