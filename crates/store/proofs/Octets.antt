-- A message put into its slot is read back from there, and every other slot stays as it was.
-- Assumes nothing.
use Prim.Native.Nat.{ℕ, ◌+◌, ◌-◌, ◌≤◌, ◌<◌}
use mathlib.Core.Path.{◌≡◌, sym, ap, ◌∙◌}
use mathlib.Core.List.{List, ◌++◌, append_assoc}
use mathlib.Core.Logic.{◌≢◌, ◌⊎◌, ⊎_elim}
use native.Mathlib.Nat.{le_refl}
use native.Mathlib.Omega.{arith}
use lib.ListN.{length, take, drop, length-drop, take-append-drop}
use lib.Seq.{sets, sets-eq, length-sets, take-append-le, drop-append-le, drop_at, drop-drop, drop-append-add, length-take-le, take-append_seam, take-take}
use Rattle.store.specs.Store.{slot_at, SlotIn, octets_in, slot_octets}
use Rattle.store.specs.declared.Region.{Region}
use Rattle.store.proofs.Slots.{Apart, Before, slot_next, places_apart, regions_slots}

-- Octets x written into a list s from octet b on.
module _ (s : List ℕ) (b : ℕ) (x : List ℕ) (fits : b + length x ≤ length s) where
  pub written : sets s b x ≡ take b s ++ (x ++ drop (b + length x) s)
  written = sets-eq x s b fits ∙ append_assoc (take b s) x (drop (b + length x) s)

  front : length (take b s) ≡ b
  front = length-take-le b s (omega arith)

  -- what is read where they were written
  pub read_same : take (length x) (drop b (sets s b x)) ≡ x
  read_same = rw (written, drop_at (take b s) (x ++ drop (b + length x) s) b front) (take-append_seam x (drop (b + length x) s))

  -- what is read in front of them
  pub read_before : (a n : ℕ) → a + n ≤ b → take n (drop a (sets s b x)) ≡ take n (drop a s)
  read_before a n q = rw written (cut (x ++ drop (b + length x) s) ∙ sym (cut (drop b s)) ∙ ap (λ (l : List ℕ). take n (drop a l))
      (take-append-drop b s))
    where
      cut : (y : List ℕ) → take n (drop a (take b s ++ y)) ≡ take n (drop a (take b s))
      cut y = rw (drop-append-le a (take b s) y (omega (arith, front)))
          (take-append-le n (drop a (take b s)) y (omega (arith, front, length-drop a (take b s))))

  -- all that is behind them
  pub behind : (a : ℕ) → b + length x ≤ a → drop a (sets s b x) ≡ drop a s
  behind a q =
      let k : ℕ = a - (b + length x) in
      let e : a ≡ length (take b s) + (length x + k) = omega (arith, front) in
      let f : b + length x + k ≡ a = omega arith in
      rw written (ap (λ (j : ℕ). drop j (take b s ++ (x ++ drop (b + length x) s))) e ∙ drop-append-add (take b s)
      (x ++ drop (b + length x) s) (length x + k)
      ∙ drop-append-add x (drop (b + length x) s) k ∙ drop-drop k (b + length x) s ∙ ap (λ (j : ℕ). drop j s) f)

-- A message put into the slot of place p.
module _ (s : List ℕ) (g : Region) (p : ℕ) (x : List ℕ) (r : SlotIn g p (length s)) (small : length x ≤ g.size) where
  in_store : slot_at g p + length x ≤ length s
  in_store = omega (arith, r.inside)

  -- it is what the slot holds
  pub put_same : octets_in (sets s (slot_at g p) x) g p (length x) ≡ x
  put_same = read_same s (slot_at g p) x in_store

  -- a slot that has none of its octets holds what it held
  pub put_other : (k : Region) (q n : ℕ) → n ≤ k.size → Apart (slot_at g p) g.size (slot_at k q) k.size
      → octets_in (sets s (slot_at g p) x) k q n ≡ octets_in s k q n
  put_other k q n l =
      ⊎_elim (λ a. ap (take n) (behind s (slot_at g p) x in_store (slot_at k q) (omega arith)))
      (λ a. read_before s (slot_at g p) x in_store (slot_at k q) n (omega arith))

  pub put_length : length (sets s (slot_at g p) x) ≡ length s
  put_length = length-sets s (slot_at g p) x

-- The v slots of a region as a function of the place: what the two sides of a channel are read with.
module _ (s : List ℕ) (g : Region) (v : ℕ) (inside : slot_at g v ≤ length s) where
  -- a slot has as many octets as the largest message
  pub slot_length : (q : ℕ) → q < v → length (slot_octets s g q) ≡ g.size
  slot_length q l = length-take-le g.size (drop (slot_at g q) s) (omega (arith, slot_next g q v l, length-drop (slot_at g q) s))

  -- the first n of them
  pub slot_front : (q n : ℕ) → n ≤ g.size → take n (slot_octets s g q) ≡ octets_in s g q n
  slot_front q n l = take-take n g.size (drop (slot_at g q) s) l

  module _ (p : ℕ) (x : List ℕ) (placed : p < v) (small : length x ≤ g.size) where
    in_slot : SlotIn g p (length s)
    in_slot = record { inside = omega (arith, slot_next g p v placed) }

    -- a message put into one of them lies at its front
    pub slot_put : take (length x) (slot_octets (sets s (slot_at g p) x) g p) ≡ x
    slot_put = take-take (length x) g.size (drop (slot_at g p) (sets s (slot_at g p) x)) small ∙ put_same s g p x in_slot small

    -- and each other is as it was, in this region and in any other
    pub slot_kept : (q : ℕ) → q ≢ p → slot_octets (sets s (slot_at g p) x) g q ≡ slot_octets s g q
    slot_kept q d = put_other s g p x in_slot small g q g.size (le_refl g.size) (places_apart g p q (λ e. d (sym e)))

    pub region_kept : (k : Region) (w : ℕ) → Before g v k ⊎ Before k w g → (q : ℕ) → q < w → slot_octets (sets s (slot_at g p) x) k q ≡ slot_octets s k q
    region_kept k w a q l = put_other s g p x in_slot small k q k.size (le_refl k.size) (regions_slots g k v w p q placed l a)
