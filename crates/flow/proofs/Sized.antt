-- The sizes of the messages in a window's places stay in their span at each step on the set of places.
-- Assumes nothing.
use Prim.Native.Nat.{ℕ, ◌+◌, ◌/◌, ◌^◌, ◌≤◌, ◌<◌}
use mathlib.Core.Path.{◌≡◌, refl, sym, ap, ◌∙◌}
use mathlib.Core.Bool.{Bool, true, false}
use mathlib.Core.List.{List}
use native.Mathlib.Decide.{dec_lt}
use native.Mathlib.Omega.{arith}
use lib.ListN.{length, get_or, set}
use lib.Seq.{get_or-set_same, get_or-set_other}
use Rattle.ground.specs.Pick.{pick}
use Rattle.ground.proofs.Every.{apart, every_at, every_all}
use Rattle.ground.proofs.Picks.{clash}
use Rattle.channel.specs.Distance.{place_of}
use Rattle.places.specs.Places.{bit_of, with_bit, without_bit}
use Rattle.channel.specs.Sizes.{message_fits, size_of, size_at, sizes_fit}
use Rattle.places.proofs.Bits.{bit_past, bit_dropped, with_other, without_same, without_other}
use Rattle.channel.proofs.Distances.{place_lt, place_once, place_stays}

-- a place of the set lies as far as the mask reaches at most
pub bit_below : (m n i : ℕ) → m < 2 ^ n → bit_of m i ≡ true → i < n
bit_below m n i h t = go (dec_lt i n)
  where
    go : Dec (i < n) → i < n
    go (yes q) = q
    go (no q) = clash (sym (bit_past m n i h (omega arith)) ∙ t)

module _ (w z : ℕ) where
  -- each message of the set has a size that fits
  abbrev pub Sized : List ℕ → ℕ → ℕ → Type 0
  Sized sizes m origin = (i : ℕ) → i < w → bit_of m i ≡ true → message_fits z (size_of w sizes origin i) ≡ true

  module _ (sizes : List ℕ) (m origin : ℕ) where
    -- what the test says
    pub sizes_each : sizes_fit w z sizes m origin ≡ true → Sized sizes m origin
    unfolding sizes_fit
    sizes_each t i l b = let e = every_at (size_at w z sizes m origin) w t i l in rw b at e

    pub sizes_all : Sized sizes m origin → sizes_fit w z sizes m origin ≡ true
    unfolding sizes_fit
    sizes_all f = every_all (size_at w z sizes m origin) w (λ i l. go i l (bit_of m i) refl)
      where
        go : (i : ℕ) → i < w → (b : Bool) → bit_of m i ≡ b → pick b (message_fits z (size_of w sizes origin i)) true ≡ true
        go i l true e = f i l e
        go i l false e = refl

    module _ (f : Sized sizes m origin) (l : origin < w) where
      -- a message more
      pub sized_with : (k size : ℕ) → k < w → w ≤ length sizes → message_fits z size ≡ true → Sized (set sizes (place_of origin k w) size)
          (with_bit m k) origin
      sized_with k size q long s =
          apart (λ i. i < w → bit_of (with_bit m k) i ≡ true → message_fits z (size_of w (set sizes (place_of origin k w) size) origin i) ≡ true) k
          (λ a b. ap (message_fits z) (get_or-set_same sizes (place_of origin k w) size 0 (omega (arith, place_lt w origin k l (omega arith)))) ∙ s)
          (λ i d a b. ap (message_fits z) (get_or-set_other sizes (place_of origin k w) (place_of origin i w) size 0 (λ e. d (place_once w origin i k l a q e)))
          ∙ f i a (sym (with_other m k i d) ∙ b))

      -- a message less
      pub sized_without : (k : ℕ) → Sized sizes (without_bit m k) origin
      sized_without k =
          apart (λ i. i < w → bit_of (without_bit m k) i ≡ true → message_fits z (size_of w sizes origin i) ≡ true) k
          (λ a b. clash (sym (without_same m k) ∙ b))
          (λ i d a b. f i a (sym (without_other m k i d) ∙ b))

      -- the oldest d are no longer among them
      pub sized_dropped : (d : ℕ) → m < 2 ^ w → Sized sizes (m / 2 ^ d) (place_of origin d w)
      sized_dropped d h i a b =
          let t = sym (bit_dropped m d i) ∙ b in
          let q = bit_below m w (d + i) h t in
          ap (λ (p : ℕ). message_fits z (get_or sizes p 0)) (place_stays w origin d i l (omega arith)) ∙ f (d + i) q t
