-- The message that is i past the oldest, at each step on the set of places and their slots: the one named changes, each other stays.
-- Assumes nothing.
use Prim.Native.Nat.{ℕ, ◌+◌, ◌/◌, ◌^◌, ◌≤◌, ◌<◌}
use mathlib.Core.Path.{◌≡◌, ap, ap₂, ◌∙◌}
use mathlib.Core.Bool.{Bool, true, false}
use mathlib.Core.List.{List, [], ◌∷◌}
use mathlib.Core.Logic.{◌≢◌}
use native.Mathlib.Decide.{dec_lt}
use native.Mathlib.Omega.{arith}
use lib.Dec.{ltb}
use lib.ListN.{length, get_or, set, take}
use lib.Seq.{get_or-set_same, get_or-set_other, length-take-le}
use borrow.Author.Tests.{ltb-true, leb-true}
use Rattle.ground.specs.Pick.{pick}
use Rattle.ground.proofs.Picks.{both_true}
use Rattle.channel.specs.Distance.{place_of}
use Rattle.flow.specs.Flow.{Message, Full}
use Rattle.places.specs.Places.{bit_of, with_bit, without_bit}
use Rattle.flow.specs.View.{Slots, message_at, message_of, PutAt, SlotsHold}
use Rattle.places.proofs.Bits.{bit_past, bit_dropped, with_same, with_other, without_same, without_other}
use Rattle.channel.proofs.Distances.{place_lt, place_once, place_stays}
use Rattle.flow.proofs.Sized.{Sized}

-- a list that is not empty is a message
pub full_of : (x : Message) → 0 < length x → Full x
full_of [] l = absurd (omega arith)
full_of (a ∷ x) l = tt

module _ (w : ℕ) (slot : Slots) (sizes : List ℕ) (m origin : ℕ) where
  -- a place that is in the set, and one that is not
  pub message_in : (i : ℕ) → bit_of m i ≡ true → message_of w slot sizes m origin i ≡ message_at slot sizes (place_of origin i w)
  message_in i t = rw t

  pub message_none : (i : ℕ) → bit_of m i ≡ false → message_of w slot sizes m origin i ≡ []
  message_none i f = rw f

  -- past the mask's reach there is none
  pub message_past : (i : ℕ) → m < 2 ^ w → w ≤ i → message_of w slot sizes m origin i ≡ []
  message_past i h l = message_none i (bit_past m w i h l)

  -- one of the set has octets where its size fits its slot
  pub message_full : (z : ℕ) → origin < w → Sized w z sizes m origin → SlotsHold w z slot → (i : ℕ) → i < w → bit_of m i ≡ true
      → Full (message_of w slot sizes m origin i)
  message_full z l f g i a t =
      let b = both_true (ltb 0 (get_or sizes (place_of origin i w) 0)) _ (f i a t) in
      let some : 0 < get_or sizes (place_of origin i w) 0 = ltb-true _ _ b.0 in
      let most : get_or sizes (place_of origin i w) 0 ≤ z = leb-true _ _ b.1 in
      let wide = g (place_of origin i w) (place_lt w origin i l (omega arith)) in
      rw (message_in i t) (full_of (message_at slot sizes (place_of origin i w))
      (omega (arith, length-take-le (get_or sizes (place_of origin i w) 0) (slot (place_of origin i w)) (omega arith))))

  -- one is left out
  pub message_without : (k : ℕ) → message_of w slot sizes (without_bit m k) origin k ≡ []
  message_without k = rw (without_same m k)

  pub message_kept : (k i : ℕ) → i ≢ k → message_of w slot sizes (without_bit m k) origin i ≡ message_of w slot sizes m origin i
  message_kept k i d = rw (without_other m k i d)

  module _ (l : origin < w) where
    -- one is put in
    module _ (after : Slots) (k : ℕ) (x : Message) (q : k < w) (u : PutAt w slot after (place_of origin k w) x) where
      pub message_new : w ≤ length sizes → message_of w after (set sizes (place_of origin k w) (length x)) (with_bit m k) origin k ≡ x
      message_new long =
          rw (with_same m k, get_or-set_same sizes (place_of origin k w) (length x) 0 (omega (arith, place_lt w origin k l (omega arith)))) u.here

      pub message_old : (i : ℕ) → i < w → i ≢ k → message_of w after (set sizes (place_of origin k w) (length x))
          (with_bit m k) origin i ≡ message_of w slot sizes m origin i
      message_old i a d =
          let e : place_of origin i w ≢ place_of origin k w = λ s. d (place_once w origin i k l a q s) in
          ap (λ (b : Bool). pick b (message_at after (set sizes (place_of origin k w) (length x)) (place_of origin i w)) []) (with_other m k i d)
          ∙ ap (λ (y : Message). pick (bit_of m i) y [])
          (ap₂ (λ (n : ℕ) (y : List ℕ). take n y) (get_or-set_other sizes (place_of origin k w) (place_of origin i w) (length x) 0 e)
          (u.others (place_of origin i w) (place_lt w origin i l (omega arith)) e))

    -- the oldest d are gone: each other stays where it is
    pub message_moved : (d i : ℕ) → m < 2 ^ w → message_of w slot sizes (m / 2 ^ d) (place_of origin d w) i ≡ message_of w slot sizes m origin (d + i)
    message_moved d i h = go (dec_lt w (d + i))
      where
        go : Dec (w < d + i) → message_of w slot sizes (m / 2 ^ d) (place_of origin d w) i ≡ message_of w slot sizes m origin (d + i)
        go (yes q) = rw (bit_dropped m d i, bit_past m w (d + i) h (omega arith))
        go (no q) =
            ap₂ (λ (b : Bool) (p : ℕ). pick b (message_at slot sizes p) []) (bit_dropped m d i) (place_stays w origin d i l (omega arith))
