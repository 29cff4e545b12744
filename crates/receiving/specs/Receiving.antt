-- The receiving side of a channel: R is `next`, message R + i is stored where offset i is in `stored`.
-- Assumes nothing.
use Rattle.std.specs.Prelude.{ℕ, ◌+◌, ◌/◌, ◌^◌, ◌≤◌, ◌<◌, Bool, List, [], ◌∷◌, ltb, leb, get_or, set, replicate}
use Rattle.ground.specs.Pick.{pick, all_hold}
use Rattle.ground.specs.Refusal.{Test, must}
use Rattle.ground.specs.declared.Refusal.TheVariants.{NOTHING, SPENT}
use Rattle.channel.specs.Channel.{cap}
use Rattle.channel.specs.Distance.{dist, place_of}
use Rattle.places.specs.Places.{mask_of, set_of, widest, bit_of, with_bit, within}
use Rattle.channel.specs.Sizes.{sizes_fit}
use Rattle.receiving.specs.declared.Receiving.{Receiving}
use Rattle.receiving.specs.declared.Arrival.{Arrival}
use Rattle.receiving.specs.declared.Arrival.TheVariants.{Stored, There, Old}

-- R is 0 and nothing is stored (RULES 9.12); message 0 has place 0 (RULES 6.5)
abbrev pub fresh_receiving : Receiving
fresh_receiving = record { next = 0; stored = set_of 0; origin = 0; sizes = replicate widest 0 }

-- "Payload number n against the next to hand out R": let d = (n - R) mod 16,384; below the window it is stored (RULES 4.7), unless its
-- place is already filled (RULES 4.8); at or past the window it is old (RULES 4.9)
unfoldable pub arrival_of : ℕ → Receiving → ℕ → Arrival
arrival_of w r n = let d = dist n r.next in pick (ltb d w) (pick (bit_of (mask_of r.stored) d) There (Stored d)) Old

-- the place of message R + d (RULES 6.5)
abbrev pub arrival_place : ℕ → Receiving → ℕ → ℕ
arrival_place w r d = place_of r.origin d w

-- message R + d is stored, of `size` octets (RULES 4.7)
unfoldable pub stored_at : ℕ → Receiving → ℕ → ℕ → Receiving
stored_at w r d size = record {
  next = r.next;
  stored = set_of (with_bit (mask_of r.stored) d);
  origin = r.origin;
  sizes = set r.sizes (arrival_place w r d) size;
}

-- the side once a number has arrived with `size` octets (RULES 4.7, RULES 4.8, RULES 4.9)
abbrev pub arrived_as : ℕ → Receiving → Arrival → ℕ → Receiving
arrived_as w r (Stored d) size = stored_at w r d size
arrived_as w r There size = r
arrived_as w r Old size = r

-- a channel "hands out at most as many" (RULES 5.12); "message R not stored" (RULES 13.10): SPENT, NOTHING (RULES 14.5)
abbrev pub hand_tests : Receiving → List Test
hand_tests r = must (ltb r.next cap) SPENT ∷ must (bit_of (mask_of r.stored) 0) NOTHING ∷ []

-- the size of message R
abbrev pub next_size : Receiving → ℕ
next_size r = get_or r.sizes r.origin 0

-- "Handing out gives message R and moves R on" (RULES 5.8)
unfoldable pub handed_out : ℕ → Receiving → Receiving
handed_out w r = record {
  next = r.next + 1;
  stored = set_of (mask_of r.stored / 2 ^ 1);
  origin = place_of r.origin 1 w;
  sizes = r.sizes;
}

-- leaving modem relay "empties its stores": nothing is stored any more; "S, h and R stay" (RULES 9.14)
unfoldable pub emptied_receiving : Receiving → Receiving
emptied_receiving r = record { next = r.next; stored = set_of 0; origin = r.origin; sizes = r.sizes }

-- What BOOK asks: R is at most 16,777,215 (RULES 15.9); the place of message R is below the window (RULES 15.12); not "a stored one
-- outside R to R + window - 1" (RULES 15.14), "of 0 or over 132 octets" (RULES 15.15)
abbrev pub receiving_tests : ℕ → ℕ → Receiving → List Bool
receiving_tests w z r =
    leb r.next cap
    ∷ ltb r.origin w
    ∷ within w (mask_of r.stored)
    ∷ sizes_fit w z r.sizes (mask_of r.stored) r.origin
    ∷ []

unfoldable pub receiving_fits : ℕ → ℕ → Receiving → Bool
receiving_fits w z r = all_hold (receiving_tests w z r)

-- what the steps ask of a side, all of it among what BOOK asks, and of its window: that a mask has room for it
pub record ReceivingOk (w : ℕ) (r : Receiving) : Type 0 where
  pub capped : r.next ≤ cap
  pub placed : r.origin < w
  pub masked : mask_of r.stored < 2 ^ w
  pub narrow : w ≤ widest
