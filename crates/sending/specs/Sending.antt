-- The sending side of a channel: S is `taken`, h is `base`, message h + i is held where offset i is in `unacked`.
-- Assumes nothing.
use Rattle.std.specs.Prelude.{ℕ, ◌+◌, ◌-◌, ◌/◌, ◌^◌, ◌≤◌, ◌<◌, Bool, ◌&&◌, List, [], ◌∷◌, ltb, leb, get_or, set, replicate, Option, Some, None}
use Rattle.ground.specs.Pick.{pick, all_hold}
use Rattle.ground.specs.Refusal.{Test, must}
use Rattle.ground.specs.declared.Refusal.TheVariants.{FULL, SPENT}
use Rattle.channel.specs.Channel.{cap}
use Rattle.channel.specs.Distance.{dist, place_of}
use Rattle.places.specs.Places.{mask_of, set_of, widest, bit_of, with_bit, without_bit, within, count_of, rank_of}
use Rattle.channel.specs.Sizes.{sizes_fit}
use Rattle.sending.specs.declared.Sending.{Sending}
use Rattle.sending.specs.declared.Acknowledged.{Acknowledged}
use Rattle.sending.specs.declared.Held.{Held}

-- S and h are 0 and nothing is held (RULES 9.12); message 0 has place 0 (RULES 6.5)
abbrev pub fresh_sending : Sending
fresh_sending = record { taken = 0; base = 0; unacked = set_of 0; origin = 0; sizes = replicate widest 0 }

-- how many messages are under way: S - h
abbrev pub under_way : Sending → ℕ
under_way s = s.taken - s.base

-- "A message is taken only if S - h is below the window" (RULES 5.1), and at most 16,777,215 are (RULES 5.12): SPENT, FULL (RULES 14.3)
abbrev pub take_tests : ℕ → Sending → List Test
take_tests w s = must (ltb s.taken cap) SPENT ∷ must (ltb (under_way s) w) FULL ∷ []

-- the place of the next message taken, which is message S (RULES 6.5)
abbrev pub next_place : ℕ → Sending → ℕ
next_place w s = place_of s.origin (under_way s) w

-- message S is taken: it is held, and has `size` octets (RULES 5.1)
unfoldable pub took_one : ℕ → Sending → ℕ → Sending
took_one w s size = record {
  taken = s.taken + 1;
  base = s.base;
  unacked = set_of (with_bit (mask_of s.unacked) (under_way s));
  origin = s.origin;
  sizes = set s.sizes (next_place w s) size;
}

-- h moves on by d (RULES 4.3), and "Messages below h are dropped too" (RULES 4.4)
abbrev pub moved_by : ℕ → Sending → ℕ → Sending
moved_by w s d = record {
  taken = s.taken;
  base = s.base + d;
  unacked = set_of (mask_of s.unacked / 2 ^ d);
  origin = place_of s.origin d w;
  sizes = s.sizes;
}

-- "Base b against the last base heard h": let d = (b - h) mod 16,384; if 0 < d <= S - h, then h moves on by d (RULES 4.3)
unfoldable pub heard_base : ℕ → Sending → ℕ → Sending
heard_base w s b = let d = dist b s.base in pick (ltb 0 d && leb d (under_way s)) (moved_by w s d) s

-- message h + d is dropped
abbrev pub dropped_at : Sending → ℕ → Sending
dropped_at s d = record {
  taken = s.taken;
  base = s.base;
  unacked = set_of (without_bit (mask_of s.unacked) d);
  origin = s.origin;
  sizes = s.sizes;
}

-- "An acknowledged number k on its channel": if (k - h) mod 16,384 < S - h, that message is acknowledged and dropped (RULES 4.5)
unfoldable pub acked_by : Sending → ℕ → Sending
acked_by s k = let d = dist k s.base in pick (ltb d (under_way s)) (dropped_at s d) s

-- number k names a message that was taken, is not below h, and is not acknowledged yet (RULES 4.5, RULES 4.6)
unfoldable pub named_by : Sending → ℕ → Bool
named_by s k = let d = dist k s.base in ltb d (under_way s) && bit_of (mask_of s.unacked) d

abbrev pub acknowledged_by : Sending → ℕ → Acknowledged
acknowledged_by s k = record { side = acked_by s k; named = named_by s k }

-- leaving modem relay "empties its stores": nothing is held any more; "S, h and R stay" (RULES 9.14)
unfoldable pub emptied_sending : Sending → Sending
emptied_sending s = record { taken = s.taken; base = s.base; unacked = set_of 0; origin = s.origin; sizes = s.sizes }

-- "A report says how many messages are held there unacknowledged" (RULES 5.10)
abbrev pub held_count : Sending → ℕ
held_count s = count_of (mask_of s.unacked)

-- message h + i with its place and size
abbrev pub held_at : ℕ → Sending → Option ℕ → Option Held
held_at w s (Some i) = Some (record { number = s.base + i; place = place_of s.origin i w; size = get_or s.sizes (place_of s.origin i w) 0 })
held_at w s None = None

-- "by its rank among the unacknowledged ones of its channel, oldest 0" (RULES 5.4)
unfoldable pub held_of : ℕ → Sending → ℕ → Option Held
held_of w s rank = held_at w s (rank_of (mask_of s.unacked) rank)

-- What BOOK asks: S is at most 16,777,215 (RULES 15.8); not "h over S" (RULES 15.10), "or S - h over the window" (RULES 15.11); the place
-- of message h is below the window (RULES 15.12); not "a held message outside h to S - 1" (RULES 15.13), "of 0 or over 132 octets"
-- (RULES 15.15)
abbrev pub sending_tests : ℕ → ℕ → Sending → List Bool
sending_tests w z s =
    leb s.taken cap
    ∷ leb s.base s.taken
    ∷ leb (under_way s) w
    ∷ ltb s.origin w
    ∷ within (under_way s) (mask_of s.unacked)
    ∷ sizes_fit w z s.sizes (mask_of s.unacked) s.origin
    ∷ []

unfoldable pub sending_fits : ℕ → ℕ → Sending → Bool
sending_fits w z s = all_hold (sending_tests w z s)

-- what the steps ask of a side, all of it among what BOOK asks, and of its window: that a mask has room for it
pub record SendingOk (w : ℕ) (s : Sending) : Type 0 where
  pub capped : s.taken ≤ cap
  pub ordered : s.base ≤ s.taken
  pub windowed : s.taken - s.base ≤ w
  pub placed : s.origin < w
  pub masked : mask_of s.unacked < 2 ^ (s.taken - s.base)
  pub narrow : w ≤ widest
