-- The two sides seen with full numbers: the octets of message n where its place is in the set, else none. What lies in a place's slot
-- comes from outside, as a function of the place.
-- Assumes nothing.
use Rattle.std.specs.Prelude.{ℕ, ◌-◌, ◌≤◌, ◌<◌, ◌≡◌, ◌≢◌, List, [], length, get_or, take}
use Rattle.ground.specs.Pick.{pick}
use Rattle.channel.specs.Distance.{place_of}
use Rattle.flow.specs.Flow.{Message, Sends, Receives}
use Rattle.places.specs.Places.{mask_of, bit_of}
use Rattle.receiving.specs.Receiving.{arrival_place}
use Rattle.receiving.specs.declared.Arrival.{Arrival}
use Rattle.receiving.specs.declared.Arrival.TheVariants.{Stored, There, Old}
use Rattle.receiving.specs.declared.Receiving.{Receiving}
use Rattle.sending.specs.declared.Sending.{Sending}

-- the octets in the slot of each place
abbrev pub Slots : Type 0
Slots = ℕ → List ℕ

-- the message at a place: as many octets of its slot as its size says
abbrev pub message_at : Slots → List ℕ → ℕ → Message
message_at slot sizes p = take (get_or sizes p 0) (slot p)

-- message i past the oldest of a window of w places, if it is in the set m
abbrev pub message_of : ℕ → Slots → List ℕ → ℕ → ℕ → ℕ → Message
message_of w slot sizes m origin i = pick (bit_of m i) (message_at slot sizes (place_of origin i w)) []

abbrev pub sends : ℕ → Slots → Sending → Sends
sends w slot s = record {
  S = s.taken;
  h = s.base;
  held = λ n. message_of w slot s.sizes (mask_of s.unacked) s.origin (n - s.base);
}

abbrev pub receives : ℕ → Slots → Receiving → Receives
receives w slot r = record {
  R = r.next;
  stored = λ n. message_of w slot r.sizes (mask_of r.stored) r.origin (n - r.next);
}

-- message x is put into the slot of place p, and the slots of the window's other places stay as they were
pub record PutAt (w : ℕ) (slot after : Slots) (p : ℕ) (x : Message) : Type 0 where
  pub here : take (length x) (after p) ≡ x
  pub others : (q : ℕ) → q < w → q ≢ p → after q ≡ slot q

-- what an arrival does to the slots: a message that is stored is put into its slot, any other leaves them (RULES 6.6)
abbrev pub PutAs : ℕ → Receiving → Arrival → Slots → Slots → Message → Type 0
PutAs w r (Stored d) slot after x = PutAt w slot after (arrival_place w r d) x
PutAs w r There slot after x = after ≡ slot
PutAs w r Old slot after x = after ≡ slot

-- each of the window's slots has room for z octets
abbrev pub SlotsHold : ℕ → ℕ → Slots → Type 0
SlotsHold w z slot = (p : ℕ) → p < w → z ≤ length (slot p)
