-- A packet as octets, and when it may be written.
-- Assumes nothing.
use Rattle.std.specs.Prelude.{ℕ, Bool, true, List, [], ◌∷◌, ◌++◌, length, ltb, leb, eqb}
use Rattle.ground.specs.Pick.{pick, all_hold}
use Rattle.ground.specs.Refusal.{Test, must}
use Rattle.ground.specs.declared.Refusal.TheVariants.{RANGE, CHANNEL, SIZE, ROOM}
use Rattle.field.specs.Layout.{Field, of, packed}
use Rattle.field.specs.Word.{channel_of, number_of}
use Rattle.packet.specs.Acks.{ack_list, acks_served, acks_blank}
use Rattle.packet.specs.Read.{size_fits}
use Rattle.packet.specs.declared.Head.{Head}
use Rattle.packet.specs.declared.Acks.{Acks}

-- "Written packets have extension and reserved bits 0" (RULES 2.1, RULES 2.4)
abbrev pub fixed_fields : Head → ℕ → List Field
fixed_fields h n =
    of 1 0 ∷ of 7 h.identifier ∷ of 1 0 ∷ of 7 h.kind
    ∷ of 2 h.channel ∷ of 14 h.number
    ∷ of 2 n ∷ of 14 h.base ∷ []

-- "for each acknowledgement its channel (2) and sequence number (14)" (RULES 2.2)
abbrev pub ack_fields : List ℕ → List Field
ack_fields [] = []
ack_fields (w ∷ ws) = of 2 (channel_of w) ∷ of 14 (number_of w) ∷ ack_fields ws

abbrev pub layout : Head → Acks → List Field
layout h a = fixed_fields h a.count ++ ack_fields (ack_list a)

-- "the rest is payload" (RULES 2.3)
unfoldable pub packet_octets : Head → Acks → List ℕ → List ℕ
packet_octets h a payload = packed (layout h a) ++ payload

-- numbers with no place are given as 0: "On channel 0 both" (RULES 2.5), "A packet without payload .. its sequence number" (RULES 2.6);
-- n is the payload's length
unfoldable pub numbers_placed : Head → ℕ → Bool
numbers_placed h n = pick (eqb h.channel 0) (all_hold (eqb h.number 0 ∷ eqb h.base 0 ∷ [])) (pick (eqb n 0) (eqb h.number 0) true)

-- RANGE: each field has room in its bits, at most three acknowledgements are given, and what has no place is 0 (RULES 14.18)
unfoldable pub fields_fit : Head → Acks → ℕ → Bool
fields_fit h a n =
    all_hold
    (ltb h.identifier 128 ∷ ltb h.kind 128 ∷ ltb h.number 16384 ∷ ltb h.base 16384 ∷ leb a.count 3
    ∷ acks_blank a ∷ numbers_placed h n ∷ [])

-- a field out of its span, a channel that is not served, a payload too large, an output too small (RULES 14.18)
abbrev pub write_tests : Head → Acks → List ℕ → ℕ → ℕ → List Test
write_tests h a payload largest space =
    must (fields_fit h a (length payload)) RANGE
    ∷ must (all_hold (ltb h.channel 3 ∷ acks_served a ∷ [])) CHANNEL
    ∷ must (size_fits h.channel (length payload) largest) SIZE
    ∷ must (leb (length (packet_octets h a payload)) space) ROOM
    ∷ []
