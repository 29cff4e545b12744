-- What a packet's octets say, and when they are refused.
-- Assumes nothing.
use Rattle.std.specs.Prelude.{ℕ, ◌+◌, ◌*◌, ◌-◌, Bool, List, [], ◌∷◌, length, drop, ltb, leb, eqb, Result, Ok, Err}
use Rattle.ground.specs.Pick.{pick, all_hold}
use Rattle.ground.specs.Refusal.{Test, must}
use Rattle.ground.specs.Answer.{Answer, accepted, refused, answered}
use Rattle.ground.specs.declared.Refusal.TheVariants.{SHORT, FORM, CHANNEL}
use Rattle.field.specs.Bits.{bits_at}
use Rattle.packet.specs.Acks.{acks_served}
use Rattle.packet.specs.declared.Head.{Head}
use Rattle.packet.specs.declared.Acks.{Acks}
use Rattle.ground.specs.declared.Refusal.{Refusal}

-- "One extension bit, identifier (7 bits), one reserved bit, payload type (7); channel (2), sequence number (14);
-- number of acknowledgements (2), base number (14)" (RULES 2.1)
abbrev pub channel_at : List ℕ → ℕ
channel_at s = bits_at s 16 2

abbrev pub count_at : List ℕ → ℕ
count_at s = bits_at s 32 2

-- "So a header is 6, 8, 10 or 12 octets"; "the rest is payload" (RULES 2.3)
abbrev pub header_length : List ℕ → ℕ
header_length s = 6 + 2 * count_at s

-- the longest header: six octets, and two for each of three acknowledgements (RULES 2.3)
abbrev pub longest_header : ℕ
longest_header = 6 + 2 * 3

unfoldable pub payload_of : List ℕ → List ℕ
payload_of s = drop (header_length s) s

-- "On channel 0 both numbers are written 0 and neither is looked at" (RULES 2.5); "A packet without payload .. its sequence number is ..
-- not looked at" (RULES 2.6). What is not looked at is read as 0 (RULES 2.7)
unfoldable pub number_at : List ℕ → ℕ
number_at s = pick (eqb (channel_at s) 0) 0 (pick (leb (length s) (header_length s)) 0 (bits_at s 18 14))

-- the base number; on channel 0 it is not looked at (RULES 2.5, RULES 2.7)
unfoldable pub base_at : List ℕ → ℕ
base_at s = pick (eqb (channel_at s) 0) 0 (bits_at s 34 14)

-- what the first six octets say (RULES 2.1)
unfoldable pub head_at : List ℕ → Head
head_at s = record { identifier = bits_at s 1 7; kind = bits_at s 9 7; channel = channel_at s; number = number_at s; base = base_at s }

-- "then for each acknowledgement its channel (2) and sequence number (14)" (RULES 2.2): the k-th, from 0; 0 where there is none
unfoldable pub ack_at : List ℕ → ℕ → ℕ
ack_at s k = pick (ltb k (count_at s)) (bits_at s (8 * (6 + 2 * k)) 16) 0

-- how many acknowledgements there are, and each of them (RULES 2.2)
unfoldable pub acks_at : List ℕ → Acks
acks_at s = record { count = count_at s; one = ack_at s 0; two = ack_at s 1; three = ack_at s 2 }

-- SHORT: the first six octets are there (RULES 13.1)
abbrev pub fixed_there : List ℕ → Bool
fixed_there s = leb 6 (length s)

-- FORM: the extension bit and the reserved bit are 0 (RULES 13.2)
abbrev pub form_plain : List ℕ → Bool
form_plain s = all_hold (eqb (bits_at s 0 1) 0 ∷ eqb (bits_at s 8 1) 0 ∷ [])

-- SHORT: the acknowledgements do not run past the packet's end (RULES 13.1)
abbrev pub list_there : List ℕ → Bool
list_there s = leb (header_length s) (length s)

-- CHANNEL: the packet is not on channel 3, and each acknowledgement names channel 1 or 2 (RULES 13.6)
abbrev pub channels_served : List ℕ → Bool
channels_served s = all_hold (ltb (channel_at s) 3 ∷ acks_served (acks_at s) ∷ [])

-- SIZE: "payload over 132, or any on channel 0" (RULES 13.7); the payload has n octets, and `largest` stands for 132
unfoldable pub size_fits : ℕ → ℕ → ℕ → Bool
size_fits channel n largest = pick (eqb channel 0) (eqb n 0) (leb n largest)

-- SIZE, of the payload of a packet that is read (RULES 13.7)
abbrev pub payload_fits : List ℕ → ℕ → Bool
payload_fits s largest = size_fits (channel_at s) (length s - header_length s) largest

-- "SHORT for 6 octets, FORM" (RULES 14.2, RULES 14.19)
abbrev pub head_tests : List ℕ → List Test
head_tests s = must (fixed_there s) SHORT ∷ must (form_plain s) FORM ∷ []

-- after the tests that need the line: "SHORT for the list, CHANNEL" (RULES 14.2, RULES 14.19)
abbrev pub list_tests : List ℕ → List Test
list_tests s = must (list_there s) SHORT ∷ must (channels_served s) CHANNEL ∷ []

-- what each case of a reading stands for: its values, or the refusal's number (RULES 17.3)
abbrev pub head_says : Result Head Refusal → Answer
head_says (Ok h) = accepted (h.identifier ∷ h.kind ∷ h.channel ∷ h.number ∷ h.base ∷ [])
head_says (Err r) = refused r

abbrev pub acks_says : Result Acks Refusal → Answer
acks_says (Ok a) = accepted (a.count ∷ a.one ∷ a.two ∷ a.three ∷ [])
acks_says (Err r) = refused r

abbrev pub head_read : List ℕ → Result Head Refusal
head_read s = answered (head_tests s) (head_at s)

abbrev pub acks_read : List ℕ → Result Acks Refusal
acks_read s = answered (list_tests s) (acks_at s)
