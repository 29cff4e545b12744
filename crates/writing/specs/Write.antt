-- What a line writes: the head and the acknowledgements of its packets, and what is left of its owed list.
-- Assumes nothing.
use Rattle.std.specs.Prelude.{ℕ, ◌+◌, ◌*◌, ◌%◌, List, [], ◌∷◌, ◌++◌, leb, eqb}
use Rattle.ground.specs.Pick.{pick}
use Rattle.ground.specs.Refusal.{Test, must}
use Rattle.ground.specs.declared.Refusal.TheVariants.{CHANNEL, ROOM}
use Rattle.channel.specs.Channel.{modulus}
use Rattle.packet.specs.Write.{packet_octets}
use Rattle.packet.specs.declared.Head.{Head}
use Rattle.packet.specs.declared.Acks.{Acks}
use Rattle.owed.specs.Owed.{first_three, without_three}
use Rattle.line.specs.Line.{receiving_of, with_owed}
use Rattle.line.specs.declared.Line.{Line}
use Rattle.relay.specs.RelayTests.{relay_line_tests}

-- "every packet written carries the first three, or all if fewer" (RULES 5.7)
unfoldable pub acks_for : Line → Acks
acks_for l = first_three l.owed

-- "and they leave the list" (RULES 5.7)
unfoldable pub wrote_line : Line → Line
wrote_line l = with_owed l (without_three l.owed)

-- "The base number in a packet on channel 1 or 2 is the writer's own next message to hand out on that channel" (RULES 3.6); on channel 0
-- it is 0 (RULES 2.5)
unfoldable pub base_for : Line → ℕ → ℕ
base_for l channel = pick (eqb channel 0) 0 ((receiving_of l channel).next % modulus)

-- the head of a packet that the line writes (RULES 5.5)
abbrev pub head_for : Line → ℕ → ℕ → Head
head_for l channel number = record { identifier = l.identifier; kind = l.kind; channel = channel; number = number; base = base_for l channel }

-- "a header is 6, 8, 10 or 12 octets" (RULES 2.3)
abbrev pub header_length_for : Line → ℕ
header_length_for l = 6 + 2 * (acks_for l).count

-- a packet without payload: its number is 0 (RULES 2.6, RULES 5.6)
unfoldable pub empty_packet : Line → ℕ → List ℕ
empty_packet l channel = packet_octets (head_for l channel 0) (acks_for l) []

-- "Empty packet: NOLINE, MODE, CHANNEL, ROOM" (RULES 14.6); "empty-packet call not naming 0 to 2" (RULES 13.6)
unfoldable pub empty_tests : Line → ℕ → ℕ → List Test
empty_tests l channel space =
    relay_line_tests l ++ (must (leb channel 2) CHANNEL ∷ must (leb (header_length_for l) space) ROOM ∷ [])
