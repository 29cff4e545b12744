-- A held message is written: which one a rank names, what refuses it, and its packet.
-- Assumes nothing.
use Rattle.std.specs.Prelude.{ℕ, ◌+◌, ◌%◌, ◌≤◌, ◌<◌, ◌≡◌, Bool, true, false, List, [], ◌∷◌, ◌++◌, leb, Option, Some, None, Result, Ok, Err}
use Rattle.ground.specs.Answer.{answered}
use Rattle.ground.specs.Refusal.{Test, must, verdict, settle}
use Rattle.ground.specs.declared.Refusal.TheVariants.{NOTHING, ROOM}
use Rattle.channel.specs.Channel.{modulus}
use Rattle.sending.specs.Sending.{held_of}
use Rattle.channel.specs.Sizes.{message_fits}
use Rattle.sending.specs.declared.Held.{Held}
use Rattle.packet.specs.Read.{longest_header}
use Rattle.packet.specs.Write.{packet_octets}
use Rattle.line.specs.Figures.{send_window, send_largest}
use Rattle.line.specs.Part.{region_of}
use Rattle.line.specs.Line.{sending_of}
use Rattle.line.specs.declared.Line.{Line}
use Rattle.store.specs.Store.{octets_in}
use Rattle.store.specs.declared.Way.TheVariants.{Sending}
use Rattle.relay.specs.RelayTests.{relay_channel_tests}
use Rattle.writing.specs.Write.{acks_for, head_for, header_length_for}
use Rattle.ground.specs.declared.Refusal.{Refusal}

-- "A held message is written by its rank among the unacknowledged ones of its channel" (RULES 5.4)
abbrev pub ranked : Line → ℕ → ℕ → Option Held
ranked l channel rank = held_of (send_window l channel) (sending_of l channel) rank

-- "no message of that rank" is refused (RULES 13.10)
abbrev pub is_held : Option Held → Bool
is_held (Some h) = true
is_held None = false

-- the message found; where there is none, one of no octets
abbrev pub held_in : Option Held → Held
held_in (Some h) = h
held_in None = record { number = 0; place = 0; size = 0 }

-- how many octets a message's packet has
abbrev pub sent_length : Line → Held → ℕ
sent_length l h = header_length_for l + h.size

-- the longest packet that the line writes
abbrev pub longest_packet : Line → ℕ
longest_packet l = longest_header + send_largest l

-- "Held message written ..: NOLINE, MODE, CHANNEL, .. NOTHING, ROOM" (RULES 14.4); space is the output's length
unfoldable pub send_tests : Line → ℕ → ℕ → ℕ → List Test
send_tests l channel rank space =
    relay_channel_tests l channel
    ++ (must (is_held (ranked l channel rank)) NOTHING
    ∷ must (leb (sent_length l (held_in (ranked l channel rank))) space) ROOM
    ∷ [])

-- the message that may be written, or why none may
unfoldable pub send_verdict : Line → ℕ → ℕ → ℕ → Result Held Refusal
send_verdict l channel rank space = answered (send_tests l channel rank space) (held_in (ranked l channel rank))

-- its packet (RULES 5.5): "Each channel numbers the messages taken for sending from 0, modulo 16,384" (RULES 3.5); its octets lie in the
-- line's part of the store
unfoldable pub held_packet : Line → ℕ → Held → List ℕ → List ℕ
held_packet l channel h part =
    packet_octets (head_for l channel (h.number % modulus)) (acks_for l) (octets_in part (region_of l Sending channel) h.place h.size)

-- what writing a message asks: that its line and channel were asked, that it has a place and a size, and that its packet has room
pub record Sendable (l : Line) (channel space : ℕ) (h : Held) : Type 0 where
  pub asked : verdict (relay_channel_tests l channel) ≡ Ok tt
  pub placed : h.place < send_window l channel
  pub sized : message_fits (send_largest l) h.size ≡ true
  pub roomy : sent_length l h ≤ space
