-- A message is handed out: what refuses it, its octets, and what it leaves in the line.
-- Assumes nothing.
use Rattle.std.specs.Prelude.{ℕ, List, [], ◌∷◌, ◌++◌, leb}
use Rattle.ground.specs.Refusal.{Test, must}
use Rattle.ground.specs.declared.Refusal.TheVariants.{ROOM}
use Rattle.receiving.specs.Receiving.{hand_tests, next_size, handed_out}
use Rattle.line.specs.Line.{receiving_of, with_receiving}
use Rattle.line.specs.Figures.{receive_window}
use Rattle.line.specs.Part.{region_of}
use Rattle.line.specs.declared.Line.{Line}
use Rattle.store.specs.Store.{octets_in}
use Rattle.store.specs.declared.Way.TheVariants.{Receiving}
use Rattle.relay.specs.RelayTests.{relay_channel_tests}

-- "hand-out: NOLINE, MODE, CHANNEL, SPENT .., NOTHING, ROOM" (RULES 14.5); space is the output's length
unfoldable pub hand_call_tests : Line → ℕ → ℕ → List Test
hand_call_tests l channel space = relay_channel_tests l channel ++ (hand_tests (receiving_of l channel) ++ (must (leb (next_size (receiving_of l channel)) space) ROOM ∷ []))

-- "Handing out gives message R": its octets (RULES 5.8, RULES 5.9)
abbrev pub handed_octets : Line → ℕ → List ℕ → List ℕ
handed_octets l channel part = octets_in part (region_of l Receiving channel) (receiving_of l channel).origin (next_size (receiving_of l channel))

-- "and moves R on" (RULES 5.8)
abbrev pub handed_line : Line → ℕ → Line
handed_line l channel = with_receiving l channel (handed_out (receive_window l channel) (receiving_of l channel))
