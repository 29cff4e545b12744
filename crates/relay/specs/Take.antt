-- A message is taken for sending: what refuses it, and what it leaves in the line and in its part of the store.
-- Assumes nothing.
use Rattle.std.specs.Prelude.{ℕ, List, ◌∷◌, ◌++◌}
use Rattle.std.proofs.lemmas.List.Edits.{sets}
use Rattle.ground.specs.Refusal.{Test, must}
use Rattle.ground.specs.declared.Refusal.TheVariants.{SIZE}
use Rattle.channel.specs.Sizes.{message_fits}
use Rattle.sending.specs.Sending.{take_tests, next_place, took_one}
use Rattle.line.specs.Line.{sending_of, with_sending}
use Rattle.line.specs.Figures.{send_window, send_largest}
use Rattle.line.specs.Part.{region_of, region_in}
use Rattle.line.specs.declared.Line.{Line}
use Rattle.store.specs.Store.{slot_at}
use Rattle.store.specs.declared.Region.{Region}
use Rattle.store.specs.declared.Way.TheVariants.{Sending}
use Rattle.relay.specs.RelayTests.{relay_channel_tests}

-- "Message taken: NOLINE, MODE, CHANNEL, SIZE, SPENT, FULL" (RULES 14.3); n is its length
unfoldable pub take_call_tests : Line → ℕ → ℕ → List Test
take_call_tests l channel n = relay_channel_tests l channel ++ (must (message_fits (send_largest l) n) SIZE ∷ take_tests (send_window l channel) (sending_of l channel))

-- the line with message S of the channel taken (RULES 5.1)
abbrev pub took_line : Line → ℕ → ℕ → Line
took_line l channel n = with_sending l channel (took_one (send_window l channel) (sending_of l channel) n)

-- and octets that have the region of its side, with the message in the slot of its place (RULES 5.1, RULES 6.6)
abbrev took_in : Region → Line → ℕ → List ℕ → List ℕ → List ℕ
took_in g l channel message octets = sets octets (slot_at g (next_place (send_window l channel) (sending_of l channel))) message

-- the line's part of the store is such, and so is a store in which the part begins at `start`
abbrev pub took_part : Line → ℕ → List ℕ → List ℕ → List ℕ
took_part l channel message part = took_in (region_of l Sending channel) l channel message part

abbrev pub took_store : Line → ℕ → ℕ → List ℕ → List ℕ → List ℕ
took_store l start channel message store = took_in (region_in start l Sending channel) l channel message store
