-- What one end of a line shows of a channel, with full numbers: read from the line's record and from the slots of its part of the store.
-- Assumes nothing.
use Rattle.std.specs.Prelude.{ℕ, List}
use Rattle.flow.specs.Flow.{Sends, Receives}
use Rattle.flow.specs.View.{Slots, sends, receives}
use Rattle.line.specs.Figures.{send_window, receive_window}
use Rattle.line.specs.Line.{sending_of, receiving_of}
use Rattle.line.specs.Part.{region_of}
use Rattle.line.specs.declared.Line.{Line}
use Rattle.store.specs.Store.{slot_octets}
use Rattle.store.specs.declared.Way.{Way}
use Rattle.store.specs.declared.Way.TheVariants.{Sending, Receiving}

-- the slots that a way and a channel have in the line's part of the store
abbrev pub slots_of : Line → List ℕ → Way → ℕ → Slots
slots_of l part way channel p = slot_octets part (region_of l way channel) p

-- S, h, and what is held
abbrev pub sends_of : List ℕ → Line → ℕ → Sends
sends_of part l channel = sends (send_window l channel) (slots_of l part Sending channel) (sending_of l channel)

-- R, and what is stored
abbrev pub receives_of : List ℕ → Line → ℕ → Receives
receives_of part l channel = receives (receive_window l channel) (slots_of l part Receiving channel) (receiving_of l channel)
