-- A line's part of the store: first the slots of the messages that it sends, then those of the messages that it receives (RULES 6.4).
-- Assumes nothing.
use Rattle.std.specs.Prelude.{ℕ, ◌+◌, ◌*◌}
use Rattle.line.specs.Figures.{send_window, receive_window, send_largest, receive_largest}
use Rattle.line.specs.declared.Line.{Line}
use Rattle.store.specs.Store.{region_from}
use Rattle.store.specs.declared.Region.{Region}
use Rattle.store.specs.declared.Way.{Way}
use Rattle.store.specs.declared.Way.TheVariants.{Sending, Receiving}

-- how many slots a channel has, one way: one for each message that may be under way (RULES 6.1, RULES 6.4)
abbrev pub slot_count : Line → Way → ℕ → ℕ
slot_count l Sending channel = send_window l channel
slot_count l Receiving channel = receive_window l channel

-- and how many octets each has: as many as the largest message (RULES 6.4)
abbrev pub slot_size : Line → Way → ℕ
slot_size l Sending = send_largest l
slot_size l Receiving = receive_largest l

-- how many octets the slots of both channels have, one way, and how many the line's part has
abbrev pub way_length : Line → Way → ℕ
way_length l way = (slot_count l way 1 + slot_count l way 2) * slot_size l way

abbrev pub part_length : Line → ℕ
part_length l = way_length l Sending + way_length l Receiving

-- the octet of the part that the slots of a way begin at
abbrev pub way_start : Line → Way → ℕ
way_start l Sending = 0
way_start l Receiving = way_length l Sending

-- the one definition of where the slots of a way and a channel lie: those of channel 1, then those of channel 2 (RULES 6.4)
abbrev pub region_of : Line → Way → ℕ → Region
region_of l way channel = region_from (way_start l way) (slot_count l way 1) (slot_size l way) channel

-- and where they lie in a store in which the part begins at `start`
abbrev pub region_in : ℕ → Line → Way → ℕ → Region
region_in start l way channel = record { start = start + (region_of l way channel).start; size = (region_of l way channel).size }
