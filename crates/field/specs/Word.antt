-- A channel and a number together: a word of 16 bits, channel (2) and number (14), as packets carry them (RULES 2.2) and as they are
-- owed (RULES 4.11).
-- Assumes nothing.
use Rattle.std.specs.Prelude.{ℕ, ◌+◌, ◌*◌, ◌/◌, ◌%◌, ◌^◌, Bool, ◌&&◌, leb}

abbrev pub channel_of : ℕ → ℕ
channel_of w = w / 2 ^ 14

abbrev pub number_of : ℕ → ℕ
number_of w = w % 2 ^ 14

abbrev pub word_of : ℕ → ℕ → ℕ
word_of channel number = channel * 2 ^ 14 + number

-- CHANNEL: "acknowledgement .. not naming 1 or 2" (RULES 13.6); what is owed names one of them too (RULES 15.18)
abbrev pub served : ℕ → Bool
served w = leb 1 (channel_of w) && leb (channel_of w) 2
