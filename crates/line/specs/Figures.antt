-- The figures of a line: how many messages of a channel may be under way each way, and how many octets a message has at the most.
-- Every line has the same (RULES 3.2, RULES 3.4).
-- Assumes nothing.
use Rattle.std.specs.Prelude.{ℕ}
use Rattle.channel.specs.Channel.{largest, window_of}
use Rattle.line.specs.declared.Line.{Line}

abbrev pub send_window : Line → ℕ → ℕ
send_window l channel = window_of channel

abbrev pub receive_window : Line → ℕ → ℕ
receive_window l channel = window_of channel

abbrev pub send_largest : Line → ℕ
send_largest l = largest

abbrev pub receive_largest : Line → ℕ
receive_largest l = largest
