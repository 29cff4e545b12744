-- What is settled of a channel: "with windows of 32 and 8 messages" (RULES 3.2).
-- Assumes nothing.
use Rattle.std.specs.Prelude.{ℕ, eqb}
use Rattle.ground.specs.Pick.{pick}
use Rattle.channel.specs.declared.Channel.{Channel}

-- "modulo 16,384" (RULES 3.5)
abbrev pub modulus : ℕ
modulus = 16384

-- "A channel takes at most 16,777,215 messages and hands out at most as many" (RULES 3.7)
abbrev pub cap : ℕ
cap = 16777215

-- "A message has 1 to 132 octets" (RULES 3.4)
abbrev pub largest : ℕ
largest = 132

-- the window of channel 1, and of channel 2 (RULES 3.2)
abbrev pub window_of : ℕ → ℕ
window_of number = pick (eqb number 1) 32 8

abbrev pub channel_of : ℕ → Channel
channel_of number = record { window = window_of number }
