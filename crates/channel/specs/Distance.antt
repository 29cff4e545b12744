-- The distance of two sequence numbers, and the place of a message in its window.
-- Assumes nothing.
use Rattle.std.specs.Prelude.{ℕ, ◌+◌, ◌-◌, ◌%◌, ltb}
use Rattle.ground.specs.Pick.{pick}
use Rattle.channel.specs.Channel.{modulus}

-- "let d = (n - R) mod 16,384" (RULES 4.7; so too RULES 4.3, RULES 4.5): of n and of h only the 14 bits that a packet carries count
abbrev pub dist : ℕ → ℕ → ℕ
dist n h = (n % modulus + (modulus - h % modulus)) % modulus

-- the place of the message that is i past the one at place `origin`, in a window of w places: origin + i, less w where that is w or more
-- (RULES 6.5)
abbrev pub place_of : ℕ → ℕ → ℕ → ℕ
place_of origin i w = pick (ltb (origin + i) w) (origin + i) (origin + i - w)
