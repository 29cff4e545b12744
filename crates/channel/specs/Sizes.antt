-- The sizes of the messages that lie in a window's places.
-- Assumes nothing.
use Rattle.std.specs.Prelude.{ℕ, Bool, true, ◌&&◌, List, ltb, leb, get_or}
use Rattle.ground.specs.Pick.{pick}
use Rattle.ground.specs.Every.{every}
use Rattle.channel.specs.Distance.{place_of}
use Rattle.places.specs.Places.{bit_of}

-- a message has 1 octet at the least, and z at the most (RULES 3.4)
abbrev pub message_fits : ℕ → ℕ → Bool
message_fits z size = ltb 0 size && leb size z

-- the size of the message that is i past the one at place `origin`
abbrev pub size_of : ℕ → List ℕ → ℕ → ℕ → ℕ
size_of w sizes origin i = get_or sizes (place_of origin i w) 0

-- message i of the set, if it is in it, has a size that fits
abbrev pub size_at : ℕ → ℕ → List ℕ → ℕ → ℕ → ℕ → Bool
size_at w z sizes m origin i = pick (bit_of m i) (message_fits z (size_of w sizes origin i)) true

-- no message of the set is "of 0 or over 132 octets" (RULES 15.15)
unfoldable pub sizes_fit : ℕ → ℕ → List ℕ → ℕ → ℕ → Bool
sizes_fit w z sizes m origin = every w (size_at w z sizes m origin)
