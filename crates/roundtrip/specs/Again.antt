-- Octets that were read, as they are written again: each bit as it came, but for the bits that the rules say are not looked at, which are 0.
-- Assumes nothing.
use Rattle.std.specs.Prelude.{ℕ, ◌+◌, ◌-◌, ◌*◌, ◌^◌, ◌<◌, List, [], ◌∷◌, leb, eqb, length}
use Rattle.ground.specs.Pick.{pick}
use Rattle.field.specs.Bits.{bits_at}
use Rattle.field.specs.Layout.{of, octets, join}
use Rattle.packet.specs.Read.{channel_at, header_length}

-- each number is an octet, as in every slice of octets
abbrev pub Octets : List ℕ → Type 0
Octets [] = Unit
Octets (x ∷ xs) = (x < 2 ^ 8) × Octets xs

-- the octets with the w bits from bit b on set to 0
unfoldable pub cleared : List ℕ → ℕ → ℕ → List ℕ
cleared s b w =
    let rest = 8 * length s - (b + w) in
    octets (length s) (join 0 (of b (bits_at s 0 b) ∷ of w 0 ∷ of rest (bits_at s (b + w) rest) ∷ []))

-- CONNECT: bits 54 to 63, "The ten bits are written 0 and not read" (RULES 11.2)
abbrev pub connect_again : List ℕ → List ℕ
connect_again s = cleared s 54 10

-- a packet: the sequence number in bits 18 to 31 and the base number in bits 34 to 47 (RULES 2.1). On channel 0 neither is looked at
-- (RULES 2.5), and without payload the sequence number is not (RULES 2.6)
unfoldable pub packet_again : List ℕ → List ℕ
packet_again s = pick (eqb (channel_at s) 0) (cleared (cleared s 18 14) 34 14) (pick (leb (length s) (header_length s)) (cleared s 18 14) s)
