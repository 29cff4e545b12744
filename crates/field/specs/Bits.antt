-- What the bits of a list of octets say: "All fields are bit-packed, most significant first; bit 0 is the first sent" (RULES 1.7).
-- Assumes nothing.
use Rattle.std.specs.Prelude.{ℕ, zero, suc, ◌+◌, ◌-◌, ◌*◌, ◌/◌, ◌%◌, ◌^◌, List, get_or}

-- bit i is in octet i / 8, where i % 8 higher bits come before it (RULES 1.7). Past the end every bit is 0
unfoldable pub bit_at : List ℕ → ℕ → ℕ
bit_at s i = get_or s (i / 8) 0 / 2 ^ (7 - i % 8) % 2

-- the w bits from bit b on, as one number, the first of them the most significant (RULES 1.7)
unfoldable pub bits_at : List ℕ → ℕ → ℕ → ℕ
unfolding bit_at
bits_at s b zero = 0
bits_at s b (suc w) = bits_at s b w * 2 + bit_at s (b + w)
