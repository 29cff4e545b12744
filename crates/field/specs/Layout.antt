-- A layout is a list of fields, each a width in bits and a number. It says what is written, and where each field is read.
-- Assumes nothing.
use Rattle.std.specs.Prelude.{ℕ, zero, suc, ◌+◌, ◌*◌, ◌/◌, ◌%◌, ◌^◌, ◌<◌, List, [], ◌∷◌, ◌++◌, ◌≡◌}
use Rattle.field.specs.Bits.{bits_at}

pub record Field : Type 0 where
  pub width : ℕ
  pub value : ℕ

abbrev pub of : ℕ → ℕ → Field
of w v = record { width = w; value = v }

-- the n low octets of x, most significant first (RULES 1.7)
abbrev pub octets : ℕ → ℕ → List ℕ
octets zero x = []
octets (suc n) x = x / 2 ^ (8 * n) % 2 ^ 8 ∷ octets n x

-- words of 16 bits as octets
abbrev pub word_octets : List ℕ → List ℕ
word_octets [] = []
word_octets (w ∷ ws) = octets 2 w ++ word_octets ws

-- the bits of all the fields together
abbrev pub widths : List Field → ℕ
widths [] = 0
widths (f ∷ fs) = f.width + widths fs

-- the number a with the fields after it, as one number (RULES 1.7)
abbrev pub join : ℕ → List Field → ℕ
join a [] = a
join a (f ∷ fs) = join (a * 2 ^ f.width + f.value) fs

-- the fields as octets (RULES 1.7); their widths make whole octets
abbrev pub packed : List Field → List ℕ
packed fs = octets (widths fs / 8) (join 0 fs)

-- each number has room in its width
abbrev pub InWidth : List Field → Type 0
InWidth [] = Unit
InWidth (f ∷ fs) = (f.value < 2 ^ f.width) × InWidth fs

-- the fields, one after the other from bit b on, are what the octets hold there
abbrev pub Reads : List ℕ → ℕ → List Field → Type 0
Reads s b [] = Unit
Reads s b (f ∷ fs) = (bits_at s b f.width ≡ f.value) × Reads s (b + f.width) fs
