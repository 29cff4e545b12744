-- What the octets of a CONNECT body say, field by field of Table 25 (RULES 11.1), and when they are refused.
-- Assumes nothing.
use Rattle.std.specs.Prelude.{ℕ, ◌+◌, ◌*◌, Bool, List, [], ◌∷◌, length, ltb, leb, eqb, Result, Ok, Err}
use Rattle.ground.specs.Refusal.{Test, must}
use Rattle.ground.specs.Answer.{Answer, accepted, refused, answered}
use Rattle.ground.specs.declared.Refusal.TheVariants.{LENGTH, RESERVED, RANGE}
use Rattle.field.specs.Bits.{bits_at}
use Rattle.connect.specs.Spans.{size_of, sizes_fit}
use Rattle.ground.specs.Pick.{bit}
use Rattle.connect.specs.declared.Way.{Way}
use Rattle.connect.specs.declared.Connect.{Connect}
use Rattle.ground.specs.declared.Refusal.{Refusal}

-- bits 8 to 11 (RULES 11.1)
abbrev pub compression_at : List ℕ → ℕ
compression_at s = bits_at s 8 4

abbrev pub flag_at : List ℕ → ℕ → Bool
flag_at s b = eqb (bits_at s b 1) 1

-- one direction's numbers: way 0 is transmit, and way 1 is receive, which follows it field by field (RULES 11.1, RULES 11.4, RULES 11.6).
-- Past the end all bits are 0, so that "A value with no place in the body is read as 0" (RULES 11.10)
unfoldable pub way_at : List ℕ → ℕ → Way
way_at s way = record { rate = bits_at s (16 + 16 * way) 16; dictionary = bits_at s (64 + 16 * way) 16; string = bits_at s (96 + 8 * way) 8; history = bits_at s (112 + 16 * way) 16 }

-- bits 54 to 63 are not read (RULES 11.1, RULES 11.2)
unfoldable pub connect_at : List ℕ → Connect
connect_at s = record {
  modulation = bits_at s 0 6;
  direction = bits_at s 6 2;
  compression = compression_at s;
  correction = bits_at s 12 4;
  transmit = way_at s 0;
  receive = way_at s 1;
  dlci = flag_at s 48;
  octet = flag_at s 49;
  rawbit = flag_at s 50;
  frame = flag_at s 51;
  charstat = flag_at s 52;
  chardyn = flag_at s 53;
}

-- "CONNECT read: LENGTH below 8, RESERVED, LENGTH, RANGE" (RULES 14.13)
abbrev pub read_tests : List ℕ → List Test
read_tests s =
    must (leb 8 (length s)) LENGTH
    ∷ must (ltb (compression_at s) 4) RESERVED
    ∷ must (eqb (length s) (size_of (compression_at s))) LENGTH
    ∷ must (sizes_fit (connect_at s)) RANGE
    ∷ []

-- what each case of a reading stands for: the eighteen values in their order (RULES 11.11), or the refusal's number (RULES 17.3)
abbrev pub answer_of : Result Connect Refusal → Answer
answer_of (Ok c) =
    accepted
    (c.modulation ∷ c.direction ∷ c.compression ∷ c.correction ∷ c.transmit.rate ∷ c.receive.rate
    ∷ bit c.dlci ∷ bit c.octet ∷ bit c.rawbit ∷ bit c.frame ∷ bit c.charstat ∷ bit c.chardyn
    ∷ c.transmit.dictionary ∷ c.receive.dictionary ∷ c.transmit.string ∷ c.receive.string
    ∷ c.transmit.history ∷ c.receive.history ∷ [])
answer_of (Err r) = refused r

abbrev pub connect_read : List ℕ → Result Connect Refusal
connect_read s = answered (read_tests s) (connect_at s)
