-- A CONNECT body as octets, in the order of Table 25 (RULES 11.1), and when it may be written.
-- Assumes nothing.
use Rattle.std.specs.Prelude.{ℕ, not, ◌&&◌, List, [], ◌∷◌, ◌++◌, length, leb, eqb}
use Rattle.ground.specs.Pick.{pick, bit}
use Rattle.ground.specs.Refusal.{Test, must}
use Rattle.ground.specs.declared.Refusal.TheVariants.{RESERVED, RANGE, ROOM}
use Rattle.field.specs.Layout.{Field, of, packed}
use Rattle.connect.specs.Spans.{reserved, numbers_fit, sizes_fit}
use Rattle.connect.specs.declared.Connect.{Connect}

-- bits 48 to 63 (RULES 11.1); "The ten bits are written 0" (RULES 11.2)
abbrev pub flag_fields : Connect → List Field
flag_fields c =
    of 1 (bit c.dlci) ∷ of 1 (bit c.octet) ∷ of 1 (bit c.rawbit) ∷ of 1 (bit c.frame)
    ∷ of 1 (bit c.charstat) ∷ of 1 (bit c.chardyn) ∷ of 10 0 ∷ []

-- bits 0 to 63 (RULES 11.1)
abbrev pub base_fields : Connect → List Field
base_fields c =
    of 6 c.modulation ∷ of 2 c.direction ∷ of 4 c.compression ∷ of 4 c.correction
    ∷ of 16 c.transmit.rate ∷ of 16 c.receive.rate
    ∷ flag_fields c

-- bits 64 to 111: dictionaries and strings (RULES 11.4)
abbrev pub bis_fields : Connect → List Field
bis_fields c = of 16 c.transmit.dictionary ∷ of 16 c.receive.dictionary ∷ of 8 c.transmit.string ∷ of 8 c.receive.string ∷ []

-- bits 112 to 143: histories (RULES 11.6)
abbrev pub history_fields : Connect → List Field
history_fields c = of 16 c.transmit.history ∷ of 16 c.receive.history ∷ []

-- what stands after bit 63, by the compression (RULES 11.3, RULES 11.4, RULES 11.6)
unfoldable pub size_fields : Connect → List Field
size_fields c = pick (eqb c.compression 1) (bis_fields c) (pick (eqb c.compression 2) (bis_fields c ++ history_fields c) [])

unfoldable pub connect_octets : Connect → List ℕ
connect_octets c = packed (base_fields c ++ size_fields c)

-- "written: RESERVED, RANGE, ROOM" (RULES 14.14)
abbrev pub write_tests : Connect → ℕ → List Test
write_tests c space =
    must (not (reserved c.compression)) RESERVED
    ∷ must (numbers_fit c && sizes_fit c) RANGE
    ∷ must (leb (length (connect_octets c)) space) ROOM
    ∷ []
