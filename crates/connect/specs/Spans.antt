-- What the numbers of a CONNECT body may be (RULES 11.3 to RULES 11.10).
-- Assumes nothing.
use Rattle.std.specs.Prelude.{ℕ, Bool, ◌&&◌, [], ◌∷◌, ltb, leb, eqb}
use Rattle.ground.specs.Pick.{pick, all_hold}
use Rattle.connect.specs.declared.Way.{Way}
use Rattle.connect.specs.declared.Connect.{Connect}

-- "No compression and MNP5: 8 octets. V.42 bis (1): 14 .. V.44 (2): 18" (RULES 11.3, RULES 11.4, RULES 11.6)
unfoldable pub size_of : ℕ → ℕ
size_of compression = pick (eqb compression 1) 14 (pick (eqb compression 2) 18 8)

-- "A value with no place in the body is read as 0 and must be given as 0" (RULES 11.10); "receive dictionary 0 .. receive string 0"
-- (RULES 11.5)
abbrev pub nothing : Way → Bool
nothing w = all_hold (eqb w.dictionary 0 ∷ eqb w.string 0 ∷ eqb w.history 0 ∷ [])

-- V.42 bis: "transmit dictionary 512 to 65,535 .. transmit string 6 to 250" (RULES 11.5)
abbrev pub bis_way : Way → Bool
bis_way w = all_hold (leb 512 w.dictionary ∷ leb w.dictionary 65535 ∷ leb 6 w.string ∷ leb w.string 250 ∷ eqb w.history 0 ∷ [])

-- V.44: "dictionaries 256 to 65,535, strings 32 to 255, histories 512 to 65,535" (RULES 11.7)
abbrev pub rich_way : Way → Bool
rich_way w =
    all_hold
    (leb 256 w.dictionary ∷ leb w.dictionary 65535
    ∷ leb 32 w.string ∷ leb w.string 255
    ∷ leb 512 w.history ∷ leb w.history 65535 ∷ [])

-- dictionaries, strings and histories are as the compression asks (RULES 11.5, RULES 11.7, RULES 11.10)
unfoldable pub sizes_fit : Connect → Bool
sizes_fit c =
    pick (eqb c.compression 1) (bis_way c.transmit && nothing c.receive)
    (pick (eqb c.compression 2) (rich_way c.transmit && rich_way c.receive)
    (nothing c.transmit && nothing c.receive))

-- RESERVED: "compression 4 to 15" (RULES 13.17)
abbrev pub reserved : ℕ → Bool
reserved compression = leb 4 compression && leb compression 15

-- "Modulations 31 to 63 and error corrections 3 to 15 are .. never written" (RULES 11.8); the other fields have room (RULES 11.1)
unfoldable pub numbers_fit : Connect → Bool
numbers_fit c =
    all_hold
    (ltb c.modulation 31 ∷ ltb c.direction 4 ∷ ltb c.compression 4 ∷ ltb c.correction 3
    ∷ leb c.transmit.rate 65535 ∷ leb c.receive.rate 65535 ∷ [])
