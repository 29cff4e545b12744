-- The BREAK body: "BREAK (Table 26) is two octets: source 0 to 2, type 0 to 3, length in 10 ms" (RULES 12.1, RULES 12.2, RULES 12.3).
-- Assumes nothing.
use Rattle.std.specs.Prelude.{ℕ, Bool, List, [], ◌∷◌, length, ltb, leb, eqb, Result, Ok, Err}
use Rattle.ground.specs.Pick.{all_hold}
use Rattle.ground.specs.Refusal.{Test, must}
use Rattle.ground.specs.Answer.{Answer, accepted, refused, answered}
use Rattle.ground.specs.declared.Refusal.{Refusal}
use Rattle.ground.specs.declared.Refusal.TheVariants.{LENGTH, RANGE, ROOM}
use Rattle.field.specs.Bits.{bits_at}
use Rattle.field.specs.Layout.{Field, of, packed}
use Rattle.breaks.specs.declared.Break.{Break}

-- source in bits 0 to 3, type in 4 to 7, length in 8 to 15 (RULES 12.1)
unfoldable pub break_at : List ℕ → Break
break_at s = record { source = bits_at s 0 4; kind = bits_at s 4 4; lasts = bits_at s 8 8 }

-- the same fields, as they are written (RULES 12.1)
abbrev pub layout : Break → List Field
layout b = of 4 b.source ∷ of 4 b.kind ∷ of 8 b.lasts ∷ []

unfoldable pub break_octets : Break → List ℕ
break_octets b = packed (layout b)

-- source 0 to 2, type 0 to 3 (RULES 12.2), and a length of 8 bits (RULES 12.1)
unfoldable pub break_fits : Break → Bool
break_fits b = all_hold (ltb b.source 3 ∷ ltb b.kind 4 ∷ leb b.lasts 255 ∷ [])

-- "BREAK read: LENGTH, RANGE" (RULES 14.15)
abbrev pub read_tests : List ℕ → List Test
read_tests s = must (eqb (length s) 2) LENGTH ∷ must (break_fits (break_at s)) RANGE ∷ []

-- "written: RANGE, ROOM" (RULES 14.16)
abbrev pub write_tests : Break → ℕ → List Test
write_tests b space = must (break_fits b) RANGE ∷ must (leb 2 space) ROOM ∷ []

-- what each case of a reading stands for: source, type and length, or the refusal's number (RULES 17.3)
abbrev pub answer_of : Result Break Refusal → Answer
answer_of (Ok b) = accepted (b.source ∷ b.kind ∷ b.lasts ∷ [])
answer_of (Err r) = refused r

abbrev pub break_read : List ℕ → Result Break Refusal
break_read s = answered (read_tests s) (break_at s)
