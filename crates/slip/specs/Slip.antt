-- The slip of a closed line, form 1: what its octets say, and the octets of one.
-- Assumes nothing.
use Rattle.std.specs.Prelude.{ℕ, Bool, List, [], ◌∷◌, length, ltb, leb, eqb, Result, Ok, Err}
use Rattle.ground.specs.Pick.{all_hold}
use Rattle.ground.specs.Refusal.{Test, must}
use Rattle.ground.specs.Answer.{Answer, accepted, refused, answered}
use Rattle.ground.specs.declared.Refusal.TheVariants.{LENGTH, FORM, RANGE, ROOM}
use Rattle.field.specs.Bits.{bits_at}
use Rattle.field.specs.Layout.{Field, of, packed}
use Rattle.slip.specs.declared.Slip.{Slip}
use Rattle.ground.specs.declared.Refusal.{Refusal}

-- "form 1 (4 bits), identifier (7), payload type (7), messages handed out on channel 1 (24) and channel 2 (24), reason (8 ..), 22 zero
-- bits" (RULES 8.1)
abbrev pub layout : Slip → List Field
layout v = of 4 1 ∷ of 7 v.identifier ∷ of 7 v.kind ∷ of 24 v.count1 ∷ of 24 v.count2 ∷ of 8 v.reason ∷ of 22 0 ∷ []

unfoldable pub slip_octets : Slip → List ℕ
slip_octets v = packed (layout v)

-- the five values, read at their places (RULES 8.1, RULES 8.4)
unfoldable pub slip_at : List ℕ → Slip
slip_at s = record { identifier = bits_at s 4 7; kind = bits_at s 11 7; count1 = bits_at s 18 24; count2 = bits_at s 42 24; reason = bits_at s 66 8 }

-- FORM: "a slip's form not 1 or a zero bit set" (RULES 13.2)
unfoldable pub form_fits : List ℕ → Bool
form_fits s = all_hold (eqb (bits_at s 0 4) 1 ∷ eqb (bits_at s 74 22) 0 ∷ [])

-- identifier 0 to 127, payload type 96 to 127, counts of 24 bits (RULES 14.17), reason "0 asked, 1 ended by recovery" (RULES 8.2)
unfoldable pub slip_fits : Slip → Bool
slip_fits v =
    all_hold
    (ltb v.identifier 128 ∷ leb 96 v.kind ∷ ltb v.kind 128
    ∷ ltb v.count1 16777216 ∷ ltb v.count2 16777216 ∷ leb v.reason 1 ∷ [])

-- a slip of form 1 has 12 octets (RULES 8.1)
abbrev pub slip_length : ℕ
slip_length = 12

-- "Slip read: LENGTH, FORM, RANGE" (RULES 14.17)
abbrev pub read_tests : List ℕ → List Test
read_tests s = must (eqb (length s) slip_length) LENGTH ∷ must (form_fits s) FORM ∷ must (slip_fits (slip_at s)) RANGE ∷ []

-- a slip written by itself: RANGE, ROOM (RULES 14.20). Of these closing, which writes one, has ROOM only (RULES 14.9)
abbrev pub write_tests : Slip → ℕ → List Test
write_tests v space = must (slip_fits v) RANGE ∷ must (leb slip_length space) ROOM ∷ []

-- what each case of a reading stands for: the slip's values in the order of its fields (RULES 8.4), or the refusal's number (RULES 17.3)
abbrev pub answer_of : Result Slip Refusal → Answer
answer_of (Ok v) = accepted (v.identifier ∷ v.kind ∷ v.count1 ∷ v.count2 ∷ v.reason ∷ [])
answer_of (Err r) = refused r

abbrev pub slip_read : List ℕ → Result Slip Refusal
slip_read s = answered (read_tests s) (slip_at s)
