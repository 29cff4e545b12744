-- Refusals: their numbers, and the order in which tests are made.
-- Assumes nothing.
use Rattle.std.specs.Prelude.{ℕ, Bool, List, [], ◌∷◌, Result, Ok, Err, codes}
use Rattle.ground.specs.Pick.{pick}
use Rattle.ground.specs.declared.Refusal.{Refusal}
use Rattle.ground.specs.declared.Refusal.TheVariants.{SHORT, FORM, TYPE, NOLINE, MODE, CHANNEL, SIZE, FULL, SPENT, NOTHING, ROOM, TAKEN, RANGE, CLOCK, RECOVERY, LENGTH, RESERVED, BOOK}

-- the number of each refusal (RULES 13.1 to RULES 13.18)
abbrev pub number_of : Refusal → ℕ
number_of SHORT = 1
number_of FORM = 2
number_of TYPE = 3
number_of NOLINE = 4
number_of MODE = 5
number_of CHANNEL = 6
number_of SIZE = 7
number_of FULL = 8
number_of SPENT = 9
number_of NOTHING = 10
number_of ROOM = 11
number_of TAKEN = 12
number_of RANGE = 13
number_of CLOCK = 14
number_of RECOVERY = 15
number_of LENGTH = 16
number_of RESERVED = 17
number_of BOOK = 18

-- the name of each refusal, as the rules write it (RULES 13.1 to RULES 13.18)
abbrev pub name_of : Refusal → List ℕ
name_of SHORT = codes "SHORT"
name_of FORM = codes "FORM"
name_of TYPE = codes "TYPE"
name_of NOLINE = codes "NOLINE"
name_of MODE = codes "MODE"
name_of CHANNEL = codes "CHANNEL"
name_of SIZE = codes "SIZE"
name_of FULL = codes "FULL"
name_of SPENT = codes "SPENT"
name_of NOTHING = codes "NOTHING"
name_of ROOM = codes "ROOM"
name_of TAKEN = codes "TAKEN"
name_of RANGE = codes "RANGE"
name_of CLOCK = codes "CLOCK"
name_of RECOVERY = codes "RECOVERY"
name_of LENGTH = codes "LENGTH"
name_of RESERVED = codes "RESERVED"
name_of BOOK = codes "BOOK"

-- a test, and what is answered where it does not hold
pub record Test : Type 0 where
  pub holds : Bool
  pub why : Refusal

abbrev pub must : Bool → Refusal → Test
must t r = record { holds = t; why = r }

-- what a run of tests in a call's order comes to: all hold, or the refusal of the first that does not
abbrev pub Verdict : Type 0
Verdict = Result Unit Refusal

-- the first test that does not hold decides; the calls' lists of tests are in the orders of RULES 14.1 to RULES 14.21
abbrev pub verdict : List Test → Verdict
verdict [] = Ok tt
verdict (t ∷ ts) = pick t.holds (verdict ts) (Err t.why)

-- an answer by a verdict: a refusal, or what else is answered
abbrev pub settle {ℓ} : {A : Type ℓ} → Verdict → (Refusal → A) → A → A
settle (Ok u) refused took = took
settle (Err r) refused took = refused r
