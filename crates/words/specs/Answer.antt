-- What is written of an answer, and of a line that is no call.
-- Assumes nothing.
use Rattle.std.specs.Prelude.{ℕ, List, ◌∷◌, ◌++◌, codes, decimal}
use Rattle.std.specs.List.{flat_map}
use Rattle.ground.specs.Refusal.{number_of, name_of}
use Rattle.ground.specs.declared.Refusal.{Refusal}
use Rattle.words.specs.declared.arguments.Fault.{Fault}
use Rattle.words.specs.declared.arguments.Fault.TheVariants.{Unknown, Missing, Extra, Wrong, TooLong, OutOfReach}

-- a number of an answer, behind a space
abbrev pub spaced : ℕ → List ℕ
spaced n = 32 ∷ decimal n

-- an answer of numbers: `ok` and the numbers
unfoldable pub numbers_said : List ℕ → List ℕ
numbers_said ns = codes "ok" ++ flat_map spaced ns

-- a refusal: `no`, its number and its name
abbrev pub refusal_said : Refusal → List ℕ
refusal_said r = codes "no " ++ decimal (number_of r) ++ codes " " ++ name_of r

-- why a line is no call
abbrev pub fault_said : Fault → List ℕ
fault_said Unknown = codes "no such call"
fault_said Missing = codes "a word is missing"
fault_said Extra = codes "a word too many"
fault_said Wrong = codes "a word is not of its kind, or a number too large"
fault_said TooLong = codes "too long"
fault_said OutOfReach = codes "a message out of reach"
