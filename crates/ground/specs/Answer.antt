-- What a call answers, as a number and values, and what an enum's value stands for (RULES 17.3).
-- Assumes nothing.
use Rattle.std.specs.Prelude.{ℕ, ◌≡◌, List, [], ◌∷◌, ◌++◌, length, drop, Result, Ok, Err}
use Rattle.ground.specs.Refusal.{number_of, Test, verdict, settle}
use Rattle.ground.specs.declared.Refusal.{Refusal}

-- the refusal's number, 0 where the call is accepted, and the values that it answers (RULES 1.6)
pub record Answer : Type 0 where
  pub number : ℕ
  pub values : List ℕ

abbrev pub accepted : List ℕ → Answer
accepted vs = record { number = 0; values = vs }

-- "Each refusal returns its number alone" (RULES 1.6)
abbrev pub refused : Refusal → Answer
refused r = record { number = number_of r; values = [] }

-- what a call answers by its tests in their order: a refusal, or this value
abbrev pub answered : {A : Type 0} → List Test → A → Result A Refusal
answered ts x = settle (verdict ts) Err (Ok x)

-- An answer r is what the tests in their order come to: a refusal, or this value. It is said both as a result and as number and
-- values (RULES 17.3).
pub record Gives {A : Type 0} (answer_of : Result A Refusal → Answer) (ts : List Test) (value : A) (r : Result A Refusal) : Type 0 where
  pub is : r ≡ answered ts value
  pub answer : answer_of r ≡ settle (verdict ts) refused (answer_of (Ok value))

-- "the answer gives the count written" (RULES 1.8)
abbrev pub write_says : Result ℕ Refusal → Answer
write_says (Ok n) = accepted (n ∷ [])
write_says (Err r) = refused r

-- "An output's octets past what is written stay"; a refusal changes no octet (RULES 1.6, RULES 1.8)
abbrev pub contents : Result ℕ Refusal → List ℕ → List ℕ → List ℕ
contents (Ok n) octets l = octets ++ drop n l
contents (Err r) octets l = l

-- What a call that writes octets into an output promises: its answer, and all that the output holds then (RULES 17.1).
pub record Writes (ts : List Test) (octets before after : List ℕ) (r : Result ℕ Refusal) : Type 0 where
  pub gives : Gives write_says ts (length octets) r
  pub leaves : after ≡ contents r octets before
