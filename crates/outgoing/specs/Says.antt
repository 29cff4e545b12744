-- The rules' number and values (RULES 17.3) for each case of an answer: number 0 where the call is accepted, else the refusal's.
-- Assumes nothing.
use Rattle.std.specs.Prelude.{ℕ, [], ◌∷◌, Result, Ok, Err}
use Rattle.ground.specs.Answer.{Answer, accepted, refused}
use Rattle.ground.specs.declared.Refusal.{Refusal}

-- the message's number in its 14 bits
abbrev pub take_says : Result ℕ Refusal → Answer
take_says (Ok n) = accepted (n ∷ [])
take_says (Err r) = refused r

abbrev pub held_says : Result ℕ Refusal → Answer
held_says (Ok n) = accepted (n ∷ [])
held_says (Err r) = refused r
