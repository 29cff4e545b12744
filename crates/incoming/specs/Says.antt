-- The rules' number and values (RULES 17.3) for each case of an answer: number 0 where the call is accepted, else the refusal's.
-- Assumes nothing.
use Rattle.std.specs.Prelude.{ℕ, [], ◌∷◌, Result, Ok, Err}
use Rattle.ground.specs.Answer.{Answer, accepted, refused}
use Rattle.ground.specs.declared.Refusal.{Refusal}

-- the line that the packet was for
abbrev pub arrive_says : Result ℕ Refusal → Answer
arrive_says (Ok i) = accepted (i ∷ [])
arrive_says (Err r) = refused r
