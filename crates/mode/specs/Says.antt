-- The number and the values of each case of an answer (RULES 17.3): number 0 where the call is accepted, else the refusal's.
-- Assumes nothing.
use Rattle.std.specs.Prelude.{ℕ, List, [], ◌∷◌, Result, Ok, Err}
use Rattle.ground.specs.Pick.{bit}
use Rattle.ground.specs.Refusal.{Verdict, settle}
use Rattle.ground.specs.Answer.{Answer, accepted, refused}
use Rattle.mode.specs.declared.Due.TheVariants.{Quiet, Audio, Ended}
use Rattle.ground.specs.declared.Refusal.{Refusal}
use Rattle.mode.specs.declared.Heard.{Heard}
use Rattle.mode.specs.declared.Due.{Due}

-- the local mode, and 1 where a P' notice is to be sent (RULES 9.8)
abbrev pub hear_says : Result Heard Refusal → Answer
hear_says (Ok h) = accepted (h.local ∷ bit h.notice ∷ [])
hear_says (Err r) = refused r

-- the local mode (RULES 9.9)
abbrev pub ask_says : Result ℕ Refusal → Answer
ask_says (Ok s) = accepted (s ∷ [])
ask_says (Err r) = refused r

-- 0 nothing due, 1 to 5 the try of the audio indication due, 6 ended (RULES 10.1, RULES 10.3, RULES 10.7)
abbrev pub tick_says : Result Due Refusal → Answer
tick_says (Ok Quiet) = accepted (0 ∷ [])
tick_says (Ok (Audio n)) = accepted (n ∷ [])
tick_says (Ok Ended) = accepted (6 ∷ [])
tick_says (Err r) = refused r

-- what is said by a verdict: the refusal of the first test that fails, else the values
abbrev pub says : Verdict → List ℕ → Answer
says v vs = settle v refused (accepted vs)
