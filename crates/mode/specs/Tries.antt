-- Which tries of the audio indication a tick may answer.
-- Assumes nothing.
use Rattle.std.specs.Prelude.{◌≤◌, Result, Ok, Err}
use Rattle.mode.specs.declared.Due.TheVariants.{Quiet, Audio, Ended}
use Rattle.ground.specs.declared.Refusal.{Refusal}
use Rattle.mode.specs.declared.Due.{Due}

-- "try 1" to "try 5": 0 and 6 are no tries, they say that nothing is due and that the line has ended
abbrev pub Tries : Result Due Refusal → Type 0
Tries (Ok Quiet) = Unit
Tries (Ok (Audio n)) = (1 ≤ n) × (n ≤ 5)
Tries (Ok Ended) = Unit
Tries (Err r) = Unit
