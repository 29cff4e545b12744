-- The rules' number and values (RULES 17.3) for each case of the answer to an opening: number 0 where the call is accepted, else the refusal's.
-- Assumes nothing.
use Rattle.std.specs.Prelude.{[], Ok, Err}
use Rattle.ground.specs.Answer.{Answer, accepted, refused}
use Rattle.ground.specs.Refusal.{Verdict}

abbrev pub open_says : Verdict → Answer
open_says (Ok tt) = accepted []
open_says (Err r) = refused r
