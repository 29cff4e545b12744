-- A tick and recovery: when a try is due, what a tick makes of the modes, what it answers.
-- Assumes nothing.
use Rattle.std.specs.Prelude.{ℕ, ◌+◌, ◌-◌, Bool, ◌&&◌, not, List, [], ◌∷◌, eqb, leb, ltb, Ok, Err}
use Rattle.ground.specs.Pick.{pick}
use Rattle.ground.specs.Refusal.{Test, verdict, settle}
use Rattle.mode.specs.declared.Modes.{Modes}
use Rattle.mode.specs.declared.Channels.TheVariants.{Stay}
use Rattle.mode.specs.declared.Step.{Step}
use Rattle.mode.specs.Given.{unknown, audio}
use Rattle.mode.specs.Moved.{channels_for, moved, trying, stayed, last_try, over, in_time, ended}
use Rattle.mode.specs.declared.Due.TheVariants.{Quiet, Audio, Ended}
use Rattle.mode.specs.declared.Due.{Due}

-- CLOCK (RULES 14.12, RULES 14.21)
abbrev pub tick_tests : Modes → ℕ → List Test
tick_tests l time = in_time l time ∷ []

-- "a tick finds S and the remote mode to have differed for more than 1,000 ms", where S is the local mode (RULES 10.1)
abbrev pub differed_long : Modes → ℕ → Bool
differed_long l time = not (eqb l.local l.remote) && ltb 1000 (time - l.since)

-- "a tick 1,000 ms or more after the last try" (RULES 10.2)
abbrev pub tried_long : Modes → ℕ → Bool
tried_long l time = leb 1000 (time - l.tried)

-- a try, or the end after the last one, is due at a tick (RULES 10.1, RULES 10.2); nothing is due on a line that has ended (RULES 10.7)
unfoldable pub due : Modes → ℕ → Bool
due l time = not (ended l) && pick (eqb l.tries 0) (differed_long l time) (tried_long l time)

-- "Then S is a, the remote mode i, and an audio indication is due at once: try 1" (RULES 10.1); later "sends one more" (RULES 10.2);
-- "After try 5 the next one due ends the line instead" (RULES 10.6)
unfoldable pub ticked_modes : Modes → ℕ → Modes
ticked_modes l time =
    pick (due l time)
    (pick (eqb l.tries 0) (trying (moved l audio unknown time) 1 time)
    (pick (eqb l.tries last_try) (trying (stayed l time) over l.tried)
    (trying (stayed l time) (l.tries + 1) time)))
    (stayed l time)

-- what the tick answers: the try that it makes (RULES 10.1, RULES 10.2), or that nothing is due (RULES 10.3), or that the line has ended
-- (RULES 10.6); "A tick on an ended line says ended again" (RULES 10.7)
unfoldable pub ticked_answer : Modes → ℕ → Due
ticked_answer l time =
    pick (ended l) Ended
    (pick (due l time)
    (pick (eqb l.tries last_try) Ended (Audio (l.tries + 1)))
    Quiet)

-- the same as a number: the try that a tick makes, 0 where nothing is due, 6 where the line has ended
abbrev pub try_due : Modes → ℕ → ℕ
try_due l time = pick (ended l) over (pick (due l time) (l.tries + 1) 0)

-- the call: CLOCK, with nothing changed (RULES 1.6); else what the tick makes and answers
unfoldable pub tick_step : Modes → ℕ → Step Due
tick_step l time =
    settle (verdict (tick_tests l time))
    (λ r. record { answer = Err r; modes = l; channels = Stay })
    (record { answer = Ok (ticked_answer l time); modes = ticked_modes l time; channels = channels_for l.local (ticked_modes l time).local })
