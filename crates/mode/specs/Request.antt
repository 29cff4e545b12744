-- A local request: its refusals in their order, its effect, and both together. NOLINE, which comes before them, is refused in `calls`.
-- Assumes nothing.
use Rattle.std.specs.Prelude.{ℕ, ◌&&◌, not, List, [], ◌∷◌, eqb, Ok, Err}
use Rattle.ground.specs.Refusal.{Test, must, verdict, settle}
use Rattle.ground.specs.declared.Refusal.TheVariants.{MODE, RANGE, RECOVERY}
use Rattle.mode.specs.declared.Modes.{Modes}
use Rattle.mode.specs.declared.Channels.TheVariants.{Stay}
use Rattle.mode.specs.declared.Step.{Step}
use Rattle.mode.specs.Given.{modem, has_left, offered}
use Rattle.mode.specs.Moved.{channels_for, moved, in_time}

-- "CLOCK, RECOVERY, RANGE, MODE" (RULES 14.11, RULES 14.21)
abbrev pub ask_tests : Modes → ℕ → ℕ → List Test
ask_tests l k time =
    in_time l time
    -- "request while recovering; request or indication once ended" (RULES 13.15)
    ∷ must (eqb l.tries 0) RECOVERY
    -- "a request for a mode not offered" (RULES 13.13)
    ∷ must (offered l k) RANGE
    -- "request for m once m was left" (RULES 13.5)
    ∷ must (not (eqb k modem && has_left l)) MODE
    ∷ []

-- the call: the first refusal that holds, with nothing changed (RULES 1.6); else the local mode is the one named (RULES 9.9), and the
-- remote mode stays (RULES 9.11)
unfoldable pub ask_step : Modes → ℕ → ℕ → Step ℕ
ask_step l k time =
    settle (verdict (ask_tests l k time))
    (λ r. record { answer = Err r; modes = l; channels = Stay })
    (record { answer = Ok k; modes = moved l k l.remote time; channels = channels_for l.local k })
