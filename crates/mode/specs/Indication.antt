-- An indication heard: its refusals in their order, its effect, and both together. NOLINE, which comes before them, is refused in `calls`.
-- Assumes nothing.
use Rattle.std.specs.Prelude.{ℕ, Bool, ◌&&◌, not, List, [], ◌∷◌, eqb, leb, ltb, Ok, Err}
use Rattle.ground.specs.Pick.{pick}
use Rattle.ground.specs.Refusal.{Test, must, verdict, settle}
use Rattle.ground.specs.declared.Refusal.TheVariants.{RANGE, RECOVERY}
use Rattle.mode.specs.declared.Modes.{Modes}
use Rattle.mode.specs.declared.Channels.TheVariants.{Stay}
use Rattle.mode.specs.declared.Heard.{Heard}
use Rattle.mode.specs.declared.Step.{Step}
use Rattle.mode.specs.Given.{audio, text, given}
use Rattle.mode.specs.Moved.{channels_for, moved, trying, in_time, ended}

-- CLOCK, RECOVERY, RANGE (RULES 14.10, RULES 14.21)
abbrev pub hear_tests : Modes → ℕ → ℕ → List Test
hear_tests l k time =
    in_time l time
    -- "request or indication once ended" (RULES 13.15)
    ∷ must (not (ended l)) RECOVERY
    -- "a setting, mode or field outside its range" (RULES 13.13): a, v, m, f or t is indicated
    ∷ must (leb audio k && leb k text) RANGE
    ∷ []

-- the local mode S after an indication: what the indication gives (RULES 9.3); "During recovery .. S stays a" (RULES 10.4)
unfoldable pub heard_mode : Modes → ℕ → ℕ
heard_mode l k = pick (eqb l.tries 0) (given l k) audio

-- the indication is recorded as the remote mode (RULES 9.3); "Hearing a ends recovery" (RULES 10.5, RULES 10.10)
unfoldable pub heard_modes : Modes → ℕ → ℕ → Modes
heard_modes l k time =
    pick (ltb 0 l.tries && eqb k audio)
    (trying (moved l (heard_mode l k) k time) 0 0)
    (moved l (heard_mode l k) k time)

-- "a P' notice is to be sent exactly if the remote mode changed" (RULES 9.8)
abbrev pub notice : Modes → ℕ → Bool
notice l k = not (eqb k l.remote)

-- the call: the first refusal that holds, with nothing changed (RULES 1.6); else "The answer says S", and the notice (RULES 9.8)
unfoldable pub hear_step : Modes → ℕ → ℕ → Step Heard
hear_step l k time =
    settle (verdict (hear_tests l k time))
    (λ r. record { answer = Err r; modes = l; channels = Stay })
    (record { answer = Ok (record { local = heard_mode l k; notice = notice l k }); modes = heard_modes l k time; channels = channels_for l.local (heard_mode l k) })
