-- What the relay calls ask of their line first: "NOLINE, MODE, CHANNEL".
-- Assumes nothing.
use Rattle.std.specs.Prelude.{ℕ, Bool, ◌||◌, List, [], ◌∷◌, ◌++◌, eqb}
use Rattle.ground.specs.Refusal.{Test, must}
use Rattle.ground.specs.declared.Refusal.TheVariants.{NOLINE, MODE, CHANNEL}
use Rattle.mode.specs.Given.{modem}
use Rattle.line.specs.Line.{is_open}
use Rattle.line.specs.declared.Line.{Line}

-- "relay call .. outside m" (RULES 13.5)
abbrev pub in_relay : Line → Bool
in_relay l = eqb l.modes.local modem

-- a call on a line's channels asks "NOLINE, MODE" first (RULES 14.3 to RULES 14.7)
abbrev pub relay_line_tests : Line → List Test
relay_line_tests l = must (is_open l) NOLINE ∷ must (in_relay l) MODE ∷ []

-- "message call not naming 1 or 2" (RULES 13.6)
abbrev pub reliable : ℕ → Bool
reliable channel = eqb channel 1 || eqb channel 2

-- and a call on a reliable channel asks CHANNEL too (RULES 14.3, RULES 14.4, RULES 14.5, RULES 14.7)
unfoldable pub relay_channel_tests : Line → ℕ → List Test
relay_channel_tests l channel = relay_line_tests l ++ (must (reliable channel) CHANNEL ∷ [])
