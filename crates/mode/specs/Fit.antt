-- What BOOK reads of the modes of an open line, clause for clause.
-- Assumes nothing.
use Rattle.std.specs.Prelude.{Bool, ◌||◌, not, List, [], ◌∷◌, eqb, leb}
use Rattle.ground.specs.Pick.{all_hold}
use Rattle.mode.specs.declared.Modes.{Modes}
use Rattle.mode.specs.Given.{audio, voiceband, modem, text, offers_vbd, offers_relay}
use Rattle.mode.specs.Moved.{over}

-- BOOK, as far as it reads the modes (RULES 13.18): what is quoted beside a test is what the test refuses
abbrev pub fit_tests : Modes → List Bool
fit_tests l =
    -- "a mode, setting, .. or try outside this paper's spans": a flag is 0 or 1 (RULES 15.2), and then RULES 15.5 to RULES 15.7
    leb l.vbd 1
    ∷ leb l.relay 1
    ∷ leb l.left 1
    ∷ leb audio l.local
    ∷ leb l.local modem
    ∷ leb l.remote text
    ∷ leb l.tries over
    -- "S is a mode not offered", where S is the local mode (RULES 15.19)
    ∷ (not (eqb l.local voiceband) || offers_vbd l)
    ∷ (not (eqb l.local modem) || offers_relay l)
    -- "or not a in recovery or once ended" (RULES 15.20)
    ∷ (eqb l.tries 0 || eqb l.local audio)
    -- "a difference .. timed after the line's last" (RULES 15.21)
    ∷ (eqb l.local l.remote || leb l.since l.last)
    -- "or try timed after the line's last" (RULES 15.21)
    ∷ (eqb l.tries 0 || leb l.tried l.last)
    ∷ []

unfoldable pub modes_fit : Modes → Bool
modes_fit l = all_hold (fit_tests l)
