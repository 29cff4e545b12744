-- What BOOK asks of one line (RULES 13.18). Of a closed one it reads the flag that says so and nothing else (RULES 15.1).
-- Assumes nothing.
use Rattle.std.specs.Prelude.{Bool, ◌||◌, List, [], ◌∷◌, leb, eqb}
use Rattle.ground.specs.Pick.{pick, all_hold}
use Rattle.sending.specs.Sending.{sending_fits}
use Rattle.receiving.specs.Receiving.{receiving_fits}
use Rattle.mode.specs.Given.{modem, offers_vbd, offers_relay}
use Rattle.mode.specs.Fit.{modes_fit}
use Rattle.owed.specs.Owed.{owed_fits}
use Rattle.line.specs.Figures.{send_window, receive_window, send_largest, receive_largest}
use Rattle.line.specs.declared.Line.{Line}
use Rattle.line.specs.declared.Settings.{Settings}
use Rattle.line.specs.Line.{is_open}
use Rattle.places.specs.Places.{mask_of}

-- "identifier 0 to 127, payload type 96 to 127" (RULES 7.1, RULES 15.3, RULES 15.4)
abbrev pub settings_fit : Settings → Bool
settings_fit s = all_hold (leb s.identifier 127 ∷ leb 96 s.kind ∷ leb s.kind 127 ∷ [])

-- what opening named of an open line, as its record has it
abbrev pub settings_of : Line → Settings
settings_of l = record { identifier = l.identifier; kind = l.kind; vbd = offers_vbd l.modes; relay = offers_relay l.modes }

-- nothing is held, stored or owed (RULES 15.22)
abbrev pub idle : Line → Bool
idle l =
    all_hold
    (eqb (mask_of l.sending.one.unacked) 0 ∷ eqb (mask_of l.sending.two.unacked) 0
    ∷ eqb (mask_of l.receiving.one.stored) 0 ∷ eqb (mask_of l.receiving.two.stored) 0
    ∷ eqb l.owed.count 0 ∷ [])

-- the clauses of an open line (RULES 15.2 to RULES 15.22): its settings, its modes, its sides, what it owes, and not "anything held,
-- stored or owed outside m"
abbrev pub line_tests : Line → List Bool
line_tests l =
    settings_fit (settings_of l)
    ∷ modes_fit l.modes
    ∷ sending_fits (send_window l 1) (send_largest l) l.sending.one
    ∷ sending_fits (send_window l 2) (send_largest l) l.sending.two
    ∷ receiving_fits (receive_window l 1) (receive_largest l) l.receiving.one
    ∷ receiving_fits (receive_window l 2) (receive_largest l) l.receiving.two
    ∷ owed_fits l.owed
    ∷ (eqb l.modes.local modem || idle l)
    ∷ []

-- of a line that is not open, that its flag is 0, and nothing else (RULES 15.1, RULES 15.2)
unfoldable pub line_fits : Line → Bool
line_fits l = pick (is_open l) (all_hold (line_tests l)) (eqb l.opened 0)
