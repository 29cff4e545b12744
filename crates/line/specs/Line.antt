-- A line's record: closed, just opened, and its two channels.
-- Assumes nothing.
use Rattle.std.specs.Prelude.{ℕ, Bool, eqb}
use Rattle.sending.specs.Sending.{fresh_sending}
use Rattle.receiving.specs.Receiving.{fresh_receiving}
use Rattle.sending.specs.declared.Sending.{Sending}
use Rattle.receiving.specs.declared.Receiving.{Receiving}
use Rattle.mode.specs.Moved.{opened_modes, closed_modes}
use Rattle.mode.specs.declared.Modes.{Modes}
use Rattle.owed.specs.Owed.{fresh_owed}
use Rattle.owed.specs.declared.Owed.{Owed}
use Rattle.line.specs.declared.Line.{Line}
use Rattle.line.specs.Sides.{side_of, with_side}
use Rattle.line.specs.declared.Settings.{Settings}

-- the line is open: exactly if its flag is 1 (RULES 15.2)
abbrev pub is_open : Line → Bool
is_open l = eqb l.opened 1

-- a line's record, written out once: whether it is open, what opening named, its modes, its sides, and what it owes
abbrev pub line_with : ℕ → ℕ → ℕ → Modes → Sending → Sending → Receiving → Receiving → Owed → Line
line_with opened identifier kind modes s t q r owed = record {
  opened = opened;
  identifier = identifier;
  kind = kind;
  modes = modes;
  sending = record { one = s; two = t };
  receiving = record { one = q; two = r };
  owed = owed;
}

-- "A closed line's record is as in a fresh book" (RULES 7.5, RULES 7.7)
abbrev pub closed_line : Line
closed_line = line_with 0 0 0 closed_modes fresh_sending fresh_sending fresh_receiving fresh_receiving fresh_owed

-- "Opening names line, identifier .., payload type .., whether VBD and modem relay are offered, and the time" (RULES 7.1, RULES 7.3)
abbrev pub opened_line : Settings → ℕ → Line
opened_line s time = line_with 1 s.identifier s.kind (opened_modes s.vbd s.relay time) fresh_sending fresh_sending fresh_receiving fresh_receiving fresh_owed

-- the line with other modes, sides and owed list; its settings stay
abbrev pub with_parts : Line → Modes → Sending → Sending → Receiving → Receiving → Owed → Line
with_parts l = line_with l.opened l.identifier l.kind

-- the sides of channel 1, or else of channel 2
abbrev pub sending_of : Line → ℕ → Sending
sending_of l channel = side_of l.sending channel

abbrev pub receiving_of : Line → ℕ → Receiving
receiving_of l channel = side_of l.receiving channel

-- the line with another owed list
abbrev pub with_owed : Line → Owed → Line
with_owed l = with_parts l l.modes l.sending.one l.sending.two l.receiving.one l.receiving.two

-- the line with another side of one channel
abbrev pub with_sending : Line → ℕ → Sending → Line
with_sending l channel s =
    let both = with_side l.sending channel s in
    with_parts l l.modes both.one both.two l.receiving.one l.receiving.two l.owed

abbrev pub with_receiving : Line → ℕ → Receiving → Line
with_receiving l channel r =
    let both = with_side l.receiving channel r in
    with_parts l l.modes l.sending.one l.sending.two both.one both.two l.owed
