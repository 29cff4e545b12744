-- What an indication gives: the choices of RULES 9.4 to RULES 9.7 among those that Table C.2 permits, and what a line offers.
-- Assumes nothing.
use Rattle.std.specs.Prelude.{ℕ, Bool, ◌&&◌, ◌||◌, not, eqb}
use Rattle.ground.specs.Pick.{pick}
use Rattle.mode.specs.declared.Modes.{Modes}

-- the modes by Table C.1's event numbers; 0 is i (RULES 9.1)
abbrev pub unknown : ℕ
unknown = 0

abbrev pub audio : ℕ
audio = 1

abbrev pub voiceband : ℕ
voiceband = 2

abbrev pub modem : ℕ
modem = 3

abbrev pub fax : ℕ
fax = 4

abbrev pub text : ℕ
text = 5

-- a flag is set exactly if it is 1 (RULES 15.2): VBD is offered, modem relay is offered, modem relay was left in this opening
abbrev pub offers_vbd : Modes → Bool
offers_vbd l = eqb l.vbd 1

abbrev pub offers_relay : Modes → Bool
offers_relay l = eqb l.relay 1

abbrev pub has_left : Modes → Bool
has_left l = eqb l.left 1

-- a local mode that the line offers: a always, v and m as opening named them, no other (RULES 7.1, RULES 13.13)
abbrev pub offered : Modes → ℕ → Bool
offered l k = eqb k audio || (eqb k voiceband && offers_vbd l) || (eqb k modem && offers_relay l)

-- "v gives v if offered, else a" (RULES 9.5)
abbrev pub as_voiceband : Modes → ℕ
as_voiceband l = pick (offers_vbd l) voiceband audio

-- m is "offered and the line has not been in m before or is in it now" (RULES 9.6)
abbrev pub may_relay : Modes → Bool
may_relay l = offers_relay l && (not (has_left l) || eqb l.local modem)

-- "m gives m if" it may; "else as for v" (RULES 9.6)
abbrev pub as_modem : Modes → ℕ
as_modem l = pick (may_relay l) modem (as_voiceband l)

-- "f and t give as for v" (RULES 9.7): the one place where what fax and text give is chosen
unfoldable pub fax_or_text : Modes → ℕ
fax_or_text l = as_voiceband l

-- "On an indication heard" (RULES 9.3): a gives a (RULES 9.4), and v, m, f and t give what is defined above
unfoldable pub given : Modes → ℕ → ℕ
given l k =
    pick (eqb k audio) audio
    (pick (eqb k voiceband) (as_voiceband l)
    (pick (eqb k modem) (as_modem l)
    (fax_or_text l)))
