-- V.150.1, C.5.3.1: when the source has an SSE with S sent, so that the notice of RULES 9.8 can be held against it. No call reads this.
-- Assumes nothing.
use Rattle.std.specs.Prelude.{Bool, ◌&&◌, ◌||◌, not, eqb}
use Rattle.mode.specs.declared.Modes.{Modes}

-- "S1 is not the same as S2", "S1' is not the same as S2'": from the modes l to the modes n
abbrev pub local_changed : Modes → Modes → Bool
local_changed l n = not (eqb n.local l.local)

abbrev pub remote_changed : Modes → Modes → Bool
remote_changed l n = not (eqb n.remote l.remote)

-- "An exception to this is the case where": S' changed, S did not, and they are now the same
abbrev pub was_answer : Modes → Modes → Bool
was_answer l n = remote_changed l n && not (local_changed l n) && eqb n.local n.remote

-- "On any change in the SSE protocol state .. an SSE indicating media state S2 shall be sent", but for the exception
abbrev pub indication_due : Modes → Modes → Bool
indication_due l n = (local_changed l n || remote_changed l n) && not (was_answer l n)
