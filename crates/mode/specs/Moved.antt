-- The modes at opening and at closing, and what a change of modes or of the try leaves in the record.
-- Assumes nothing.
use Rattle.std.specs.Prelude.{ℕ, Bool, false, ◌&&◌, not, eqb, leb, ltb}
use Rattle.ground.specs.Pick.{pick, bit}
use Rattle.ground.specs.Refusal.{Test, must}
use Rattle.ground.specs.declared.Refusal.TheVariants.{CLOCK}
use Rattle.mode.specs.declared.Modes.{Modes}
use Rattle.mode.specs.declared.Channels.{Channels}
use Rattle.mode.specs.declared.Channels.TheVariants.{Stay, Fresh, Emptied}
use Rattle.mode.specs.Given.{audio, modem}

-- a record of modes, written out once: what is offered, the local and the remote mode, whether modem relay was left, recovery's try, since when the
-- two differ, when the last try was made, and the line's last time
abbrev pub modes_with : ℕ → ℕ → ℕ → ℕ → ℕ → ℕ → ℕ → ℕ → ℕ → Modes
modes_with vbd relay local remote left tries since tried last = record {
  vbd = vbd;
  relay = relay;
  local = local;
  remote = remote;
  left = left;
  tries = tries;
  since = since;
  tried = tried;
  last = last;
}

-- "At opening both are a" (RULES 9.2); "opening .. set[s] the line's last time" (RULES 10.11)
abbrev pub opened_modes : Bool → Bool → ℕ → Modes
opened_modes vbd relay time = modes_with (bit vbd) (bit relay) audio audio 0 0 0 0 time

-- "A closed line's record is as in a fresh book": all numbers and flags 0, both modes a (RULES 7.7)
abbrev pub closed_modes : Modes
closed_modes = opened_modes false false 0

-- the local mode goes from s to s' and enters m, or leaves it
abbrev pub enters : ℕ → ℕ → Bool
enters s s' = not (eqb s modem) && eqb s' modem

abbrev pub leaves : ℕ → ℕ → Bool
leaves s s' = eqb s modem && not (eqb s' modem)

-- "Entering m starts both channels fresh. Leaving m, for any cause, .. empties its stores, owed list included" (RULES 9.12, RULES 9.14)
unfoldable pub channels_for : ℕ → ℕ → Channels
channels_for s s' = pick (enters s s') Fresh (pick (leaves s s') Emptied Stay)

-- "The difference is timed from the event that began it and goes on while they differ, even if either changes" (RULES 10.8): when the
-- present difference began, once the local mode is s and the remote mode r at a time; 0 where a difference has ended (RULES 10.9)
unfoldable pub timed : Modes → ℕ → ℕ → ℕ → ℕ
timed l s r time =
    pick (eqb l.local l.remote)
    (pick (eqb s r) l.since time)
    (pick (eqb s r) 0 l.since)

-- "Leaving m, for any cause, ends relay for that opening" (RULES 9.13): the flag, once the local mode is s
abbrev pub left_by : Modes → ℕ → ℕ
left_by l s = pick (leaves l.local s) 1 l.left

-- the record once the local mode is s and the remote mode r at a time
unfoldable pub moved : Modes → ℕ → ℕ → ℕ → Modes
moved l s r time = modes_with l.vbd l.relay s r (left_by l s) l.tries (timed l s r time) l.tried time

-- the record at try n, the last try made at a time (RULES 10.10)
unfoldable pub trying : Modes → ℕ → ℕ → Modes
trying l n time = modes_with l.vbd l.relay l.local l.remote l.left n l.since time l.last

-- nothing changes but the line's last time (RULES 10.11)
unfoldable pub stayed : Modes → ℕ → Modes
stayed l time = modes_with l.vbd l.relay l.local l.remote l.left l.tries l.since l.tried time

-- recovery's count of tries: the last try, and the number that stands for a line that recovery has ended (RULES 10.6, RULES 15.7)
abbrev pub last_try : ℕ
last_try = 5

abbrev pub over : ℕ
over = 6

-- the line has ended by recovery (RULES 10.6)
abbrev pub ended : Modes → Bool
ended l = ltb last_try l.tries

-- CLOCK, "time below the line's last" (RULES 13.14): the first test of every mode call (RULES 14.21)
abbrev pub in_time : Modes → ℕ → Test
in_time l time = must (leb l.last time) CLOCK
