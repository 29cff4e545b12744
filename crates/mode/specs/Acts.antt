-- Mode calls one after another: what promises about any sequence of them speak of.
-- Assumes nothing.
use Rattle.std.specs.Prelude.{ℕ, ◌≡◌, List, [], ◌∷◌, ◌++◌, Result, Ok, Err}
use Rattle.ground.specs.Refusal.{Test}
use Rattle.mode.specs.declared.Modes.{Modes}
use Rattle.mode.specs.declared.Channels.{Channels}
use Rattle.mode.specs.declared.Heard.{Heard}
use Rattle.mode.specs.declared.Step.{Step}
use Rattle.mode.specs.Given.{audio}
use Rattle.mode.specs.Indication.{hear_tests, hear_step}
use Rattle.mode.specs.Request.{ask_tests, ask_step}
use Rattle.mode.specs.Recovery.{tick_tests, tick_step}
use Rattle.ground.specs.Answer.{Answer}
use Rattle.mode.specs.Says.{hear_says, ask_says, tick_says}
use Rattle.mode.specs.declared.Due.TheVariants.{Quiet, Audio, Ended}
use Rattle.ground.specs.declared.Refusal.{Refusal}
use Rattle.mode.specs.declared.Due.{Due}

-- a mode call with its arguments, whatever they are
pub data Act : Type 0 where
  hear : (mode : ℕ) (time : ℕ) → Act
  ask : (mode : ℕ) (time : ℕ) → Act
  tick : (time : ℕ) → Act

-- what refuses a mode call once its line is known to be open, in order (RULES 14.10, RULES 14.11, RULES 14.12)
abbrev pub act_tests : Modes → Act → List Test
act_tests l (hear mode time) = hear_tests l mode time
act_tests l (ask mode time) = ask_tests l mode time
act_tests l (tick time) = tick_tests l time

-- what a mode call gives, its answer as number and values (RULES 17.3)
pub record Outcome : Type 0 where
  pub said : Answer
  pub modes : Modes
  pub channels : Channels

abbrev pub hear_outcome : Step Heard → Outcome
hear_outcome o = record { said = hear_says o.answer; modes = o.modes; channels = o.channels }

abbrev pub ask_outcome : Step ℕ → Outcome
ask_outcome o = record { said = ask_says o.answer; modes = o.modes; channels = o.channels }

abbrev pub tick_outcome : Step Due → Outcome
tick_outcome o = record { said = tick_says o.answer; modes = o.modes; channels = o.channels }

abbrev pub outcome : Modes → Act → Outcome
outcome l (hear mode time) = hear_outcome (hear_step l mode time)
outcome l (ask mode time) = ask_outcome (ask_step l mode time)
outcome l (tick time) = tick_outcome (tick_step l time)

-- the modes after one call, and after several
abbrev pub after : Modes → Act → Modes
after l act = (outcome l act).modes

unfoldable pub run : Modes → List Act → Modes
run l [] = l
run l (act ∷ acts) = run (after l act) acts

-- the time that a call names
abbrev pub time_of : Act → ℕ
time_of (hear mode time) = time
time_of (ask mode time) = time
time_of (tick time) = time

-- the audio indications that a call calls for, each by its try (RULES 10.1, RULES 10.2)
abbrev pub called_by : Result Due Refusal → List ℕ
called_by (Ok Quiet) = []
called_by (Ok (Audio n)) = n ∷ []
called_by (Ok Ended) = []
called_by (Err r) = []

abbrev pub called : Modes → Act → List ℕ
called l (hear mode time) = []
called l (ask mode time) = []
called l (tick time) = called_by (tick_step l time).answer

-- and those that several calls call for, in order
unfoldable pub called_in : Modes → List Act → List ℕ
called_in l [] = []
called_in l (act ∷ acts) = called l act ++ called_in (after l act) acts

-- "While no a is heard", which would end recovery (RULES 10.5): none of the calls is an indication of a
abbrev pub NoAudio : Act → Type 0
NoAudio (hear mode time) = mode ≡ audio → ⊥
NoAudio (ask mode time) = Unit
NoAudio (tick time) = Unit

abbrev pub NoneAudio : List Act → Type 0
NoneAudio [] = Unit
NoneAudio (act ∷ acts) = NoAudio act × NoneAudio acts

-- "S and the remote mode" agree, or "differ" (RULES 10.1), where S is the local mode
abbrev pub Agree : Modes → Type 0
Agree l = l.local ≡ l.remote

abbrev pub Differ : Modes → Type 0
Differ l = Agree l → ⊥

-- "while they differ" (RULES 10.8): they do after each of the calls
abbrev pub Apart : Modes → List Act → Type 0
Apart l [] = Unit
Apart l (act ∷ acts) = Differ (after l act) × Apart (after l act) acts
