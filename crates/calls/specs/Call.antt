-- The calls on a book, each with what its caller names. What is lent, a store and an output, stands beside a call and not in it.
-- Assumes nothing.
use Rattle.std.specs.Prelude.{ℕ, List}
use Rattle.line.specs.declared.Settings.{Settings}
use Rattle.mode.specs.Acts.{Act}

pub data Call : Type 0 where
  -- "Opening names line, identifier .., payload type .., whether VBD and modem relay are offered, and the time"
  opening : (line : ℕ) (settings : Settings) (time : ℕ) → Call
  -- closing, which writes a slip
  closing : (line : ℕ) → Call
  -- a mode call: an indication heard, a local request, or a tick
  mode : (line : ℕ) (act : Act) → Call
  -- a message is taken for sending
  taking : (line channel : ℕ) (message : List ℕ) → Call
  -- a held message is written, by its rank
  sending : (line channel rank : ℕ) → Call
  -- an empty packet is written
  empty : (line channel : ℕ) → Call
  -- a packet arrives: it names its line itself
  arrival : (packet : List ℕ) → Call
  -- message R is handed out
  hand_out : (line channel : ℕ) → Call
  -- the report of what is held
  report : (line channel : ℕ) → Call
