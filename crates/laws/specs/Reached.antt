-- Calls one after another, from a book on. Each is lent a store and an output of its own: a book that is reached is one that any calls leave, whoever
-- keeps the stores. A caller that lends one store all the time is a case of it.
-- Assumes nothing.
use Rattle.std.specs.Prelude.{ℕ, ◌+◌, Bool, true, false, ◌&&◌, List, [], ◌∷◌, eqb}
use Rattle.ground.specs.Pick.{pick}
use Rattle.book.specs.declared.Book.{Book}
use Rattle.calls.specs.Call.{Call}
use Rattle.calls.specs.Call as call
use Rattle.calls.specs.Result.{CallResult, result_of}

-- a call, with the store and the output that are lent to it
pub record Turn : Type 0 where
  pub call : Call
  pub store : List ℕ
  pub out : List ℕ

-- what a turn does
abbrev pub turned : Book → Turn → CallResult
turned b t = result_of t.call b t.store t.out

-- the book that the turns leave, each on what the one before it left
unfoldable pub reach : Book → List Turn → Book
reach b [] = b
reach b (t ∷ ts) = reach (turned b t).book ts

-- the call is a closing
abbrev pub is_closing : Call → Bool
is_closing (call.opening i s time) = false
is_closing (call.closing i) = true
is_closing (call.mode i a) = false
is_closing (call.taking i channel message) = false
is_closing (call.sending i channel rank) = false
is_closing (call.empty i channel) = false
is_closing (call.arrival s) = false
is_closing (call.hand_out i channel) = false
is_closing (call.report i channel) = false

-- the turn closes a line: it is a closing, and is accepted
abbrev pub closes : Book → Turn → Bool
closes b t = is_closing t.call && eqb (turned b t).answer.number 0

-- how many of the turns close a line
unfoldable pub closings : Book → List Turn → ℕ
closings b [] = 0
closings b (t ∷ ts) = pick (closes b t) 1 0 + closings (turned b t).book ts
