-- What a mode call leaves of its book, by the step that its line's modes make.
-- Assumes nothing.
use Rattle.std.specs.Prelude.{ℕ, Result, Ok, Err}
use Rattle.ground.specs.declared.Refusal.{Refusal}
use Rattle.mode.specs.declared.Step.{Step}
use Rattle.line.specs.Mode.{stepped_to}
use Rattle.book.specs.Book.{line_of, with_line}
use Rattle.book.specs.declared.Book.{Book}
use Rattle.calls.specs.declared.After.{After}

-- an answer beside the book that it leaves, or the refusal alone
abbrev pub beside : {A : Type 0} → Book → Result A Refusal → Result (After A) Refusal
beside b (Ok x) = Ok (record { book = b; answer = x })
beside b (Err r) = Err r

-- line i has its step's modes and channels
abbrev pub after_step : {A : Type 0} → Book → ℕ → Step A → Result (After A) Refusal
after_step b i s = beside (with_line b i (stepped_to (line_of b i) s.modes s.channels)) s.answer
