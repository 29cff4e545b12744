-- DEMAND 1, asked of any build: whatever a call is handed, it refuses by the first of its tests that fails, in the order of the rules, and a refusal
-- changes nothing. `order` is the list of a call's tests (RULES section 14). That a call ends is no question here, where each is a function.
-- Assumes nothing.
use Rattle.std.specs.Prelude.{ℕ, ◌≡◌, List, length, Ok, Err}
use Rattle.ground.specs.Answer.{refused}
use Rattle.ground.specs.Refusal.{Test, verdict}
use Rattle.ground.specs.declared.Refusal.{Refusal}
use Rattle.connect.specs.Read as connect
use Rattle.connect.specs.Write as body
use Rattle.connect.specs.declared.Connect.{Connect}
use Rattle.breaks.specs.Break as breaks
use Rattle.breaks.specs.declared.Break.{Break}
use Rattle.slip.specs.Slip as slip
use Rattle.book.specs.declared.Book.{Book}
use Rattle.calls.specs.Call.{Call}
use Rattle.calls.specs.Order.{order}
use Rattle.calls.specs.Result.{CallResult, result_with}
use Rattle.promise.specs.Build.{Left, Build}

-- An outcome x, by the tests that were made: where one fails, it is the refusal of the first that does, `unchanged`; where none fails, its number is 0.
pub record Settled {A : Type 0} (ts : List Test) (unchanged : Refusal → A) (number : A → ℕ) (x : A) : Type 0 where
  pub refuses : (r : Refusal) → verdict ts ≡ Err r → x ≡ unchanged r
  pub accepts : verdict ts ≡ Ok tt → number x ≡ 0

-- a body that is refused: the number alone, and the output as it was
abbrev pub unwritten : List ℕ → Refusal → Left
unwritten out r = record { answer = refused r; out = out }

pub record Demand1 (b : Build) : Type 0 where
  -- "Every call accepts every packet, message, setting, clock and book it is handed, ends, and refuses by the numbers in document 01. A refusal
  -- changes no stored state and no lent octet."
  pub calls : (c : Call) (book : Book) (store out : List ℕ)
      → Settled (order c book (length store) (length out)) (λ r. result_with (refused r) book store out) (λ (d : CallResult). d.answer.number) (b.does c book store out)
  -- so of the calls without a book: any octets may be read, any values written, into any output
  pub connect_reads : (s : List ℕ) → Settled (connect.read_tests s) refused (λ a. a.number) (b.bodies.connect_read s)
  pub connect_writes : (c : Connect) (out : List ℕ) → Settled (body.write_tests c (length out)) (unwritten out) (λ w. w.answer.number) (b.bodies.connect_write c out)
  pub break_reads : (s : List ℕ) → Settled (breaks.read_tests s) refused (λ a. a.number) (b.bodies.break_read s)
  pub break_writes : (c : Break) (out : List ℕ) → Settled (breaks.write_tests c (length out)) (unwritten out) (λ w. w.answer.number) (b.bodies.break_write c out)
  pub slip_reads : (s : List ℕ) → Settled (slip.read_tests s) refused (λ a. a.number) (b.bodies.slip_read s)
