-- A build: what its calls do to a book, a store and an output, and what its bodies and slips read and write. What a promise asks is asked of any.
-- Assumes nothing.
use Rattle.std.specs.Prelude.{ℕ, List, length, take, get_or, Result, Ok, Err}
use Rattle.ground.specs.Answer.{Answer, write_says, contents}
use Rattle.ground.specs.Refusal.{Verdict, verdict, settle}
use Rattle.connect.specs.Read.{connect_read}
use Rattle.connect.specs.Read as connect
use Rattle.connect.specs.Write.{connect_octets}
use Rattle.connect.specs.Write as body
use Rattle.connect.specs.declared.Connect.{Connect}
use Rattle.breaks.specs.Break as breaks
use Rattle.breaks.specs.declared.Break.{Break}
use Rattle.slip.specs.Slip as slip
use Rattle.book.specs.declared.Book.{Book}
use Rattle.calls.specs.Call.{Call}
use Rattle.calls.specs.Result.{CallResult, result_of}
use Rattle.ground.specs.declared.Refusal.{Refusal}

-- a call on a book, with the store and the output that are lent to it
abbrev pub Does : Type 0
Does = Call → Book → List ℕ → List ℕ → CallResult

-- a body written: the answer, and all that the output holds then
pub record Left : Type 0 where
  pub answer : Answer
  pub out : List ℕ

-- the octets that were written: as many as the answer says
abbrev pub octets_left : Left → List ℕ
octets_left w = take (get_or w.answer.values 0 0) w.out

-- the readers and writers of bodies and slips: a new body is a field here
pub record Bodies : Type 0 where
  pub connect_read : List ℕ → Answer
  pub connect_write : Connect → List ℕ → Left
  pub break_read : List ℕ → Answer
  pub break_write : Break → List ℕ → Left
  pub slip_read : List ℕ → Answer

pub record Build : Type 0 where
  pub does : Does
  pub bodies : Bodies

-- octets written into an output, or a refusal
abbrev pub left_by : Verdict → List ℕ → List ℕ → Left
left_by v octets out =
    let w : Result ℕ Refusal = settle v Err (Ok (length octets)) in
    record { answer = write_says w; out = contents w octets out }

-- OURS: the definitions that the code is proved to meet, answers as document 01's numbers and values
abbrev pub our_bodies : Bodies
our_bodies =
    record {
      connect_read = λ s. connect.answer_of (connect_read s);
      connect_write = λ c out. left_by (verdict (body.write_tests c (length out))) (connect_octets c) out;
      break_read = λ s. breaks.answer_of (breaks.break_read s);
      break_write = λ b out. left_by (verdict (breaks.write_tests b (length out))) (breaks.break_octets b) out;
      slip_read = λ s. slip.answer_of (slip.slip_read s);
    }

abbrev pub ours : Build
ours = record { does = result_of; bodies = our_bodies }
