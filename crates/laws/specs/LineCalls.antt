-- Which calls are for a line, and what it is that two calls come to the same on a line.
-- Assumes nothing.
use Rattle.std.specs.Prelude.{ℕ, ◌≡◌, Bool, eqb}
use Rattle.packet.specs.Read.{head_at}
use Rattle.book.specs.Book.{line_of}
use Rattle.book.specs.Parts.{part_of}
use Rattle.calls.specs.Call.{Call}
use Rattle.calls.specs.Call as call
use Rattle.calls.specs.Result.{CallResult}

-- The calls for line i: those that name it, and the packets with its identifier. A packet is its line's by its identifier and not by where it is found.
abbrev pub for_line : ℕ → ℕ → Call → Bool
for_line i identifier (call.opening j s time) = eqb j i
for_line i identifier (call.closing j) = eqb j i
for_line i identifier (call.mode j a) = eqb j i
for_line i identifier (call.taking j channel message) = eqb j i
for_line i identifier (call.sending j channel rank) = eqb j i
for_line i identifier (call.empty j channel) = eqb j i
for_line i identifier (call.arrival s) = eqb (head_at s).identifier identifier
for_line i identifier (call.hand_out j channel) = eqb j i
for_line i identifier (call.report j channel) = eqb j i

-- Two calls gave the same answer and left the same in the output, in the record of line i and in its part of the store.
pub record SameOnLine (i : ℕ) (d e : CallResult) : Type 0 where
  pub answer : d.answer ≡ e.answer
  pub out : d.out ≡ e.out
  pub line : line_of d.book i ≡ line_of e.book i
  pub part : part_of d.book i d.store ≡ part_of e.book i e.store
