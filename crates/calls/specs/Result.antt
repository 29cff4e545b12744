-- What a call does: its answer, and what it leaves in the book, in the store and in the output.
-- Assumes nothing.
use Rattle.std.specs.Prelude.{ℕ, ◌%◌, Bool, true, false, List, [], ◌∷◌, ◌++◌, length, drop, Result, Ok, Err}
use Rattle.ground.specs.Refusal.{verdict, settle}
use Rattle.ground.specs.Answer.{Answer, accepted, refused}
use Rattle.slip.specs.Slip.{slip_octets}
use Rattle.slip.specs.declared.Slip.{Slip}
use Rattle.channel.specs.Channel.{modulus}
use Rattle.sending.specs.Sending.{held_count}
use Rattle.mode.specs.Moved.{ended}
use Rattle.mode.specs.Acts.{outcome}
use Rattle.ground.specs.Pick.{pick, bit}
use Rattle.line.specs.Line.{closed_line, opened_line, sending_of}
use Rattle.line.specs.Mode.{stepped_to}
use Rattle.line.specs.Part.{part_length}
use Rattle.line.specs.declared.Line.{Line}
use Rattle.store.specs.Store.{part_at}
use Rattle.relay.specs.Take.{took_line, took_store}
use Rattle.relay.specs.HandOut.{handed_octets, handed_line}
use Rattle.writing.specs.Write.{wrote_line, empty_packet}
use Rattle.writing.specs.Send.{ranked, held_in, held_packet}
use Rattle.arriving.specs.Arrive.{arrived_line, arrived_store}
use Rattle.book.specs.Book.{line_of, with_line}
use Rattle.book.specs.Parts.{part_start}
use Rattle.book.specs.Closing.{closed_at}
use Rattle.book.specs.declared.Book.{Book}
use Rattle.ground.specs.declared.Refusal.{Refusal}
use Rattle.calls.specs.declared.After.{After}
use Rattle.calls.specs.Call.{Call}
use Rattle.calls.specs.Call as call
use Rattle.calls.specs.Order.{order, line_for}

pub record CallResult : Type 0 where
  pub answer : Answer
  pub book : Book
  pub store : List ℕ
  pub out : List ℕ

abbrev pub result_with : Answer → Book → List ℕ → List ℕ → CallResult
result_with a b store out = record { answer = a; book = b; store = store; out = out }

-- what an accepted call answers, or its refusal
abbrev pub answer_in : {A : Type 0} → Result (After A) Refusal → Result A Refusal
answer_in (Ok a) = Ok a.answer
answer_in (Err r) = Err r

-- the book that a call leaves, and b where it was refused
abbrev pub book_in : {A : Type 0} → Book → Result (After A) Refusal → Book
book_in b (Ok a) = a.book
book_in b (Err r) = b

-- what a call on book b did, by what it gave back, and by what it left in what was lent
abbrev pub does : {A : Type 0} → (Result A Refusal → Answer) → Book → Result (After A) Refusal → List ℕ → List ℕ → CallResult
does says b r store out = result_with (says (answer_in r)) (book_in b r) store out

-- What an accepted call does to its line: the values that it answers, the line, whether its identifier goes to rest, and what is lent.
pub record Effect : Type 0 where
  pub values : List ℕ
  pub line : Line
  pub rests : Bool
  pub store : List ℕ
  pub out : List ℕ

abbrev pub changes : List ℕ → Line → List ℕ → List ℕ → Effect
changes values l store out = record { values = values; line = l; rests = false; store = store; out = out }

-- "An output's octets past what is written stay; the answer gives the count written."
abbrev pub writes : Bool → List ℕ → Line → List ℕ → List ℕ → Effect
writes rests octets l store out = record { values = length octets ∷ []; line = l; rests = rests; store = store; out = octets ++ drop (length octets) out }

-- "Closing writes a slip": "messages handed out on channel 1 .. and channel 2", "reason (8: 0 asked, 1 ended by recovery)"
unfoldable pub slip_of : Line → Slip
slip_of l = record { identifier = l.identifier; kind = l.kind; count1 = l.receiving.one.next; count2 = l.receiving.two.next; reason = bit (ended l.modes) }

-- what each call does to line i, whose record is l and whose part of the store begins at `start`
unfoldable pub effect : Call → ℕ → Line → ℕ → List ℕ → List ℕ → Effect
effect (call.opening _ s time) i l start store out = changes [] (opened_line s time) store out
-- "A closed line's record is as in a fresh book", and its identifier rests
effect (call.closing _) i l start store out = writes true (slip_octets (slip_of l)) closed_line store out
effect (call.mode _ a) i l start store out =
    let o = outcome l.modes a in
    changes o.said.values (stepped_to l o.modes o.channels) store out
-- the answer is the message's number in its 14 bits
effect (call.taking _ channel message) i l start store out =
    changes ((sending_of l channel).taken % modulus ∷ []) (took_line l channel (length message)) (took_store l start channel message store) out
effect (call.sending _ channel rank) i l start store out =
    let part = part_at start (part_length l) store in
    writes false (held_packet l channel (held_in (ranked l channel rank)) part) (wrote_line l) store out
effect (call.empty _ channel) i l start store out = writes false (empty_packet l channel) (wrote_line l) store out
-- the answer is the line that the packet was for
effect (call.arrival s) i l start store out =
    changes (i ∷ []) (arrived_line l s) (arrived_store l start s store) out
effect (call.hand_out _ channel) i l start store out =
    let part = part_at start (part_length l) store in
    writes false (handed_octets l channel part) (handed_line l channel) store out
effect (call.report _ channel) i l start store out = changes (held_count (sending_of l channel) ∷ []) l store out

-- An accepted call puts its line back into the book, whatever call it is, and closing puts the identifier to rest.
unfoldable pub accepted_result : Call → Book → List ℕ → List ℕ → CallResult
accepted_result c b store out =
    let i = line_for c b in
    let e = effect c i (line_of b i) (part_start b i) store out in
    result_with (accepted e.values) (pick e.rests (closed_at b i) (with_line b i e.line)) e.store e.out

-- The first refusal of the call's order decides. "Each refusal returns its number alone and changes neither book nor any octet."
unfoldable pub result_of : Call → Book → List ℕ → List ℕ → CallResult
result_of c b store out = settle (verdict (order c b (length store) (length out))) (λ r. result_with (refused r) b store out) (accepted_result c b store out)
