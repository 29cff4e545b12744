-- CARELESS BUILDS: each acts as ours almost everywhere, and breaks a sentence of demand 1 or 2. Each is shown to fail that demand.
-- Assumes nothing.
use Rattle.std.specs.Prelude.{ℕ, List, [], ◌∷◌, eqb, leb, length}
use Rattle.arriving.specs.Arrive.{arrived_line, arrived_part}
use Rattle.book.specs.Book.{book_fits, fresh_book, line_of, open_in, with_line}
use Rattle.book.specs.Parts.{part_of, with_part}
use Rattle.book.specs.declared.Book.{Book}
use Rattle.calls.specs.Call.{Call}
use Rattle.calls.specs.Order.{order}
use Rattle.calls.specs.Result.{accepted_result, result_of, result_with}
use Rattle.ground.specs.Answer.{refused}
use Rattle.ground.specs.Pick.{pick}
use Rattle.ground.specs.Refusal.{Test, must, settle, verdict}
use Rattle.ground.specs.declared.Refusal.TheVariants.{BOOK, NOLINE, RANGE, ROOM}
use Rattle.line.specs.Figures.{send_window}
use Rattle.line.specs.Line.{is_open, line_with, with_sending}
use Rattle.line.specs.declared.Line.{Line}
use Rattle.promise.specs.Build.{Build, Does}
use Rattle.refuted.specs.Idle.{Arrives, arriving, doing}
use Rattle.sending.specs.Sending.{moved_by}
use Rattle.slip.specs.Slip.{slip_length}
use Rattle.calls.specs.Call as call

-- "refuses by the numbers in document 01": the answer's number is another
abbrev pub renumbers : (ℕ → ℕ) → Does
renumbers f c b store out =
    let d = result_of c b store out in
    result_with (record { number = f d.answer.number; values = d.answer.values }) d.book d.store d.out

abbrev pub renumbered : (ℕ → ℕ) → Build
renumbered f = doing (renumbers f)

-- two refusals in another order: closing asks for the output's length before it asks whether the line is open
abbrev room_first : Call → Book → ℕ → ℕ → List Test
room_first (call.opening i s time) = order (call.opening i s time)
room_first (call.closing i) = λ b store space. must (book_fits b) BOOK ∷ must (leb i 3) RANGE ∷ must (leb slip_length space) ROOM ∷ must (is_open (line_of b i)) NOLINE ∷ []
room_first (call.mode i a) = order (call.mode i a)
room_first (call.taking i channel m) = order (call.taking i channel m)
room_first (call.sending i channel rank) = order (call.sending i channel rank)
room_first (call.empty i channel) = order (call.empty i channel)
room_first (call.arrival s) = order (call.arrival s)
room_first (call.hand_out i channel) = order (call.hand_out i channel)
room_first (call.report i channel) = order (call.report i channel)

abbrev pub reordered : Build
reordered = doing (λ c b store out. settle (verdict (room_first c b (length store) (length out))) (λ r. result_with (refused r) b store out) (accepted_result c b store out))

-- "A refusal changes no stored state": where a call is refused, line 0 drops its oldest message of channel 1
abbrev pub dropped : Line → Line
dropped l = with_sending l 1 (moved_by (send_window l 1) l.sending.one 1)

abbrev pub drops : Does
drops c b store out =
    let d = result_of c b store out in
    pick (eqb d.answer.number 0) d (result_with d.answer (with_line b 0 (dropped (line_of b 0))) store out)

abbrev pub dropping : Build
dropping = doing drops

-- VANDALS: every packet that arrives is refused and wipes the book; what else is left in books and stores is whatever `w` says, wherever a mode call
-- does not have to say it. Such a build once met demand 2.
abbrev wherever : Does → Does
wherever w c b store out =
    let d = result_of c b store out in
    result_with d.answer (w c b store out).book (w c b store out).store d.out

abbrev pub vandal : Does → Does
vandal w (call.opening i s time) = w (call.opening i s time)
vandal w (call.closing i) = wherever w (call.closing i)
vandal w (call.mode i a) = result_of (call.mode i a)
vandal w (call.taking i channel m) = w (call.taking i channel m)
vandal w (call.sending i channel rank) = wherever w (call.sending i channel rank)
vandal w (call.empty i channel) = wherever w (call.empty i channel)
vandal w (call.arrival s) = λ b store out. result_with (refused BOOK) fresh_book [] []
vandal w (call.hand_out i channel) = w (call.hand_out i channel)
vandal w (call.report i channel) = w (call.report i channel)

abbrev pub vandals : Does → Build
vandals w = doing (vandal w)

-- the answer names the packet's line, and its message is stored into line 0
abbrev pub misplaces : Arrives
misplaces s b store out =
    let d = result_of (call.arrival s) b store out in
    pick (eqb d.answer.number 0)
    (result_with d.answer (with_line b 0 (arrived_line (line_of b 0) s)) (with_part b 0 store (arrived_part (line_of b 0) s (part_of b 0 store))) out) d

abbrev pub misplacing : Build
misplacing = doing (arriving misplaces)

-- Ours, but that the book which an accepted opening, closing or mode call leaves is changed once more, by its line, the book before and the book after.
abbrev rebooked : (ℕ → Book → Book → Book) → ℕ → Does
rebooked change i c b store out =
    let d = result_of c b store out in
    pick (eqb d.answer.number 0) (result_with d.answer (change i b d.book) d.store d.out) d

abbrev meddles : (ℕ → Book → Book → Book) → (ℕ → Book → Book → Book) → (ℕ → Book → Book → Book) → Does
meddles opened closed moved (call.opening i s time) = rebooked opened i (call.opening i s time)
meddles opened closed moved (call.closing i) = rebooked closed i (call.closing i)
meddles opened closed moved (call.mode i a) = rebooked moved i (call.mode i a)
meddles opened closed moved (call.taking i channel m) = result_of (call.taking i channel m)
meddles opened closed moved (call.sending i channel rank) = result_of (call.sending i channel rank)
meddles opened closed moved (call.empty i channel) = result_of (call.empty i channel)
meddles opened closed moved (call.arrival s) = result_of (call.arrival s)
meddles opened closed moved (call.hand_out i channel) = result_of (call.hand_out i channel)
meddles opened closed moved (call.report i channel) = result_of (call.report i channel)

abbrev left : ℕ → Book → Book → Book
left i before after = after

-- the line has all that it had, and is not open
abbrev shut : ℕ → Book → Book
shut i b =
    let l = line_of b i in
    with_line b i (line_with 0 l.identifier l.kind l.modes l.sending.one l.sending.two l.receiving.one l.receiving.two l.owed)

-- every opening is accepted as by ours, and only the first one opens a line
abbrev pub opens_one : Build
opens_one = doing (meddles (λ i before after. pick (eqb (length (open_in before.lines)) 0) after (shut i after)) left left)

-- a mode call closes the line
abbrev pub moves_and_shuts : Build
moves_and_shuts = doing (meddles left left (λ i before after. shut i after))

-- no identifier rests: a line can be opened with it at once, and gets the late packets of the call before
abbrev pub never_rests : Build
never_rests = doing (meddles left (λ i before after. record { lines = after.lines; resting = before.resting; rested = before.rested }) left)
