-- RULES section 14, the paragraph 'Order' of document 01, whole: for each call one list of its refusals in their order, each with the test that keeps it away. Nothing
-- else says in which order a call asks. Of the store and of the output only the length counts.
-- Assumes nothing.
use Rattle.std.specs.Prelude.{ℕ, Bool, true, false, ◌&&◌, not, List, [], ◌∷◌, ltb, leb, eqb, length, Option, Some, None, is_some}
use Rattle.ground.specs.Refusal.{Test, must}
use Rattle.ground.specs.declared.Refusal.TheVariants.{SHORT, FORM, TYPE, NOLINE, MODE, CHANNEL, SIZE, FULL, SPENT, NOTHING, ROOM, TAKEN, RANGE, CLOCK, RECOVERY, BOOK}
use Rattle.slip.specs.Slip.{slip_length}
use Rattle.packet.specs.Read.{head_at, fixed_there, form_plain, list_there, channels_served, payload_fits}
use Rattle.places.specs.Places.{mask_of, bit_of}
use Rattle.channel.specs.Channel.{cap}
use Rattle.channel.specs.Sizes.{message_fits}
use Rattle.sending.specs.Sending.{under_way}
use Rattle.receiving.specs.Receiving.{next_size}
use Rattle.mode.specs.Acts as act
use Rattle.mode.specs.Given.{audio, modem, text, has_left, offered}
use Rattle.mode.specs.Moved.{ended}
use Rattle.line.specs.Fit.{settings_fit}
use Rattle.line.specs.Figures.{send_window, send_largest, receive_largest}
use Rattle.line.specs.Line.{is_open, sending_of, receiving_of}
use Rattle.line.specs.declared.Settings.{Settings}
use Rattle.relay.specs.RelayTests.{in_relay, reliable}
use Rattle.writing.specs.Write.{header_length_for}
use Rattle.writing.specs.Send.{ranked, is_held, held_in, sent_length}
use Rattle.book.specs.Book.{line_of, book_fits, owner_of, taken}
use Rattle.book.specs.Parts.{store_length}
use Rattle.book.specs.declared.Book.{Book}
use Rattle.calls.specs.Call.{Call}
use Rattle.calls.specs.Call as call

-- "Any call with a book: BOOK, then ROOM for the store if lent, then a line number over 3 as RANGE, then the rest." So each list begins (RULES 14.1).

-- "Opening: TAKEN for the line, RANGE, TAKEN for the identifier." (RULES 14.8)
unfoldable pub open_order : Book → ℕ → Settings → List Test
open_order b i s =
    must (book_fits b) BOOK
    ∷ must (leb i 3) RANGE
    ∷ must (not (is_open (line_of b i))) TAKEN
    ∷ must (settings_fit s) RANGE
    ∷ must (not (taken b s.identifier)) TAKEN
    ∷ []

-- "Closing: NOLINE, ROOM."; the output has room for a slip (RULES 14.9)
unfoldable pub close_order : Book → ℕ → ℕ → List Test
close_order b i space =
    must (book_fits b) BOOK
    ∷ must (leb i 3) RANGE
    ∷ must (is_open (line_of b i)) NOLINE
    ∷ must (leb slip_length space) ROOM
    ∷ []

-- "Mode calls: NOLINE, CLOCK, RECOVERY, RANGE, MODE." An indication is never refused MODE: a, v, m, f or t is indicated (RULES 14.10)
unfoldable pub hear_order : Book → ℕ → ℕ → ℕ → List Test
hear_order b i mode time =
    let m = (line_of b i).modes in
    must (book_fits b) BOOK
    ∷ must (leb i 3) RANGE
    ∷ must (is_open (line_of b i)) NOLINE
    ∷ must (leb m.last time) CLOCK
    ∷ must (not (ended m)) RECOVERY
    ∷ must (leb audio mode && leb mode text) RANGE
    ∷ []

-- a request: "request while recovering", "a mode not offered", "request for m once m was left" (RULES 14.11)
unfoldable pub ask_order : Book → ℕ → ℕ → ℕ → List Test
ask_order b i mode time =
    let m = (line_of b i).modes in
    must (book_fits b) BOOK
    ∷ must (leb i 3) RANGE
    ∷ must (is_open (line_of b i)) NOLINE
    ∷ must (leb m.last time) CLOCK
    ∷ must (eqb m.tries 0) RECOVERY
    ∷ must (offered m mode) RANGE
    ∷ must (not (eqb mode modem && has_left m)) MODE
    ∷ []

-- "A tick on an ended line says ended again": of the mode calls' refusals a tick has NOLINE and CLOCK (RULES 14.12)
unfoldable pub tick_order : Book → ℕ → ℕ → List Test
tick_order b i time =
    must (book_fits b) BOOK
    ∷ must (leb i 3) RANGE
    ∷ must (is_open (line_of b i)) NOLINE
    ∷ must (leb (line_of b i).modes.last time) CLOCK
    ∷ []

-- "Message taken: NOLINE, MODE, CHANNEL, SIZE, SPENT, FULL."; the message has n octets (RULES 14.3)
unfoldable pub take_order : Book → ℕ → ℕ → ℕ → ℕ → List Test
take_order b store i channel n =
    let l = line_of b i in
    let s = sending_of l channel in
    must (book_fits b) BOOK
    ∷ must (leb (store_length b) store) ROOM
    ∷ must (leb i 3) RANGE
    ∷ must (is_open l) NOLINE
    ∷ must (in_relay l) MODE
    ∷ must (reliable channel) CHANNEL
    ∷ must (message_fits (send_largest l) n) SIZE
    ∷ must (ltb s.taken cap) SPENT
    ∷ must (ltb (under_way s) (send_window l channel)) FULL
    ∷ []

-- "Held message written ..: NOLINE, MODE, CHANNEL, .. NOTHING, ROOM." (RULES 14.4)
unfoldable pub send_order : Book → ℕ → ℕ → ℕ → ℕ → ℕ → List Test
send_order b store i channel rank space =
    let l = line_of b i in
    must (book_fits b) BOOK
    ∷ must (leb (store_length b) store) ROOM
    ∷ must (leb i 3) RANGE
    ∷ must (is_open l) NOLINE
    ∷ must (in_relay l) MODE
    ∷ must (reliable channel) CHANNEL
    ∷ must (is_held (ranked l channel rank)) NOTHING
    ∷ must (leb (sent_length l (held_in (ranked l channel rank))) space) ROOM
    ∷ []

-- "hand-out: NOLINE, MODE, CHANNEL, SPENT (hand-out only), NOTHING, ROOM."; message R stands at offset 0 of what is stored (RULES 14.5)
unfoldable pub hand_out_order : Book → ℕ → ℕ → ℕ → ℕ → List Test
hand_out_order b store i channel space =
    let l = line_of b i in
    let r = receiving_of l channel in
    must (book_fits b) BOOK
    ∷ must (leb (store_length b) store) ROOM
    ∷ must (leb i 3) RANGE
    ∷ must (is_open l) NOLINE
    ∷ must (in_relay l) MODE
    ∷ must (reliable channel) CHANNEL
    ∷ must (ltb r.next cap) SPENT
    ∷ must (bit_of (mask_of r.stored) 0) NOTHING
    ∷ must (leb (next_size r) space) ROOM
    ∷ []

-- "Empty packet: NOLINE, MODE, CHANNEL, ROOM."; "empty-packet call not naming 0 to 2" (RULES 14.6)
unfoldable pub empty_order : Book → ℕ → ℕ → ℕ → List Test
empty_order b i channel space =
    let l = line_of b i in
    must (book_fits b) BOOK
    ∷ must (leb i 3) RANGE
    ∷ must (is_open l) NOLINE
    ∷ must (in_relay l) MODE
    ∷ must (leb channel 2) CHANNEL
    ∷ must (leb (header_length_for l) space) ROOM
    ∷ []

-- "Held report: NOLINE, MODE, CHANNEL." (RULES 14.7)
unfoldable pub report_order : Book → ℕ → ℕ → List Test
report_order b i channel =
    let l = line_of b i in
    must (book_fits b) BOOK
    ∷ must (leb i 3) RANGE
    ∷ must (is_open l) NOLINE
    ∷ must (in_relay l) MODE
    ∷ must (reliable channel) CHANNEL
    ∷ []

-- the open line that has the packet's identifier: "Taking the line from the caller and not from the packet's identifier" is an error
abbrev pub packet_line : Book → List ℕ → Option ℕ
packet_line b s = owner_of b (head_at s).identifier

abbrev pub owner_line : Option ℕ → ℕ
owner_line (Some i) = i
owner_line None = 0

-- "Arrival: SHORT for 6 octets, FORM, NOLINE, TYPE, MODE, SHORT for the list, CHANNEL, SIZE."; s is the packet's octets (RULES 14.2)
unfoldable pub arrive_order : Book → ℕ → List ℕ → List Test
arrive_order b store s =
    let l = line_of b (owner_line (packet_line b s)) in
    must (book_fits b) BOOK
    ∷ must (leb (store_length b) store) ROOM
    ∷ must (fixed_there s) SHORT
    ∷ must (form_plain s) FORM
    ∷ must (is_some (packet_line b s)) NOLINE
    ∷ must (eqb (head_at s).kind l.kind) TYPE
    ∷ must (in_relay l) MODE
    ∷ must (list_there s) SHORT
    ∷ must (channels_served s) CHANNEL
    ∷ must (payload_fits s (receive_largest l)) SIZE
    ∷ []

-- the list of each call; a call that is lent no store, or no output, does not ask for its length
unfoldable pub order : Call → Book → ℕ → ℕ → List Test
order (call.opening i s time) b store space = open_order b i s
order (call.closing i) b store space = close_order b i space
order (call.mode i (act.hear mode time)) b store space = hear_order b i mode time
order (call.mode i (act.ask mode time)) b store space = ask_order b i mode time
order (call.mode i (act.tick time)) b store space = tick_order b i time
order (call.taking i channel message) b store space = take_order b store i channel (length message)
order (call.sending i channel rank) b store space = send_order b store i channel rank space
order (call.empty i channel) b store space = empty_order b i channel space
order (call.arrival s) b store space = arrive_order b store s
order (call.hand_out i channel) b store space = hand_out_order b store i channel space
order (call.report i channel) b store space = report_order b i channel

-- the line that a call is for
unfoldable pub line_for : Call → Book → ℕ
line_for (call.opening i s time) b = i
line_for (call.closing i) b = i
line_for (call.mode i a) b = i
line_for (call.taking i channel message) b = i
line_for (call.sending i channel rank) b = i
line_for (call.empty i channel) b = i
line_for (call.arrival s) b = owner_line (packet_line b s)
line_for (call.hand_out i channel) b = i
line_for (call.report i channel) b = i
