-- DEMAND 2, asked of any build: bodies, slips and packets are written where they may be and read back, a packet that may be let in is, no relay packet
-- is accepted outside modem relay, and the media modes move as Annex C permits and by nothing else.
-- Assumes nothing.
use Rattle.std.specs.Prelude.{ℕ, ◌%◌, ◌≤◌, ◌<◌, ◌≡◌, Bool, true, false, List, [], ◌∷◌, ◌++◌, eqb, length, drop, get_or, Ok}
use Rattle.ground.specs.Answer.{Answer, accepted}
use Rattle.ground.specs.Pick.{bit}
use Rattle.ground.specs.Refusal.{verdict}
use Rattle.packet.specs.Read.{longest_header, head_at, acks_at, payload_of, head_tests, list_tests}
use Rattle.packet.specs.Write.{packet_octets}
use Rattle.packet.specs.declared.Head.{Head}
use Rattle.packet.specs.declared.Acks.{Acks}
use Rattle.connect.specs.Read.{connect_at}
use Rattle.connect.specs.Read as connect
use Rattle.connect.specs.Write as body
use Rattle.connect.specs.declared.Connect.{Connect}
use Rattle.breaks.specs.Break.{break_at}
use Rattle.breaks.specs.Break as breaks
use Rattle.breaks.specs.declared.Break.{Break}
use Rattle.slip.specs.Slip as slip
use Rattle.channel.specs.Channel.{modulus}
use Rattle.sending.specs.Sending.{held_count}
use Rattle.sending.specs.declared.Held.{Held}
use Rattle.mode.specs.Given.{modem, has_left}
use Rattle.mode.specs.Moved.{ended}
use Rattle.mode.specs.Indication.{hear_tests, heard_mode}
use Rattle.mode.specs.Request.{ask_tests}
use Rattle.mode.specs.TableC2.{permitted}
use Rattle.mode.specs.Acts.{Act, hear, ask, outcome}
use Rattle.mode.specs.declared.Modes.{Modes}
use Rattle.line.specs.Line.{is_open, sending_of, opened_line}
use Rattle.line.specs.Mode.{stepped_to}
use Rattle.line.specs.Part.{region_of}
use Rattle.line.specs.declared.Line.{Line}
use Rattle.line.specs.declared.Settings.{Settings}
use Rattle.store.specs.Store.{octets_in}
use Rattle.store.specs.declared.Way.TheVariants as way
use Rattle.relay.specs.RelayTests.{reliable}
use Rattle.writing.specs.Write.{acks_for, head_for}
use Rattle.writing.specs.Send.{ranked, held_in, longest_packet}
use Rattle.arriving.specs.Arrive.{arrived_line, arrived_part}
use Rattle.book.specs.Book.{book_fits, with_line}
use Rattle.book.specs.Closing.{closed_at}
use Rattle.book.specs.Parts.{store_length, with_part}
use Rattle.book.specs.Shape.{BookShaped}
use Rattle.calls.specs.Call.{Call}
use Rattle.calls.specs.Call as call
use Rattle.calls.specs.Order.{order, line_for}
use Rattle.calls.specs.Result.{CallResult, result_with, slip_of}
use Rattle.promise.specs.Build.{Left, octets_left, Build}
use Rattle.promise.specs.Run.{Gateway, does, after, accepts, given, line_at, part_in, Relays}

-- "What we write reads back as the values we wrote": the body is written, in these octets, and they read as the answer
pub record Back (w : Left) (octets : List ℕ) (read : List ℕ → Answer) (says : Answer) : Type 0 where
  pub written : w.answer.number ≡ 0
  pub stands : octets_left w ≡ octets
  pub reads : read (octets_left w) ≡ says

-- a packet: its octets, most significant first, and what they say
pub record Says (s : List ℕ) (head : Head) (acks : Acks) (payload : List ℕ) : Type 0 where
  pub octets : s ≡ packet_octets head acks payload
  pub plain : verdict (head_tests s) ≡ Ok tt
  pub listed : verdict (list_tests s) ≡ Ok tt
  pub head_back : head_at s ≡ head
  pub acks_back : acks_at s ≡ acks
  pub payload_back : payload_of s ≡ payload

-- a packet that is written
abbrev pub Writes : CallResult → Head → Acks → List ℕ → Type 0
Writes d head acks payload = (accepts d ≡ true) × Says (given d) head acks payload

-- a book that BOOK lets pass, its arrays as long as declared, with line i open; and a store
pub record Ready (g : Gateway) (i : ℕ) : Type 0 where
  pub fits : book_fits g.book ≡ true
  pub shaped : BookShaped g.book
  pub long : store_length g.book ≤ length g.store
  pub small : i < 4
  pub opened : is_open (line_at g i) ≡ true

-- the message that a rank names, and its octets
abbrev pub held_by : Gateway → ℕ → ℕ → ℕ → Held
held_by g i channel rank = held_in (ranked (line_at g i) channel rank)

abbrev pub octets_by : Gateway → ℕ → ℕ → Held → List ℕ
octets_by g i channel m = octets_in (part_in g i) (region_of (line_at g i) way.Sending channel) m.place m.size

-- the line is the packet's, and in modem relay
pub record Entitled (l : Line) (s : List ℕ) : Type 0 where
  pub opened : is_open l ≡ true
  pub inside : l.modes.local ≡ modem
  pub named : l.identifier ≡ (head_at s).identifier
  pub typed : l.kind ≡ (head_at s).kind

-- all tests of a call hold
abbrev pub May : Gateway → Call → List ℕ → Type 0
May g c out = verdict (order c g.book (length g.store) (length out)) ≡ Ok tt

-- What a call leaves whose tests hold, whole: the answer, the book, the store and the output.

-- a packet let in at line i: the answer names the line; base, acknowledgements and payload have had their effect on its record and on its part of
-- the store; and all else is as it was
abbrev pub arrived_result : Gateway → ℕ → List ℕ → List ℕ → CallResult
arrived_result g i s out =
    result_with (accepted (i ∷ [])) (with_line g.book i (arrived_line (line_at g i) s))
    (with_part g.book i g.store (arrived_part (line_at g i) s (part_in g i))) out

-- line i opened
abbrev pub opened_result : Gateway → ℕ → Settings → ℕ → List ℕ → CallResult
opened_result g i s time out = result_with (accepted []) (with_line g.book i (opened_line s time)) g.store out

-- line i closed: its slip is written, its record is a closed line's, and its identifier rests
abbrev pub closed_result : Gateway → ℕ → List ℕ → CallResult
closed_result g i out =
    let octets = slip.slip_octets (slip_of (line_at g i)) in
    result_with (accepted (length octets ∷ [])) (closed_at g.book i) g.store (octets ++ drop (length octets) out)

-- a mode call at line i, accepted or refused: it says, and makes of the line's modes and channels, what its sentences say
abbrev pub moved_result : Gateway → ℕ → Act → List ℕ → CallResult
moved_result g i a out =
    let l = line_at g i in
    let o = outcome l.modes a in
    result_with o.said (with_line g.book i (stepped_to l o.modes o.channels)) g.store out

-- line j and its part of the store are as they were
abbrev pub Stays : Gateway → Gateway → ℕ → Type 0
Stays g h j = (line_at h j ≡ line_at g j) × (part_in h j ≡ part_in g j)

-- the calls that have to do with the modes of line j: its opening, its closing and its mode calls
abbrev pub of_modes : Call → ℕ → Bool
of_modes (call.opening i s time) j = eqb i j
of_modes (call.closing i) j = eqb i j
of_modes (call.mode i a) j = eqb i j
of_modes (call.taking i channel message) j = false
of_modes (call.sending i channel rank) j = false
of_modes (call.empty i channel) j = false
of_modes (call.arrival s) j = false
of_modes (call.hand_out i channel) j = false
of_modes (call.report i channel) j = false

-- modem relay was left for good
abbrev pub Gone : Modes → Type 0
Gone m = (has_left m ≡ true) × (m.local ≡ modem → ⊥)

pub record Demand2 (b : Build) : Type 0 where
  -- every body that may be written is, and reads back; every body that may be read says what stands at its places
  pub connect_back : (c : Connect) (out : List ℕ) → verdict (body.write_tests c (length out)) ≡ Ok tt
      → Back (b.bodies.connect_write c out) (body.connect_octets c) b.bodies.connect_read (connect.answer_of (Ok c))
  pub connect_read_lem : (s : List ℕ) → verdict (connect.read_tests s) ≡ Ok tt → b.bodies.connect_read s ≡ connect.answer_of (Ok (connect_at s))
  pub break_back : (c : Break) (out : List ℕ) → verdict (breaks.write_tests c (length out)) ≡ Ok tt
      → Back (b.bodies.break_write c out) (breaks.break_octets c) b.bodies.break_read (breaks.answer_of (Ok c))
  pub break_read_lem : (s : List ℕ) → verdict (breaks.read_tests s) ≡ Ok tt → b.bodies.break_read s ≡ breaks.answer_of (Ok (break_at s))
  pub slip_read_lem : (s : List ℕ) → verdict (slip.read_tests s) ≡ Ok tt → b.bodies.slip_read s ≡ slip.answer_of (Ok (slip.slip_at s))
  -- "Closing writes a slip", and "Slips are also read back"
  pub slip_back : (g : Gateway) (i : ℕ) → Ready g i → (out : List ℕ) → slip.slip_length ≤ length out
      → let l = line_at g i in
      (accepts (does b.does g (call.closing i) out) ≡ true)
      × (given (does b.does g (call.closing i) out) ≡ slip.slip_octets (slip_of l))
      × (b.bodies.slip_read (given (does b.does g (call.closing i) out))
      ≡ accepted (l.identifier ∷ l.kind ∷ l.receiving.one.next ∷ l.receiving.two.next ∷ bit (ended l.modes) ∷ []))
  -- every message that the line holds is written, and so is an empty packet
  pub sending_back : (g : Gateway) (i : ℕ) → Ready g i → Relays g i → (channel : ℕ) → reliable channel ≡ true → (rank : ℕ) → rank < held_count (sending_of (line_at g i) channel)
      → (out : List ℕ) → longest_packet (line_at g i) ≤ length out
      → let m = held_by g i channel rank in
      Writes (does b.does g (call.sending i channel rank) out) (head_for (line_at g i) channel (m.number % modulus)) (acks_for (line_at g i)) (octets_by g i channel m)
  pub empty_back : (g : Gateway) (i : ℕ) → Ready g i → Relays g i → (channel : ℕ) → channel ≤ 2 → (out : List ℕ) → longest_header ≤ length out
      → Writes (does b.does g (call.empty i channel) out) (head_for (line_at g i) channel 0) (acks_for (line_at g i)) []
  -- "No relay packet is accepted outside modem relay": the answer names the line
  pub inside : (g : Gateway) (s out : List ℕ) → accepts (does b.does g (call.arrival s) out) ≡ true
      → Entitled (line_at g (get_or (does b.does g (call.arrival s) out).answer.values 0 0)) s
  -- .. and leaves every line outside modem relay, and its part of the store, as they were, whatever line the answer names
  pub outside : (g : Gateway) → BookShaped g.book → (s out : List ℕ) (j : ℕ) → (Relays g j → ⊥) → Stays g (after b.does g (call.arrival s) out) j
  -- a packet that passes its tests is let in, at the line that has its identifier
  pub lets_in : (g : Gateway) → BookShaped g.book → (s out : List ℕ) → May g (call.arrival s) out
      → does b.does g (call.arrival s) out ≡ arrived_result g (line_for (call.arrival s) g.book) s out
  -- an opening that passes its tests opens the line, and a closing closes it
  pub opens : (g : Gateway) (i : ℕ) (s : Settings) (time : ℕ) (out : List ℕ) → May g (call.opening i s time) out
      → does b.does g (call.opening i s time) out ≡ opened_result g i s time out
  pub closes : (g : Gateway) (i : ℕ) (out : List ℕ) → May g (call.closing i) out → does b.does g (call.closing i) out ≡ closed_result g i out
  -- no call but a line's own opening, closing and mode calls changes its modes
  pub modes_stay : (g : Gateway) → BookShaped g.book → (c : Call) (out : List ℕ) (j : ℕ) → of_modes c j ≡ false
      → (line_at (after b.does g c out) j).modes ≡ (line_at g j).modes
  -- "media modes are those": a mode call says, and makes of the line, what its sentences say, accepted or refused
  pub moves : (g : Gateway) (i : ℕ) → Ready g i → (a : Act) (out : List ℕ) → does b.does g (call.mode i a) out ≡ moved_result g i a out
  -- an indication that may be heard is, S is what the paper chooses, and Table C.2 permits it; a request names S
  pub hears : (g : Gateway) (i : ℕ) → Ready g i → (k time : ℕ) → verdict (hear_tests (line_at g i).modes k time) ≡ Ok tt → (out : List ℕ)
      → (accepts (does b.does g (call.mode i (hear k time)) out) ≡ true)
      × ((line_at (after b.does g (call.mode i (hear k time)) out) i).modes.local ≡ heard_mode (line_at g i).modes k)
      × (permitted k (line_at (after b.does g (call.mode i (hear k time)) out) i).modes.local ≡ true)
  pub asks : (g : Gateway) (i : ℕ) → Ready g i → (k time : ℕ) → verdict (ask_tests (line_at g i).modes k time) ≡ Ok tt → (out : List ℕ)
      → (accepts (does b.does g (call.mode i (ask k time)) out) ≡ true) × ((line_at (after b.does g (call.mode i (ask k time)) out) i).modes.local ≡ k)
  -- "Leaving m, for any cause, ends relay for that opening"
  pub leaves : (g : Gateway) (i : ℕ) → Ready g i → (a : Act) (out : List ℕ)
      → let m = (line_at (after b.does g (call.mode i a) out) i).modes in (Relays g i → (m.local ≡ modem → ⊥) → Gone m) × (Gone (line_at g i).modes → Gone m)
