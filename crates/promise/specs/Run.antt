-- Two gateways that open one line: the calls made at them, in any sequence, and what the promises assume of them. `f` is what the calls of a build do.
-- Assumes nothing.
use Rattle.std.specs.Prelude.{ℕ, suc, ◌-◌, ◌≤◌, ◌<◌, ◌≡◌, Bool, true, false, eqb, length, take, get_or}
use mathlib.Core.List.{List, [], ◌∷◌, Memᴰ}
use Rattle.ground.specs.Pick.{pick}
use Rattle.mode.specs.Given.{modem}
use Rattle.mode.specs.Acts.{Act}
use Rattle.line.specs.Line.{is_open, receiving_of}
use Rattle.line.specs.declared.Line.{Line}
use Rattle.line.specs.declared.Settings.{Settings}
use Rattle.writing.specs.Send.{ranked, held_in}
use Rattle.book.specs.Book.{fresh_book, line_of}
use Rattle.book.specs.Parts.{store_length, part_of}
use Rattle.book.specs.declared.Book.{Book}
use Rattle.calls.specs.Call.{Call}
use Rattle.calls.specs.Call as call
use Rattle.calls.specs.Order.{line_for}
use Rattle.calls.specs.Result.{CallResult}
use Rattle.flow.specs.Flow.{Message}
use Rattle.promise.specs.Build.{Does}
use Rattle.promise.specs.Past.{Mark, Packet, Past, nothing_yet, just_opened, took_past, handed_past, wrote_past, heard_past}

-- a gateway: its book, and the store that is lent to its calls
pub record Gateway : Type 0 where
  pub book : Book
  pub store : List ℕ

abbrev pub accepts : CallResult → Bool
accepts d = eqb d.answer.number 0

-- the octets that a call put into its output: as many as it answers
abbrev pub given : CallResult → List ℕ
given d = take (get_or d.answer.values 0 0) d.out

abbrev pub line_at : Gateway → ℕ → Line
line_at g i = line_of g.book i

-- line i's part of the store
abbrev pub part_in : Gateway → ℕ → List ℕ
part_in g i = part_of g.book i g.store

-- the line is in modem relay
abbrev pub Relays : Gateway → ℕ → Type 0
Relays g i = (line_at g i).modes.local ≡ modem

-- the full numbers of what is written: the message of that rank, and the next to hand out
abbrev pub ranked_mark : Gateway → ℕ → ℕ → ℕ → Mark
ranked_mark g i channel rank = record { channel = channel; number = (held_in (ranked (line_at g i) channel rank)).number }

abbrev pub base_mark : Gateway → ℕ → ℕ → Mark
base_mark g i channel = record { channel = channel; number = (receiving_of (line_at g i) channel).next }

-- the packet that writing a held message gave
abbrev pub noted_held : Gateway → Past → ℕ → ℕ → ℕ → CallResult → Packet
noted_held g p i channel rank d = record { octets = given d; carries = ranked_mark g i channel rank ∷ []; names = base_mark g i channel ∷ []; acks = take 3 p.owes }

-- an empty packet: on channel 0 it names no base
abbrev pub noted_empty : Gateway → Past → ℕ → ℕ → CallResult → Packet
noted_empty g p i channel d = record { octets = given d; carries = []; names = pick (eqb channel 0) [] (base_mark g i channel ∷ []); acks = take 3 p.owes }

-- how many messages of its channel were taken after message m, where `taken` are those taken, by channel
abbrev pub taken_after : (ℕ → List Message) → Mark → ℕ
taken_after taken m = length (taken m.channel) - suc m.number

-- "fewer than 16,352 messages of its channel were taken after" it: the number with which the promise is made
abbrev pub bound : ℕ
bound = 16352

-- fewer than `within`: a run may be one within any number, so that others can be spoken of too
abbrev pub Recent : ℕ → (ℕ → List Message) → Mark → Type 0
Recent within taken m = taken_after taken m < within

-- each of a list
pub data Each {A : Type 0} (P : A → Type 0) : List A → Type 0 where
  none : Each P []
  also : {a : A} {l : List A} → P a → Each P l → Each P (a ∷ l)

-- What is assumed of a packet that arrives for the line; p is the past of who hears it, q that of its peer.
pub record Honest (within : ℕ) (p q : Past) (s : List ℕ) (k : Packet) : Type 0 where
  -- "every packet arriving for the line was written by its peer for this line since the peer opened it"
  pub written : Memᴰ k q.wrote
  pub same : k.octets ≡ s
  -- "fewer than 16,352 messages of its channel were taken after any message it carries, acknowledges or names as base"
  pub carries : Each (Recent within q.taken) k.carries
  pub names : Each (Recent within p.taken) k.names
  pub acks : Each (Recent within p.taken) k.acks

-- a gateway whose book is fresh
abbrev pub fresh_with : List ℕ → Gateway
fresh_with store = record { book = fresh_book; store = store }

module _ (f : Does) where
  -- what a call does there; `out` is the output that it is lent
  abbrev pub does : Gateway → Call → List ℕ → CallResult
  does g c out = f c g.book g.store out

  -- "their books and stores written by nothing else"
  abbrev pub after : Gateway → Call → List ℕ → Gateway
  after g c out = record { book = (does g c out).book; store = (does g c out).store }

  module _ (within : ℕ) where
    -- "Provided that every packet arriving for the line" is such a packet: asked only of one that is let in there. Nothing is assumed of any other call.
    -- In a run `heard`, below, asks it; this is for the theorem that no call is left out.
    abbrev pub Provided : ℕ → Gateway → Past → Past → List ℕ → Call → Type 0
    Provided i g p q out (call.arrival s) = accepts (does g (call.arrival s) out) ≡ true → line_for (call.arrival s) g.book ≡ i → (k : Packet) × Honest within p q s k
    Provided i g p q out (call.opening _ s time) = Unit
    Provided i g p q out (call.closing _) = Unit
    Provided i g p q out (call.mode _ a) = Unit
    Provided i g p q out (call.taking _ channel m) = Unit
    Provided i g p q out (call.sending _ channel rank) = Unit
    Provided i g p q out (call.empty _ channel) = Unit
    Provided i g p q out (call.hand_out _ channel) = Unit
    Provided i g p q out (call.report _ channel) = Unit

    -- What a call at line i of a gateway g adds to the past of the line; q is the peer's past.
    pub data Adds (i : ℕ) (g : Gateway) (p q : Past) (out : List ℕ) : Call → Past → Type 0 where
      -- a call that is refused, or is for another line, adds nothing
      refused : (c : Call) → accepts (does g c out) ≡ false → Adds i g p q out c p
      elsewhere : (c : Call) → (line_for c g.book ≡ i → ⊥) → Adds i g p q out c p
      moded : (a : Act) → Adds i g p q out (call.mode i a) p
      reported : (channel : ℕ) → Adds i g p q out (call.report i channel) p
      -- the message taken is the call's octets, the one handed out is what was put into the output, a packet is the octets put there
      took : (channel : ℕ) (m : Message) → accepts (does g (call.taking i channel m) out) ≡ true → Adds i g p q out (call.taking i channel m) (took_past p channel m)
      handed : (channel : ℕ) → accepts (does g (call.hand_out i channel) out) ≡ true → Adds i g p q out (call.hand_out i channel) (handed_past p channel (given (does g (call.hand_out i channel) out)))
      sent : (channel rank : ℕ) → accepts (does g (call.sending i channel rank) out) ≡ true → Adds i g p q out (call.sending i channel rank) (wrote_past p (noted_held g p i channel rank (does g (call.sending i channel rank) out)))
      wrote : (channel : ℕ) → accepts (does g (call.empty i channel) out) ≡ true → Adds i g p q out (call.empty i channel) (wrote_past p (noted_empty g p i channel (does g (call.empty i channel) out)))
      -- a packet arrives for the line in modem relay, whatever the answer
      heard : (s : List ℕ) (k : Packet) → line_for (call.arrival s) g.book ≡ i → Relays g i → Honest within p q s k → Adds i g p q out (call.arrival s) (heard_past p k)

    -- A step of one gateway, at its line i; q is the past of its peer.
    pub data Step (i identifier kind : ℕ) (q : Past) (g : Gateway) (p : Past) : Gateway → Past → Type 0 where
      -- before the opening anything may be called
      before : p.opened ≡ false → (c : Call) (out : List ℕ) → Step i identifier kind q g p (after g c out) p
      -- "open a line with one identifier and payload type"
      opens : p.opened ≡ false → (s : Settings) (time : ℕ) (out : List ℕ) → s.identifier ≡ identifier → s.kind ≡ kind
          → accepts (does g (call.opening i s time) out) ≡ true → Step i identifier kind q g p (after g (call.opening i s time) out) just_opened
      -- "keep it open and each stay in modem relay once there"
      calls : p.opened ≡ true → (c : Call) (out : List ℕ) → is_open (line_at (after g c out) i) ≡ true → (Relays g i → Relays (after g c out) i)
          → {p' : Past} → Adds i g p q out c p' → Step i identifier kind q g p (after g c out) p'

    -- Steps of the two from where they are, in any order: line i of the one, line j of the other.
    pub data Goes (i j identifier kind : ℕ) (g : Gateway) (p : Past) (h : Gateway) (q : Past) : Gateway → Past → Gateway → Past → Type 0 where
      stay : Goes i j identifier kind g p h q g p h q
      here : {g' g'' h' : Gateway} {p' p'' q' : Past} → Goes i j identifier kind g p h q g' p' h' q' → Step i identifier kind q' g' p' g'' p'' → Goes i j identifier kind g p h q g'' p'' h' q'
      there : {g' h' h'' : Gateway} {p' q' q'' : Past} → Goes i j identifier kind g p h q g' p' h' q' → Step j identifier kind p' h' q' h'' q'' → Goes i j identifier kind g p h q g' p' h'' q''

    -- "Take two fresh gateways": what comes of them and of the line. Lines are 0 to 3; a store has at least 42,240 octets (`store_length`), whatever they are.
    pub record Run (i j identifier kind : ℕ) (g : Gateway) (p : Past) (h : Gateway) (q : Past) : Type 0 where
      pub store1 : List ℕ
      pub store2 : List ℕ
      pub lines : (i < 4) × (j < 4)
      pub long : (store_length fresh_book ≤ length store1) × (store_length fresh_book ≤ length store2)
      pub goes : Goes i j identifier kind (fresh_with store1) nothing_yet (fresh_with store2) nothing_yet g p h q
