-- DEMAND 3, asked of any build: what holds at all times of the line between two gateways of that build, and that the build serves it. Without the
-- second part a build that refuses everything would meet it.
-- Assumes nothing.
use Rattle.std.specs.Prelude.{ℕ, ◌-◌, ◌%◌, ◌≤◌, ◌<◌, ◌≡◌, true, List, [], ◌∷◌, length}
use Rattle.ground.specs.Answer.{accepted}
use Rattle.channel.specs.Channel.{cap, modulus}
use Rattle.flow.specs.Flow.{Message, Full}
use Rattle.mode.specs.Given.{modem}
use Rattle.mode.specs.Acts.{ask}
use Rattle.line.specs.Line.{is_open}
use Rattle.line.specs.Fit.{settings_fit}
use Rattle.line.specs.Figures.{send_window, send_largest, receive_largest}
use Rattle.packet.specs.Read.{longest_header}
use Rattle.writing.specs.Send.{longest_packet}
use Rattle.book.specs.Book.{fresh_book}
use Rattle.book.specs.Parts.{store_length}
use Rattle.line.specs.declared.Settings.{Settings}
use Rattle.relay.specs.RelayTests.{reliable}
use Rattle.calls.specs.Call.{Call}
use Rattle.calls.specs.Call as call
use Rattle.calls.specs.Order.{line_for}
use Rattle.promise.specs.Build.{Does, Build}
use Rattle.promise.specs.Past.{Packet, Past}
use Rattle.promise.specs.Run.{Each, Gateway, fresh_with, does, after, accepts, line_at, Relays, ranked_mark, bound, Honest, Run}
use Rattle.promise.specs.Notes.{Noted}
use Rattle.promise.specs.Promise.{sends_by, receives_by, Promised, InRelay, AllCame, Ample, report_by, AllOut}
use Rattle.promise.specs.GoesOn.{GoesOn}

-- the call is accepted, and leaves line i open and in modem relay
pub record Serves (f : Does) (g : Gateway) (i : ℕ) (c : Call) (out : List ℕ) : Type 0 where
  pub accepted : accepts (does f g c out) ≡ true
  pub opened : is_open (line_at (after f g c out) i) ≡ true
  pub inside : Relays (after f g c out) i

-- a fresh gateway opens the line, and a request brings it into modem relay
pub record Begins (f : Does) (g : Gateway) (i : ℕ) (s : Settings) (time then : ℕ) (out : List ℕ) : Type 0 where
  pub accepted : accepts (does f g (call.opening i s time) out) ≡ true
  pub there : Serves f (after f g (call.opening i s time) out) i (call.mode i (ask modem then)) out

-- What is asked of the line between g and h, by what has become of it: p at g, q at h. `channel` is a reliable one, and the way is from g to h. A run
-- that is read from its other end is a run too, so it is asked of either end, and of both ways.
module _ (f : Does) (within i j identifier kind : ℕ) (g : Gateway) (p : Past) (h : Gateway) (q : Past) where
  pub record Served : Type 0 where
    -- a message with room is taken
    pub takes : (channel : ℕ) → reliable channel ≡ true → (m : Message) → 1 ≤ length m → length m ≤ send_largest (line_at g i) → (sends_by g i p channel).S < cap
        → (sends_by g i p channel).S - (sends_by g i p channel).h < send_window (line_at g i) channel → (out : List ℕ) → Serves f g i (call.taking i channel m) out
    -- and the answer to its taking is its number, in 14 bits
    pub numbers : (channel : ℕ) (m : Message) (out : List ℕ) → accepts (does f g (call.taking i channel m) out) ≡ true
        → (does f g (call.taking i channel m) out).answer ≡ accepted ((sends_by g i p channel).S % modulus ∷ [])
    -- every message that is held has a rank below what the report says, and every such rank is written
    pub ranks : (channel : ℕ) → reliable channel ≡ true → (n : ℕ) → (sends_by g i p channel).h ≤ n → n < (sends_by g i p channel).S → Full ((sends_by g i p channel).held n)
        → (rank : ℕ) × (rank < report_by f g i channel) × ((ranked_mark g i channel rank).number ≡ n)
    pub sends : (channel : ℕ) → reliable channel ≡ true → (rank : ℕ) → rank < report_by f g i channel → (out : List ℕ) → longest_packet (line_at g i) ≤ length out → Serves f g i (call.sending i channel rank) out
    pub empties : (channel : ℕ) → channel ≤ 2 → (out : List ℕ) → longest_header ≤ length out → Serves f g i (call.empty i channel) out
    -- message R is handed out where it is stored
    pub hands : (channel : ℕ) → reliable channel ≡ true → Full ((receives_by g i p channel).stored (receives_by g i p channel).R) → (out : List ℕ) → receive_largest (line_at g i) ≤ length out
        → Serves f g i (call.hand_out i channel) out
    -- every packet that the premise speaks of finds the line and is let in
    pub arrives : (s : List ℕ) (packet : Packet) → Honest within p q s packet → (out : List ℕ) → (line_for (call.arrival s) g.book ≡ i) × Serves f g i (call.arrival s) out

  -- "Once both are there": the last sentence
  pub record Ends (channel : ℕ) : Type 0 where
    -- "and every message still unacknowledged is sent and arrives, in any order, all can be handed out"
    pub all_out : AllCame channel g i p q → (outs : ℕ → List ℕ) → Ample outs → AllOut f j channel p h q outs

pub record Demand3 (b : Build) : Type 0 where
  -- "Take two fresh gateways .. that open a line with one identifier and payload type": they can, and come to modem relay
  pub begins : (store : List ℕ) → store_length fresh_book ≤ length store → (i : ℕ) → i < 4 → (s : Settings) → settings_fit s ≡ true → s.relay ≡ true
      → (time then : ℕ) → time ≤ then → (out : List ℕ) → Begins b.does (fresh_with store) i s time then out
  -- "on each reliable channel, each way, the messages taken for sending are always those handed out, in order and octet for octet, followed by
  -- those still waiting. Each waiting message is held at one end or the other."
  pub promised : {i j identifier kind : ℕ} {g h : Gateway} {p q : Past} → Run b.does bound i j identifier kind g p h q → Promised g i p h j q
  -- what is noted beside each packet, on which the premise is measured, is what its octets say
  pub noted : {i j identifier kind : ℕ} {g h : Gateway} {p q : Past} → Run b.does bound i j identifier kind g p h q
      → Each (Noted identifier kind p.taken (receives_by g i p)) p.wrote
  pub served : {i j identifier kind : ℕ} {g h : Gateway} {p q : Past} → Run b.does bound i j identifier kind g p h q → InRelay g i p
      → Served b.does bound i j identifier kind g p h q
  pub ends : {i j identifier kind : ℕ} {g h : Gateway} {p q : Past} → Run b.does bound i j identifier kind g p h q → InRelay g i p → InRelay h j q
      → (channel : ℕ) → reliable channel ≡ true → Ends b.does bound i j identifier kind g p h q channel
  -- and what it asks for can be done: another message can come to be taken, and all be handed out and acknowledged
  pub goes_on : {i j identifier kind : ℕ} {g h : Gateway} {p q : Past} → Run b.does bound i j identifier kind g p h q → InRelay g i p → InRelay h j q
      → GoesOn b.does bound i j identifier kind g p h q
