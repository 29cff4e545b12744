-- What is promised of the line between two gateways: the conclusions, each in the words that ask for it. Line i of a gateway g is the one end,
-- p is what has become of it there; line j of h with q is the other.
-- Assumes nothing.
use Rattle.std.specs.Prelude.{ℕ, ◌≤◌, ◌<◌, ◌≡◌, true, ◌⊎◌, length, get_or}
use mathlib.Core.List.{List, [], ◌++◌, Memᴰ}
use Rattle.ground.specs.Pick.{pick}
use Rattle.channel.specs.Channel.{largest}
use Rattle.line.specs.Line.{closed_line, receiving_of}
use Rattle.line.specs.declared.Line.{Line}
use Rattle.relay.specs.RelayTests.{reliable}
use Rattle.calls.specs.Call as call
use Rattle.flow.specs.Flow.{Sends, Receives, Full, waiting}
use Rattle.promise.specs.Build.{Does}
use Rattle.promise.specs.Past.{Past, handed_past}
use Rattle.promise.specs.Run.{Gateway, does, after, accepts, given, line_at, part_in, Relays, Goes}
use Rattle.promise.specs.Ends.{sends_of, receives_of}

-- the record of the line, from its opening on; before that it is none of this line's
abbrev pub line_in : Gateway → ℕ → Past → Line
line_in g i p = pick p.opened (line_at g i) closed_line

-- what the gateway holds of a channel for sending, and what it has stored of it, with full numbers: read from its record and its part of the store
abbrev pub sends_by : Gateway → ℕ → Past → ℕ → Sends
sends_by g i p channel = sends_of (part_in g i) (line_in g i p) channel

abbrev pub receives_by : Gateway → ℕ → Past → ℕ → Receives
receives_by g i p channel = receives_of (part_in g i) (line_in g i p) channel

-- One way of a channel, from g to h.
pub record Carried (channel : ℕ) (g : Gateway) (i : ℕ) (p : Past) (h : Gateway) (j : ℕ) (q : Past) : Type 0 where
  -- "the messages taken for sending are always those handed out, in order and octet for octet, followed by those still waiting"
  pub in_order : p.taken channel ≡ q.handed channel ++ waiting (sends_by g i p channel) (receives_by h j q channel)
  -- those still waiting are the messages from the next to hand out on
  pub counted : length (p.taken channel) ≡ (sends_by g i p channel).S
  pub next : length (q.handed channel) ≡ (receives_by h j q channel).R
  -- the base that was heard is not past the next to hand out, so no waiting message lies below it
  pub low : (sends_by g i p channel).h ≤ (receives_by h j q channel).R
  -- "Each waiting message is held at one end or the other": message n as it was taken
  pub held : (n : ℕ) → (receives_by h j q channel).R ≤ n → n < (sends_by g i p channel).S → Full (get_or (p.taken channel) n [])
      × (((sends_by g i p channel).held n ≡ get_or (p.taken channel) n []) ⊎ ((receives_by h j q channel).stored n ≡ get_or (p.taken channel) n []))

-- "on each reliable channel, each way"
pub record Promised (g : Gateway) (i : ℕ) (p : Past) (h : Gateway) (j : ℕ) (q : Past) : Type 0 where
  pub there : (channel : ℕ) → reliable channel ≡ true → Carried channel g i p h j q
  pub back : (channel : ℕ) → reliable channel ≡ true → Carried channel h j q g i p

-- "Once both are there": the line is open at a gateway, and in modem relay
abbrev pub InRelay : Gateway → ℕ → Past → Type 0
InRelay g i p = (p.opened ≡ true) × Relays g i

-- "every message still unacknowledged is sent and arrives, in any order": each that g still holds has arrived
abbrev pub AllCame : ℕ → Gateway → ℕ → Past → Past → Type 0
AllCame channel g i p q =
    (n : ℕ) → (sends_by g i p channel).h ≤ n → n < (sends_by g i p channel).S → Full ((sends_by g i p channel).held n)
    → Memᴰ (record { channel = channel; number = n }) q.came

-- the output that the next hand-out is lent: message n is given into `outs n`
abbrev pub out_at : (ℕ → List ℕ) → Gateway → ℕ → ℕ → List ℕ
out_at outs h j channel = outs (receiving_of (line_at h j) channel).next

-- outputs in which every message has room
abbrev pub Ample : (ℕ → List ℕ) → Type 0
Ample outs = (n : ℕ) → largest ≤ length (outs n)

module _ (f : Does) where
  -- "A report says how many messages are held there unacknowledged": what the call answers
  abbrev pub report_by : Gateway → ℕ → ℕ → ℕ
  report_by g i channel = get_or (does f g (call.report i channel) []).answer.values 0 0

  -- Hand-outs of a channel, one after the other, none of them refused.
  pub data HandsOut (j channel : ℕ) (outs : ℕ → List ℕ) : Gateway → Past → Gateway → Past → Type 0 where
    done : {h : Gateway} {q : Past} → HandsOut j channel outs h q h q
    next : {h h' : Gateway} {q q' : Past} → accepts (does f h (call.hand_out j channel) (out_at outs h j channel)) ≡ true
        → HandsOut j channel outs (after f h (call.hand_out j channel) (out_at outs h j channel)) (handed_past q channel (given (does f h (call.hand_out j channel) (out_at outs h j channel)))) h' q'
        → HandsOut j channel outs h q h' q'

  -- "all can be handed out": by some sequence of hand-outs, whatever outputs with room they are lent
  pub record AllOut (j channel : ℕ) (p : Past) (h : Gateway) (q : Past) (outs : ℕ → List ℕ) : Type 0 where
    pub gateway : Gateway
    pub past : Past
    pub hands : HandsOut j channel outs h q gateway past
    pub all : past.handed channel ≡ p.taken channel

  -- on both channels: the one end goes on, and the other stays as it is, until all is handed out
  pub record BothOut (within i j identifier kind : ℕ) (g : Gateway) (p : Past) (h : Gateway) (q : Past) : Type 0 where
    pub gateway : Gateway
    pub past : Past
    pub goes : Goes f within i j identifier kind g p h q g p gateway past
    pub each : (channel : ℕ) → reliable channel ≡ true → past.handed channel ≡ p.taken channel
