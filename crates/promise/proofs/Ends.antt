-- What holds at all times between the two ends of a line: each end by itself, what its packets say of it, and the flow of each channel each way.
-- What a packet says is about its writer alone, and stays true as the writer goes on.
-- Assumes nothing.
use Prim.Native.Nat.{ℕ, zero, suc, ◌+◌, ◌≤◌}
use mathlib.Core.Path.{◌≡◌, sym, ◌∙◌, subst, transport}
use mathlib.Core.Bool.{true}
use mathlib.Core.List.{List, map}
use native.Mathlib.Omega.{arith}
use lib.Dec.{lit≤, eqb}
use lib.ListN.{length}
use Rattle.ground.proofs.Picks.{pick_by}
use Rattle.channel.specs.Channel.{modulus, window_of}
use Rattle.sending.specs.Sending.{SendingOk, sending_fits}
use Rattle.receiving.specs.Receiving.{ReceivingOk, receiving_fits}
use Rattle.flow.proofs.Keeps.{sending_ok, receiving_ok}
use Rattle.flow.specs.Flow.{Message, Sends, Receives, Flow, Data, Grows}
use Rattle.owed.specs.Owed.{owed_of}
use Rattle.line.specs.Fit.{line_fits}
use Rattle.line.specs.Figures.{send_window, receive_window, send_largest, receive_largest}
use Rattle.line.specs.Part.{part_length}
use Rattle.line.specs.Line.{is_open, sending_of, receiving_of}
use Rattle.line.specs.Shape.{Shaped}
use Rattle.line.specs.declared.Line.{Line}
use Rattle.line.proofs.Keeps.{line_ok, sending_side, receiving_side}
use Rattle.mode.specs.Given.{modem}
use Rattle.relay.specs.RelayTests.{reliable}
use Rattle.relay.proofs.Lines.{channel_span}
use Rattle.channel.proofs.Windows.{window_narrow}
use Rattle.promise.specs.Past.{Mark, Packet, Past}
use Rattle.promise.specs.Run.{Each, bound}
use Rattle.promise.specs.Notes.{mark_word, HasCome, Names, nothing, reached, Carries, message, Noted}
use Rattle.promise.specs.Ends.{sends_of, receives_of}
use Rattle.promise.proofs.Lists.{each_map}

-- one end of the line: its record, its part of the store, and what has become of it
pub record End : Type 0 where
  pub line : Line
  pub part : List ℕ
  pub past : Past

-- the views of an end, by channel
abbrev pub sent : End → ℕ → Sends
sent e channel = sends_of e.part e.line channel

abbrev pub got : End → ℕ → Receives
got e channel = receives_of e.part e.line channel

abbrev pub Says : End → Packet → Type 0
Says e = Noted e.line.identifier e.line.kind e.past.taken (got e)

-- the sides fit, also where the line is closed
pub record Sides (l : Line) : Type 0 where
  pub sending : (channel : ℕ) → sending_fits (send_window l channel) (send_largest l) (sending_of l channel) ≡ true
  pub receiving : (channel : ℕ) → receiving_fits (receive_window l channel) (receive_largest l) (receiving_of l channel) ≡ true

-- an end by itself
pub record Whole (e : End) : Type 0 where
  pub fits : line_fits e.line ≡ true
  pub shaped : Shaped e.line
  pub sides : Sides e.line
  pub long : part_length e.line ≤ length e.part
  pub owed : owed_of e.line.owed ≡ map mark_word e.past.owes
  pub owes : Each (HasCome (got e)) e.past.owes
  pub came : Each (HasCome (got e)) e.past.came
  pub said : Each (Says e) e.past.wrote

-- what one end has sent and the other has got
abbrev pub Flows : End → End → Type 0
Flows e f = (c : ℕ) → reliable c ≡ true → Flow (send_window e.line c) (sent e c) (got f c) (e.past.taken c) (f.past.handed c)

pub record Joined (e f : End) : Type 0 where
  pub mine : Whole e
  pub yours : Whole f
  pub there : Flows e f
  pub back : Flows f e

pub turn : {e f : End} → Joined e f → Joined f e
turn j = record { mine = j.yours; yours = j.mine; there = j.back; back = j.there }

-- what the steps ask of the sides
module _ {l : Line} (k : Sides l) (channel : ℕ) where
  pub sends_ok : SendingOk (send_window l channel) (sending_of l channel)
  sends_ok = sending_ok (send_window l channel) (send_largest l) (sending_of l channel) (window_narrow channel) (k.sending channel)

  pub gets_ok : ReceivingOk (receive_window l channel) (receiving_of l channel)
  gets_ok = receiving_ok (receive_window l channel) (receive_largest l) (receiving_of l channel) (window_narrow channel) (k.receiving channel)

-- a window and the bound together are within the numbers' span
pub wide : (channel : ℕ) → window_of channel + bound ≤ modulus
wide channel = pick_by (λ (w : ℕ). w + bound ≤ modulus) (eqb channel 1) (λ _. lit≤ tt) (λ _. lit≤ tt)

-- what holds of channels 1 and 2 holds of each that is reliable
pub on_both : (P : ℕ → Type 0) → P 1 → P 2 → (channel : ℕ) → reliable channel ≡ true → P channel
on_both P x y channel v = let b = channel_span channel v in go channel b.0 b.1
  where
    go : (n : ℕ) → 1 ≤ n → n ≤ 2 → P n
    go zero l u = absurd (omega arith)
    go (suc zero) l u = x
    go (suc (suc zero)) l u = y
    go (suc (suc (suc n))) l u = absurd (omega arith)

-- in modem relay BOOK has them fit
pub relay_sides : (l : Line) → line_fits l ≡ true → is_open l ≡ true → l.modes.local ≡ modem → Sides l
relay_sides l fits opened inside =
    let k = line_ok l opened fits in record { sending = sending_side l k inside; receiving = receiving_side l k inside }

-- What was said stays true as the end goes on.
module _ {u v : ℕ → Receives} (g : (c : ℕ) → reliable c ≡ true → Grows (u c) (v c)) where
  pub came_on : (m : Mark) → HasCome u m → HasCome v m
  came_on m k = record { served = k.served; have = (g m.channel k.served).have m.number k.have }

  names_on : {channel base : ℕ} {ms : List Mark} → Names u channel base ms → Names v channel base ms
  names_on (nothing e) = nothing e
  names_on {channel} (reached b r e q) = reached b r e (omega (arith, (g channel r).next))

  module _ {ts us : ℕ → List Message} (more : (c n : ℕ) (x : Message) → Data (ts c) n x → Data (us c) n x) where
    carries_on : {channel number : ℕ} {payload : Message} {ms : List Mark} → Carries ts channel number payload ms → Carries us channel number payload ms
    carries_on (nothing e) = nothing e
    carries_on {channel} {payload = payload} (message n r e d) = message n r e (more channel n payload d)

    pub said_on : {i j t s : ℕ} → j ≡ i → s ≡ t → (k : Packet) → Noted i t ts u k → Noted j s us v k
    said_on a b k s =
        record {
          plain = s.plain;
          listed = s.listed;
          sized = s.sized;
          named = s.named ∙ sym a;
          typed = s.typed ∙ sym b;
          words = s.words;
          acks = each_map came_on s.acks;
          names = names_on s.names;
          carries = carries_on s.carries;
        }

pub grows_none : {u v : Receives} → v ≡ u → Grows u v
grows_none {u} e = subst (Grows u) (sym e) (record { next = omega arith; have = λ n h. h })

-- A flow seen through equal views.
pub flow_as : {w : ℕ} {s t : Sends} {q r : Receives} {a b x y : List Message} → s ≡ t → q ≡ r → a ≡ b → x ≡ y → Flow w t r b y → Flow w s q a x
flow_as {w} e f g h k = transport (λ i. Flow w (sym e i) (sym f i) (sym g i) (sym h i)) k
