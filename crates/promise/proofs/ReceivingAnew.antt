-- A receiving side is put anew, by a hand-out or by a message that comes: what the end has sent stays, and so does its other channel.
-- Assumes nothing.
use Prim.Native.Nat.{ℕ, ◌≤◌}
use mathlib.Core.Path.{◌≡◌, refl, sym, ap, subst, ◌∙◌}
use mathlib.Core.Bool.{true}
use mathlib.Core.List.{List, [], ◌∷◌, ◌++◌, map}
use mathlib.Core.Logic.{◌≢◌}
use native.Mathlib.Omega.{arith}
use lib.ListN.{length, take}
use Rattle.std.specs.Prelude.{Ok}
use Rattle.ground.specs.Refusal.{verdict}
use Rattle.ground.proofs.Verdicts.{passed}
use Rattle.ground.proofs.Every.{apart}
use Rattle.places.specs.Places.{mask_of, bit_of}
use Rattle.receiving.specs.Receiving.{hand_tests, next_size, handed_out}
use Rattle.receiving.specs.declared.Receiving.{Receiving}
use Rattle.flow.proofs.Keeps.{receiving_sized}
use Rattle.flow.specs.Flow.{Message, HandOutMove, Flow, Grows}
use Rattle.flow.specs.View.{receives}
use Rattle.flow.proofs.Flows.{handed_grows}
use Rattle.flow.proofs.Moves.{handed_moves}
use Rattle.flow.proofs.OneWay.{handed_flow}
use Rattle.owed.specs.Owed.{owed_of}
use Rattle.line.specs.Fit.{line_fits}
use Rattle.line.specs.Figures.{send_window, receive_window, receive_largest}
use Rattle.line.specs.Part.{slot_count, part_length, region_of}
use Rattle.line.proofs.Part.{region_end}
use Rattle.line.proofs.Same.{SameSettings}
use Rattle.line.specs.Line.{is_open, sending_of, receiving_of}
use Rattle.line.specs.Shape.{Shaped}
use Rattle.line.specs.declared.Line.{Line}
use Rattle.mode.specs.Given.{modem}
use Rattle.mode.specs.declared.Modes.{Modes}
use Rattle.store.specs.declared.Way.TheVariants as way
use Rattle.store.proofs.Octets.{slot_front}
use Rattle.relay.specs.RelayTests.{reliable}
use Rattle.relay.specs.HandOut.{hand_call_tests, handed_line, handed_octets}
use Rattle.relay.proofs.Lines.{side_served, hand_asked, hand_side, hand_reliable, hand_size}
use Rattle.relay.proofs.Keeps.{handed_line_same, handed_line_keeps}
use Rattle.promise.specs.Past.{Mark, more, handed_past}
use Rattle.promise.specs.Run.{Each, bound}
use Rattle.promise.specs.Ends.{slots_of}
use Rattle.promise.proofs.Lists.{each_map}
use Rattle.promise.proofs.Views.{SameSlots, sends_kept, receives_kept, receiving_here, receiving_other, slots_hold}
use Rattle.promise.specs.Notes.{HasCome, mark_word}
use Rattle.promise.proofs.Ends.{End, Whole, Joined, sent, got, sends_ok, gets_ok, wide, relay_sides, came_on, said_on, grows_none, flow_as}
use Rattle.promise.proofs.SendingAnew.{asked_open, more_here, more_other}

module _ {e f : End} (j : Joined e f) (channel : ℕ) (l : Line) (part : List ℕ) (handed : ℕ → List Message) (owes came : List Mark) where
  abbrev now : End
  now =
      record {
        line = l;
        part = part;
        past = record { opened = e.past.opened; taken = e.past.taken; handed = handed; wrote = e.past.wrote; owes = owes; came = came };
      }

  pub receiving_joined : is_open e.line ≡ true → e.line.modes.local ≡ modem → SameSettings e.line l → (line_fits l ≡ true) × Shaped l → part_length l ≤ length part
      → ((c : ℕ) → sending_of l c ≡ sending_of e.line c)
      → ((c : ℕ) → reliable c ≡ true → c ≢ channel → receiving_of l c ≡ receiving_of e.line c)
      → ((c : ℕ) → reliable c ≡ true → SameSlots e.line way.Sending c e.part part)
      → ((c : ℕ) → reliable c ≡ true → c ≢ channel → SameSlots e.line way.Receiving c e.part part)
      → ((c : ℕ) → c ≢ channel → handed c ≡ e.past.handed c)
      → owed_of l.owed ≡ map mark_word owes
      → (((m : Mark) → HasCome (got e) m → HasCome (got now) m) → Each (HasCome (got now)) owes × Each (HasCome (got now)) came)
      → Grows (got e channel) (got now channel)
      → Flow (send_window f.line channel) (sent f channel) (got now channel) (f.past.taken channel) (handed channel)
      → Joined now f
  receiving_joined opened inside n keeps long sending receiving out into same owed marks more flow =
      record {
        mine = record {
          fits = keeps.0;
          shaped = keeps.1;
          sides = relay_sides l keeps.0 (n.opening.opened ∙ opened) (ap (λ (m : Modes). m.local) n.modes ∙ inside);
          long = long;
          owed = owed;
          owes = (marks (came_on grows)).0;
          came = (marks (came_on grows)).1;
          said = each_map (said_on grows (λ c n x d. d) n.opening.identifier n.opening.kind) j.mine.said;
        };
        yours = j.yours;
        there = λ c r. flow_as (sends_kept e.part part e.line l c (sends_ok j.mine.sides c) (sending c) (out c r)) refl refl refl (j.there c r);
        back = apart (λ c. reliable c ≡ true → Flow (send_window f.line c) (sent f c) (got now c) (f.past.taken c) (handed c)) channel (λ _. flow)
            (λ c d r. flow_as refl (gets c d r) refl (same c d) (j.back c r));
      }
    where
      gets : (c : ℕ) → c ≢ channel → reliable c ≡ true → got now c ≡ got e c
      gets c d r = receives_kept e.part part e.line l c (gets_ok j.mine.sides c) (receiving c r d) (into c r d)

      grows : (c : ℕ) → reliable c ≡ true → Grows (got e c) (got now c)
      grows = apart (λ c. reliable c ≡ true → Grows (got e c) (got now c)) channel (λ _. more) (λ c d r. grows_none (gets c d r))

-- "Handing out gives message R and moves R on"
abbrev pub after_handing : End → ℕ → End
after_handing e channel =
    record {
      line = handed_line e.line channel;
      part = e.part;
      past = handed_past e.past channel (handed_octets e.line channel e.part);
    }

module _ {e f : End} (channel space : ℕ) (pass : verdict (hand_call_tests e.line channel space) ≡ Ok tt) (j : Joined e f) where
  abbrev l : Line
  l = e.line

  abbrev k : Whole e
  k = j.mine

  abbrev r : Receiving
  r = receiving_of l channel

  v : reliable channel ≡ true
  v = hand_reliable l k.fits channel space pass

  there : bit_of (mask_of r.stored) 0 ≡ true
  there = (passed (hand_tests r) (hand_side l k.fits channel space pass)).1.0

  -- the octets that are handed out are those of message R
  octets : take (next_size r) (slots_of l e.part way.Receiving channel r.origin) ≡ handed_octets l channel e.part
  octets =
      let s = region_end l (record { way = way.Receiving; channel = channel }) (side_served way.Receiving channel v) in
      slot_front e.part (region_of l way.Receiving channel) (slot_count l way.Receiving channel) (omega (arith, s, k.long)) r.origin (next_size r)
      (hand_size l k.fits channel space pass)

  side : got (after_handing e channel) channel ≡ receives (receive_window l channel) (slots_of l e.part way.Receiving channel) (handed_out (receive_window l channel) r)
  side = ap (receives (receive_window l channel) (slots_of l e.part way.Receiving channel)) (receiving_here l channel (handed_out (receive_window l channel) r))

  pub hands : HandOutMove (got e channel) (got (after_handing e channel) channel)
  hands = subst (HandOutMove (got e channel)) (sym side) (handed_moves (receive_window l channel) (slots_of l e.part way.Receiving channel) r (gets_ok k.sides channel))

  pub hand_joined : Joined (after_handing e channel) f
  hand_joined =
      let w = receive_window l channel in
      let o = asked_open l channel (hand_asked l k.fits channel space pass) in
      let slots = slots_of l e.part way.Receiving channel in
      receiving_joined j channel (handed_line l channel) e.part (more e.past.handed channel (handed_octets l channel e.part)) e.past.owes e.past.came
      o.0 o.1 (handed_line_same l channel) (handed_line_keeps l channel space k.fits k.shaped pass) k.long
      (λ c. refl) (λ c u d. receiving_other l channel c v u d (handed_out w r)) (λ c u p q. refl) (λ c u d p q. refl)
      (more_other e.past.handed channel (handed_octets l channel e.part))
      k.owed
      (λ g. (each_map g k.owes, each_map g k.came))
      (handed_grows (got e channel) (got (after_handing e channel) channel) hands)
      (flow_as refl side refl (more_here e.past.handed channel (handed_octets l channel e.part) ∙ ap (λ (x : Message). e.past.handed channel ++ (x ∷ [])) (sym octets))
      (handed_flow w bound (wide channel) (sending_of f.line channel) r (slots_of f.line f.part way.Sending channel) slots (f.past.taken channel) (e.past.handed channel)
      (sends_ok j.yours.sides channel) (gets_ok k.sides channel) (j.back channel v) (receive_largest l) (receiving_sized w (receive_largest l) r (k.sides.receiving channel))
      (slots_hold l e.part k.long way.Receiving channel v) there))
