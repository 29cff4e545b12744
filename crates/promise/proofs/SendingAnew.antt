-- A sending side is put anew, by a message taken or by news of the peer: what the end has got stays, and so does its other channel.
-- Assumes nothing.
use Prim.Native.Nat.{ℕ, ◌≤◌, ◌<◌}
use mathlib.Core.Path.{◌≡◌, refl, sym, ap, ◌∙◌}
use mathlib.Core.Bool.{true}
use mathlib.Core.List.{List, [], ◌∷◌, ◌++◌}
use mathlib.Core.Logic.{◌≢◌}
use native.Mathlib.Omega.{arith}
use lib.Dec.{eqb, ltb, leb}
use lib.ListN.{length}
use borrow.Author.Tests.{eqb-true, eq-eqb, ne_eqb, ltb-true}
use Rattle.std.specs.Prelude.{Ok}
use Rattle.ground.specs.Refusal.{verdict}
use Rattle.ground.proofs.Picks.{pick_by, both_true}
use Rattle.ground.proofs.Verdicts.{passed}
use Rattle.ground.proofs.Every.{apart}
use Rattle.sending.specs.Sending.{next_place, took_one}
use Rattle.sending.specs.declared.Sending.{Sending}
use Rattle.flow.specs.Flow.{Message, Flow, Data, Grows}
use Rattle.flow.specs.View.{sends}
use Rattle.flow.proofs.Flows.{data_more}
use Rattle.flow.proofs.OneWay.{took_flow}
use Rattle.line.specs.Fit.{line_fits}
use Rattle.line.specs.Figures.{send_window, send_largest}
use Rattle.line.specs.Part.{part_length}
use Rattle.line.proofs.Part.{Side}
use Rattle.line.proofs.Same.{with_sending_same}
use Rattle.line.specs.Line.{is_open, sending_of, receiving_of, with_sending}
use Rattle.line.specs.Shape.{Shaped}
use Rattle.line.specs.declared.Line.{Line}
use Rattle.line.proofs.Shape.{sending_long}
use Rattle.mode.specs.Given.{modem}
use Rattle.mode.specs.declared.Modes.{Modes}
use Rattle.store.specs.declared.Way.{Way}
use Rattle.store.specs.declared.Way.TheVariants as way
use Rattle.relay.specs.RelayTests.{reliable, relay_channel_tests}
use Rattle.relay.specs.Take.{take_call_tests, took_line, took_part}
use Rattle.relay.proofs.Lines.{side_served, take_asked, take_reliable, take_fits, take_size, take_window, take_place}
use Rattle.relay.proofs.Keeps.{took_line_keeps, took_part_length}
use Rattle.channel.proofs.Windows.{window_narrow}
use Rattle.promise.specs.Past.{more, took_past}
use Rattle.promise.specs.Run.{bound}
use Rattle.promise.specs.Ends.{slots_of}
use Rattle.promise.proofs.Lists.{each_map}
use Rattle.promise.proofs.Views.{SameSlots, sends_kept, receives_kept, sending_here, sending_other, put_here, put_apart}
use Rattle.promise.proofs.Ends.{End, Joined, sent, got, sends_ok, gets_ok, wide, relay_sides, came_on, said_on, grows_none, flow_as}

-- a relay call that is answered finds the line open and in modem relay
pub asked_open : (l : Line) (channel : ℕ) → verdict (relay_channel_tests l channel) ≡ Ok tt → (is_open l ≡ true) × (l.modes.local ≡ modem)
unfolding relay_channel_tests
asked_open l channel e = let t = passed (relay_channel_tests l channel) e in (t.0, eqb-true _ _ t.1.0)

module _ {e f : End} (j : Joined e f) (channel : ℕ) (v : reliable channel ≡ true) (s : Sending) (part : List ℕ) (taken : ℕ → List Message) where
  abbrev now : End
  now =
      record {
        line = with_sending e.line channel s;
        part = part;
        past = record { opened = e.past.opened; taken = taken; handed = e.past.handed; wrote = e.past.wrote; owes = e.past.owes; came = e.past.came };
      }

  pub sending_joined : is_open e.line ≡ true → e.line.modes.local ≡ modem → (line_fits now.line ≡ true) × Shaped now.line → part_length e.line ≤ length part
      → ((c : ℕ) → reliable c ≡ true → SameSlots e.line way.Receiving c e.part part)
      → ((c : ℕ) → reliable c ≡ true → c ≢ channel → SameSlots e.line way.Sending c e.part part)
      → ((c n : ℕ) (x : Message) → Data (e.past.taken c) n x → Data (taken c) n x) → ((c : ℕ) → c ≢ channel → taken c ≡ e.past.taken c)
      → Flow (send_window e.line channel) (sends (send_window e.line channel) (slots_of e.line part way.Sending channel) s) (got f channel) (taken channel) (f.past.handed channel)
      → Joined now f
  sending_joined opened inside keeps long into out more same flow =
      let n = with_sending_same e.line channel s in
      record {
        mine = record {
          fits = keeps.0;
          shaped = keeps.1;
          sides = relay_sides now.line keeps.0 (n.opening.opened ∙ opened) (ap (λ (m : Modes). m.local) n.modes ∙ inside);
          long = long;
          owed = j.mine.owed;
          owes = each_map (came_on grows) j.mine.owes;
          came = each_map (came_on grows) j.mine.came;
          said = each_map (said_on grows more n.opening.identifier n.opening.kind) j.mine.said;
        };
        yours = j.yours;
        there = apart (λ c. reliable c ≡ true → Flow (send_window e.line c) (sent now c) (got f c) (taken c) (f.past.handed c)) channel
            (λ _. flow_as (ap (sends (send_window e.line channel) (slots_of e.line part way.Sending channel)) (sending_here e.line channel s)) refl refl refl flow)
            (λ c d r. flow_as (sends_kept e.part part e.line now.line c (sends_ok j.mine.sides c) (sending_other e.line channel c v r d s) (out c r d)) refl (same c d) refl (j.there c r));
        back = λ c r. flow_as refl (gets c r) refl refl (j.back c r);
      }
    where
      gets : (c : ℕ) → reliable c ≡ true → got now c ≡ got e c
      gets c r = receives_kept e.part part e.line now.line c (gets_ok j.mine.sides c) refl (into c r)

      grows : (c : ℕ) → reliable c ≡ true → Grows (got e c) (got now c)
      grows c r = grows_none (gets c r)

-- one more message of the channel, and of no other
module _ (taken : ℕ → List Message) (channel : ℕ) (m : Message) where
  pub more_here : more taken channel m channel ≡ taken channel ++ (m ∷ [])
  more_here = rw (eq-eqb channel channel refl)

  pub more_other : (c : ℕ) → c ≢ channel → more taken channel m c ≡ taken c
  more_other c d = rw (ne_eqb c channel d)

  pub more_data : (c n : ℕ) (x : Message) → Data (taken c) n x → Data (more taken channel m c) n x
  more_data c n x d = pick_by (λ (l : List Message). Data l n x) (eqb c channel) (λ _. data_more (taken c) m n x d) (λ _. d)

-- other ways and other channels have regions of their own
pub way_apart : {c channel : ℕ} → ◌≢◌ {A = Side} (record { way = way.Sending; channel = channel }) (record { way = way.Receiving; channel = c })
way_apart e = absurd (let q : way.Sending ≡ way.Receiving = ap (λ (x : Side). x.way) e in let z : ◌≡◌ {A = ℕ} 0 1 = cc in omega arith)

pub channel_apart : {c channel : ℕ} {w : Way} → c ≢ channel → ◌≢◌ {A = Side} (record { way = w; channel = channel }) (record { way = w; channel = c })
channel_apart d e = d (sym (ap (λ (x : Side). x.channel) e))

-- "A message is taken"
abbrev pub after_taking : End → ℕ → Message → End
after_taking e channel m =
    record {
      line = took_line e.line channel (length m);
      part = took_part e.line channel m e.part;
      past = took_past e.past channel m;
    }

pub taking_joined : {e f : End} (channel : ℕ) (m : Message) → verdict (take_call_tests e.line channel (length m)) ≡ Ok tt → Joined e f
    → Joined (after_taking e channel m) f
taking_joined {e} {f} channel m pass j =
    let l = e.line in
    let k = j.mine in
    let n = length m in
    let asked = take_asked l k.fits channel n pass in
    let v = take_reliable l k.fits channel n pass in
    let o = asked_open l channel asked in
    let z = sending_long l k.shaped channel in
    let near = take_place l k.fits channel n pass in
    let fits = take_size l k.fits channel n pass in
    let some : 0 < n = ltb-true _ _ (both_true (ltb 0 n) (leb n (send_largest l)) (take_fits l k.fits channel n pass)).0 in
    let put = put_here l e.part k.long way.Sending channel v (next_place (send_window l channel) (sending_of l channel)) m near fits in
    let kept = put_apart l e.part k.long way.Sending channel v (next_place (send_window l channel) (sending_of l channel)) m near fits in
    sending_joined j channel v (took_one (send_window l channel) (sending_of l channel) n) (took_part l channel m e.part) (more e.past.taken channel m)
    o.0 o.1 (took_line_keeps l channel n k.fits k.shaped pass) (omega (arith, k.long, took_part_length l channel m e.part))
    (λ c r. kept (record { way = way.Receiving; channel = c }) (side_served way.Receiving c r) way_apart)
    (λ c r d. kept (record { way = way.Sending; channel = c }) (side_served way.Sending c r) (channel_apart d))
    (more_data e.past.taken channel m) (more_other e.past.taken channel m)
    (flow_as refl refl (more_here e.past.taken channel m) refl
    (took_flow (send_window l channel) bound (wide channel) (sending_of l channel) (receiving_of f.line channel)
    (slots_of l e.part way.Sending channel) (slots_of f.line f.part way.Receiving channel) (e.past.taken channel) (f.past.handed channel)
    (sends_ok k.sides channel) (gets_ok j.yours.sides channel) (j.there channel v)
    (slots_of l (took_part l channel m e.part) way.Sending channel) m (omega (arith, z, window_narrow channel)) (take_window l k.fits channel n pass) some put))
