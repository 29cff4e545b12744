-- What a line that BOOK lets pass gives to the steps of its sides, once a relay call's first tests pass.
-- Assumes nothing.
use Prim.Native.Nat.{ℕ, ◌+◌, ◌-◌, ◌≤◌, ◌<◌}
use mathlib.Core.List.{[], ◌∷◌, ◌++◌}
use lib.ListN.{get_or}
use mathlib.Core.Logic.{⊎_elim}
use native.Mathlib.Omega.{arith}
use mathlib.Core.Path.{◌≡◌}
use mathlib.Core.Bool.{true}
use lib.Dec.{eqb, ltb, leb}
use borrow.Author.Tests.{eqb-true, ltb-true, leb-true}
use Rattle.std.specs.Prelude.{Ok}
use Rattle.ground.specs.Refusal.{must, verdict}
use Rattle.ground.specs.declared.Refusal.TheVariants.{SIZE, ROOM}
use Rattle.ground.proofs.Verdicts.{Holds, passed, pass_both}
use Rattle.ground.proofs.Picks.{both_true, pick_lt}
use Rattle.ground.proofs.Either.{or_cases}
use Rattle.places.specs.Places.{widest}
use Rattle.channel.specs.Channel.{cap}
use Rattle.channel.specs.Sizes.{message_fits}
use Rattle.sending.specs.Sending.{SendingOk, take_tests, under_way, next_place}
use Rattle.channel.proofs.Distances.{place_lt}
use Rattle.channel.proofs.Windows.{window_narrow}
use Rattle.receiving.specs.Receiving.{ReceivingOk, hand_tests, next_size}
use Rattle.channel.specs.Distance.{place_of}
use Rattle.receiving.specs.declared.Receiving.{Receiving}
use Rattle.flow.proofs.Keeps.{sending_ok, receiving_ok, receiving_sized}
use Rattle.mode.specs.Given.{modem}
use Rattle.line.specs.Line.{sending_of, receiving_of}
use Rattle.line.specs.Fit.{line_fits}
use Rattle.line.specs.Figures.{send_window, receive_window, send_largest, receive_largest}
use Rattle.line.specs.Part.{slot_count, part_length, region_of}
use Rattle.line.proofs.Part.{Served, slot_there}
use Rattle.line.specs.declared.Line.{Line}
use Rattle.line.proofs.Keeps.{LineOk, line_ok, sending_side, receiving_side}
use Rattle.store.specs.Store.{SlotIn}
use Rattle.store.specs.declared.Way.{Way}
use Rattle.relay.specs.RelayTests.{reliable, relay_channel_tests}
use Rattle.relay.specs.Take.{take_call_tests}
use Rattle.relay.specs.HandOut.{hand_call_tests}

module _ (l : Line) (fits : line_fits l ≡ true) (channel : ℕ) (pass : verdict (relay_channel_tests l channel) ≡ Ok tt) where
  tests : Holds (relay_channel_tests l channel)
  tests = passed (relay_channel_tests l channel) pass

  pub inside : l.modes.local ≡ modem
  unfolding relay_channel_tests
  inside = eqb-true _ _ tests.1.0

  pub ok : LineOk l
  unfolding relay_channel_tests
  ok = line_ok l tests.0 fits

  pub sending_steps : SendingOk (send_window l channel) (sending_of l channel)
  sending_steps = sending_ok (send_window l channel) (send_largest l) (sending_of l channel) (window_narrow channel) (sending_side l ok inside channel)

  pub receiving_steps : ReceivingOk (receive_window l channel) (receiving_of l channel)
  receiving_steps = receiving_ok (receive_window l channel) (receive_largest l) (receiving_of l channel) (window_narrow channel) (receiving_side l ok inside channel)

  pub first_in : (receiving_of l channel).origin < widest
  first_in = omega (arith, receiving_steps.placed, window_narrow channel)

  pub sending_ordered : (sending_of l channel).base ≤ (sending_of l channel).taken
  sending_ordered = sending_steps.ordered

-- "message call not naming 1 or 2": a channel that passed is 1 or 2
pub channel_span : (channel : ℕ) → reliable channel ≡ true → (1 ≤ channel) × (channel ≤ 2)
channel_span channel e =
    ⊎_elim (λ a. let h : channel ≡ 1 = eqb-true _ _ a in (omega arith, omega arith)) (λ b. let h : channel ≡ 2 = eqb-true _ _ b in (omega arith, omega arith))
    (or_cases (eqb channel 1) (eqb channel 2) e)

-- the message at the first place is no place further on
place_first : (w origin : ℕ) → origin < w → place_of origin 0 w ≡ origin
place_first w origin h = pick_lt (λ (p : ℕ). p ≡ origin) (origin + 0) w (λ l. omega arith) (λ l. absurd (omega arith))

-- so the channel has slots, both ways, and each place of its window has one in the line's part
pub side_served : (way : Way) (channel : ℕ) → reliable channel ≡ true → Served (record { way = way; channel = channel })
side_served way channel e = let c = channel_span channel e in record { low = c.0; high = c.1 }

pub slot_in : (l : Line) (way : Way) (channel p n : ℕ) → reliable channel ≡ true → p < slot_count l way channel → part_length l ≤ n → SlotIn (region_of l way channel) p n
slot_in l way channel p n e = slot_there l (record { way = way; channel = channel }) (side_served way channel e) p n

-- all tests before a message is taken pass
module _ (l : Line) (fits : line_fits l ≡ true) (channel n : ℕ) (pass : verdict (take_call_tests l channel n) ≡ Ok tt) where
  parts : (verdict (relay_channel_tests l channel) ≡ Ok tt) × (verdict (must (message_fits (send_largest l) n) SIZE ∷ take_tests (send_window l channel) (sending_of l channel)) ≡ Ok tt)
  unfolding take_call_tests
  parts = pass_both (relay_channel_tests l channel) (must (message_fits (send_largest l) n) SIZE ∷ take_tests (send_window l channel) (sending_of l channel)) pass

  pub take_asked : verdict (relay_channel_tests l channel) ≡ Ok tt
  take_asked = parts.0

  rest : Holds (must (message_fits (send_largest l) n) SIZE ∷ take_tests (send_window l channel) (sending_of l channel))
  rest = passed (must (message_fits (send_largest l) n) SIZE ∷ take_tests (send_window l channel) (sending_of l channel)) parts.1

  pub take_reliable : reliable channel ≡ true
  unfolding relay_channel_tests
  take_reliable = (passed (relay_channel_tests l channel) parts.0).1.1.0

  pub take_fits : message_fits (send_largest l) n ≡ true
  take_fits = rest.0

  pub take_size : n ≤ send_largest l
  take_size = leb-true _ _ (both_true (ltb 0 n) (leb n (send_largest l)) take_fits).1

  pub take_side : verdict (take_tests (send_window l channel) (sending_of l channel)) ≡ Ok tt
  take_side = (pass_both (must (message_fits (send_largest l) n) SIZE ∷ []) (take_tests (send_window l channel) (sending_of l channel)) parts.1).1

  pub take_steps : SendingOk (send_window l channel) (sending_of l channel)
  take_steps = sending_steps l fits channel parts.0

  pub take_cap : (sending_of l channel).taken < cap
  take_cap = ltb-true _ _ rest.1.0

  pub take_window : (sending_of l channel).taken - (sending_of l channel).base < send_window l channel
  take_window = ltb-true _ _ rest.1.1.0

  pub take_place : next_place (send_window l channel) (sending_of l channel) < send_window l channel
  take_place = place_lt (send_window l channel) (sending_of l channel).origin (under_way (sending_of l channel)) take_steps.placed (omega (arith, take_window))

-- all tests before a message is handed out pass
module _ (l : Line) (fits : line_fits l ≡ true) (channel space : ℕ) (pass : verdict (hand_call_tests l channel space) ≡ Ok tt) where
  abbrev side : Receiving
  side = receiving_of l channel

  asked_first : (verdict (relay_channel_tests l channel) ≡ Ok tt) × (verdict (hand_tests side ++ (must (leb (next_size side) space) ROOM ∷ [])) ≡ Ok tt)
  unfolding hand_call_tests
  asked_first = pass_both (relay_channel_tests l channel) (hand_tests side ++ (must (leb (next_size side) space) ROOM ∷ [])) pass

  then_side : (verdict (hand_tests side) ≡ Ok tt) × (verdict (must (leb (next_size side) space) ROOM ∷ []) ≡ Ok tt)
  then_side = pass_both (hand_tests side) (must (leb (next_size side) space) ROOM ∷ []) asked_first.1

  pub hand_asked : verdict (relay_channel_tests l channel) ≡ Ok tt
  hand_asked = asked_first.0

  pub hand_side : verdict (hand_tests (receiving_of l channel)) ≡ Ok tt
  hand_side = then_side.0

  pub hand_reliable : reliable channel ≡ true
  unfolding relay_channel_tests
  hand_reliable = (passed (relay_channel_tests l channel) asked_first.0).1.1.0

  pub hand_steps : ReceivingOk (receive_window l channel) (receiving_of l channel)
  hand_steps = receiving_steps l fits channel asked_first.0

  pub hand_first : (receiving_of l channel).origin < widest
  hand_first = first_in l fits channel asked_first.0

  pub hand_cap : (receiving_of l channel).next < cap
  hand_cap = ltb-true _ _ (passed (hand_tests side) then_side.0).0

  pub hand_room : next_size (receiving_of l channel) ≤ space
  hand_room = leb-true _ _ (passed (must (leb (next_size side) space) ROOM ∷ []) then_side.1).0

  -- message R is stored, so its size is one that BOOK lets pass
  pub hand_size : next_size (receiving_of l channel) ≤ receive_largest l
  hand_size =
      let k : ReceivingOk (receive_window l channel) side = hand_steps in
      let f = receiving_sized (receive_window l channel) (receive_largest l) side (receiving_side l (ok l fits channel asked_first.0) (inside l fits channel asked_first.0) channel) in
      let first-place : place_of side.origin 0 (receive_window l channel) ≡ side.origin = place_first (receive_window l channel) side.origin k.placed in
      let s : message_fits (receive_largest l) (get_or side.sizes (place_of side.origin 0 (receive_window l channel)) 0) ≡ true = f 0 (omega (arith, k.placed)) (passed (hand_tests side) then_side.0).1.0 in
      let t : message_fits (receive_largest l) (next_size side) ≡ true = rw first-place at s in
      leb-true _ _ (both_true (ltb 0 (next_size side)) (leb (next_size side) (receive_largest l)) t).1
