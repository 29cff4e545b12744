-- A held message that may be written: each answer of the tests before it, and that its packet may be written then.
-- Assumes nothing.
use Prim.Native.Nat.{ℕ, ◌+◌, ◌%◌, ◌≤◌, ◌<◌}
use mathlib.Core.Path.{◌≡◌, refl, ap, ◌∙◌}
use mathlib.Core.Bool.{true}
use mathlib.Core.List.{List, [], ◌∷◌}
use native.Mathlib.Omega.{arith}
use lib.Dec.{ltb, leb}
use lib.ListN.{length, drop, length-drop}
use lib.Seq.{length-take-le}
use borrow.Author.Tests.{le-leb, lt-leb, ltb-true, leb-true, ne_eqb}
use Rattle.std.specs.Prelude.{Option, Some, None, Result, Ok, Err}
use Rattle.ground.specs.Refusal.{Verdict, Test, must, verdict, settle}
use Rattle.ground.specs.declared.Refusal.{Refusal}
use Rattle.ground.specs.declared.Refusal.TheVariants.{NOTHING, ROOM}
use Rattle.ground.proofs.Picks.{both_true, clash}
use Rattle.ground.proofs.Verdicts.{passed, pass_both, verdict_on, verdict_stop}
use Rattle.places.specs.Places.{mask_of, rank_of}
use Rattle.places.proofs.Ranks.{rank_holds, rank_below}
use Rattle.channel.specs.Channel.{modulus}
use Rattle.sending.specs.Sending.{SendingOk, sending_fits, held_at, held_of, under_way}
use Rattle.channel.specs.Sizes.{message_fits}
use Rattle.sending.specs.declared.Held.{Held}
use Rattle.sending.specs.declared.Sending.{Sending}
use Rattle.channel.proofs.Distances.{place_lt}
use Rattle.flow.proofs.Keeps.{sending_sized}
use Rattle.packet.specs.Read as packet
use Rattle.packet.specs.Write.{numbers_placed, write_tests}
use Rattle.packet.proofs.Writes.{packet_length}
use Rattle.owed.proofs.Steps.{owed_ok}
use Rattle.line.specs.Fit.{line_fits}
use Rattle.line.specs.Figures.{send_window, send_largest}
use Rattle.line.specs.Part.{part_length, region_of}
use Rattle.line.proofs.Part.{region_size}
use Rattle.line.specs.Line.{sending_of}
use Rattle.line.specs.declared.Line.{Line}
use Rattle.line.proofs.Keeps.{LineOk, sending_side}
use Rattle.store.specs.Store.{slot_at, SlotIn, octets_in}
use Rattle.store.specs.declared.Region.{Region}
use Rattle.store.specs.declared.Way.TheVariants as way
use Rattle.relay.specs.RelayTests.{reliable, relay_channel_tests}
use Rattle.relay.proofs.Lines.{ok, inside, sending_steps, channel_span, slot_in}
use Rattle.writing.specs.Write.{acks_for, head_for}
use Rattle.writing.specs.Send.{ranked, is_held, held_in, sent_length, send_tests, send_verdict, Sendable}
use Rattle.writing.proofs.Packets.{acks_few, packet_passes}

-- an answer by a verdict, read back
says_passed : {h : Held} (v : Verdict) (k : Held) → settle v Err (Ok k) ≡ Ok h → (v ≡ Ok tt) × (h ≡ k)
says_passed (Ok tt) k e = (refl, cc)
says_passed (Err r) k e = absurd (let z : ◌≡◌ {A = ℕ} 0 1 = cc in omega arith)

-- Each answer to the call.
module _ (l : Line) (channel rank space : ℕ) where
  -- the tests of the message itself
  abbrev tested : Option Held → List Test
  tested k = must (is_held k) NOTHING ∷ must (leb (sent_length l (held_in k)) space) ROOM ∷ []

  abbrev says : Verdict → Option Held → Result Held Refusal
  says v k = settle v Err (Ok (held_in k))

  -- line or channel refuse
  pub send_refused : {r : Refusal} → verdict (relay_channel_tests l channel) ≡ Err r → send_verdict l channel rank space ≡ Err r
  unfolding send_verdict send_tests
  send_refused e = ap (λ (v : Verdict). says v (ranked l channel rank)) (verdict_stop (relay_channel_tests l channel) (tested (ranked l channel rank)) e)

  module _ (asked : verdict (relay_channel_tests l channel) ≡ Ok tt) where
    then : send_verdict l channel rank space ≡ says (verdict (tested (ranked l channel rank))) (ranked l channel rank)
    unfolding send_verdict send_tests
    then = ap (λ (v : Verdict). says v (ranked l channel rank)) (verdict_on (relay_channel_tests l channel) (tested (ranked l channel rank)) asked)

    -- there is no message of that rank
    pub send_nothing : ranked l channel rank ≡ None → send_verdict l channel rank space ≡ Err NOTHING
    send_nothing e = then ∙ ap (λ (k : Option Held). says (verdict (tested k)) k) e

    module _ {h : Held} (found : ranked l channel rank ≡ Some h) where
      -- there is one, and its packet has no room
      pub send_room : space < sent_length l h → send_verdict l channel rank space ≡ Err ROOM
      send_room q = then ∙ ap (λ (k : Option Held). says (verdict (tested k)) k) found ∙ rw (lt-leb (sent_length l h) space q)

      -- or has it
      pub send_may : sent_length l h ≤ space → send_verdict l channel rank space ≡ Ok h
      send_may q = then ∙ ap (λ (k : Option Held). says (verdict (tested k)) k) found ∙ rw (le-leb (sent_length l h) space q)

  -- and what an answer says of the tests
  pub may_passed : {h : Held} → send_verdict l channel rank space ≡ Ok h → (verdict (send_tests l channel rank space) ≡ Ok tt) × (h ≡ held_in (ranked l channel rank))
  unfolding send_verdict
  may_passed = says_passed (verdict (send_tests l channel rank space)) (held_in (ranked l channel rank))

-- a message found by its rank lies at a place of the window and has a size that BOOK lets pass
held_there : (w z : ℕ) (s : Sending) (rank : ℕ) → SendingOk w s → sending_fits w z s ≡ true → is_held (held_of w s rank) ≡ true
    → ((held_in (held_of w s rank)).place < w) × (message_fits z (held_in (held_of w s rank)).size ≡ true)
unfolding held_of
held_there w z s rank k f = go (rank_of (mask_of s.unacked) rank) refl
  where
    go : (p : Option ℕ) → rank_of (mask_of s.unacked) rank ≡ p → is_held (held_at w s p) ≡ true
        → ((held_in (held_at w s p)).place < w) × (message_fits z (held_in (held_at w s p)).size ≡ true)
    go (Some i) e t =
        let i-under : i < under_way s = rank_below (mask_of s.unacked) rank i (under_way s) k.masked e in
        (place_lt w s.origin i k.placed (omega (arith, k)), sending_sized w z s f i (omega (arith, k)) (rank_holds (mask_of s.unacked) rank i e).1)
    go None e t = clash t

-- so a message that may be written can be
pub may_sendable : (l : Line) (channel rank space : ℕ) {h : Held} → line_fits l ≡ true → send_verdict l channel rank space ≡ Ok h → Sendable l channel space h
unfolding send_tests
may_sendable l channel rank space fits e =
    let p = may_passed l channel rank space e in
    let k = ranked l channel rank in
    let a = pass_both (relay_channel_tests l channel) (tested l channel rank space k) p.0 in
    let t = passed (tested l channel rank space k) a.1 in
    let s = sending_side l (ok l fits channel a.0) (inside l fits channel a.0) channel in
    let u = held_there (send_window l channel) (send_largest l) (sending_of l channel) rank (sending_steps l fits channel a.0) s t.0 in
    rw p.1 (record { asked = a.0; placed = u.0; sized = u.1; roomy = leb-true _ _ t.1.0 })

-- What writing it needs.
module _ (l : Line) (fits : line_fits l ≡ true) (channel space : ℕ) (h : Held) (k : Sendable l channel space h) where
  okay : LineOk l
  okay = ok l fits channel k.asked

  pub send_reliable : reliable channel ≡ true
  unfolding relay_channel_tests
  send_reliable = (passed (relay_channel_tests l channel) k.asked).1.1.0

  served : (1 ≤ channel) × (channel ≤ 2)
  served = channel_span channel send_reliable

  pub send_size : (0 < h.size) × (h.size ≤ send_largest l)
  send_size =
      let b = both_true (ltb 0 h.size) (leb h.size (send_largest l)) k.sized in
      (ltb-true _ _ b.0, leb-true _ _ b.1)

  pub send_owes : l.owed.count ≤ 64
  send_owes = (owed_ok l.owed okay.owed).few

  abbrev region : Region
  region = region_of l way.Sending channel

  -- its place has a slot, and its octets lie in the line's part
  pub send_in : SlotIn region h.place (part_length l)
  send_in = slot_in l way.Sending channel h.place (part_length l) send_reliable k.placed (omega arith)

  pub send_end : slot_at region h.place + h.size ≤ part_length l
  send_end = omega (arith, send_in.inside, region_size l way.Sending channel, send_size.1)

  module _ (part : List ℕ) (long : part_length l ≤ length part) where
    abbrev octets : List ℕ
    octets = octets_in part region h.place h.size

    octets_length : length octets ≡ h.size
    octets_length =
        let at = slot_at region h.place in
        length-take-le h.size (drop at part) (omega (arith, length-drop at part, send_end))

    placed : numbers_placed (head_for l channel (h.number % modulus)) (length octets) ≡ true
    unfolding numbers_placed
    placed = rw (ne_eqb channel 0 (λ e. omega (arith, served)), ne_eqb (length octets) 0 (λ e. omega (arith, octets_length, send_size.0)))

    fitting : packet.size_fits channel (length octets) (send_largest l) ≡ true
    unfolding packet.size_fits
    fitting = rw (ne_eqb channel 0 (λ e. omega (arith, served))) (le-leb (length octets) (send_largest l) (omega (arith, octets_length, send_size.1)))

    -- and its packet may be written
    pub send_passes : verdict (write_tests (head_for l channel (h.number % modulus)) (acks_for l) octets (send_largest l) space) ≡ Ok tt
    send_passes =
        packet_passes l okay channel (h.number % modulus) space octets served.1 (omega arith) placed fitting
        (rw (packet_length (head_for l channel (h.number % modulus)) (acks_for l) (acks_few l) octets, octets_length) k.roomy)
