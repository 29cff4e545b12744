-- A packet is written: what its octets say, read back, is true of the end, and the owed numbers that it carries leave the list.
-- Assumes nothing.
use Prim.Native.Nat.{ℕ, zero, suc, ◌+◌, ◌%◌, ◌≤◌, ◌<◌}
use mathlib.Core.Path.{◌≡◌, refl, sym, ap, subst, transport, ◌∙◌}
use mathlib.Core.Bool.{true}
use mathlib.Core.List.{List, [], ◌∷◌}
use native.Mathlib.Omega.{arith}
use lib.Dec.{eqb, ltb}
use lib.ListN.{take, drop, get_or}
use borrow.Author.Tests.{eqb-true, leb-true, ne_eqb}
use Rattle.std.specs.Prelude.{Option, Some, None, Ok, Err}
use Rattle.ground.specs.Pick.{pick}
use Rattle.ground.specs.Refusal.{Verdict, verdict, settle}
use Rattle.ground.proofs.Picks.{both_true, clash}
use Rattle.ground.proofs.Verdicts.{passed}
use Rattle.places.specs.Places.{mask_of, rank_of}
use Rattle.places.proofs.Ranks.{rank_holds}
use Rattle.packet.specs.Acks.{ack_list}
use Rattle.packet.specs.Read.{head_at}
use Rattle.packet.specs.Write.{packet_octets, write_tests}
use Rattle.packet.specs.declared.Head.{Head}
use Rattle.roundtrip.proofs.Packets.{size_round}
use Rattle.channel.specs.Channel.{modulus, largest}
use Rattle.channel.specs.Distance.{place_of}
use Rattle.sending.specs.Sending.{held_at, held_of}
use Rattle.sending.specs.declared.Held.{Held}
use Rattle.sending.specs.declared.Sending.{Sending}
use Rattle.flow.proofs.Keeps.{sending_sized}
use Rattle.flow.specs.Flow.{Full, Data}
use Rattle.flow.specs.View.{Slots}
use Rattle.flow.proofs.Messages.{message_in, message_full}
use Rattle.flow.proofs.OneWay.{ranked_message}
use Rattle.owed.proofs.Steps.{three_leave}
use Rattle.line.specs.Figures.{send_window, send_largest}
use Rattle.line.specs.Part.{region_of}
use Rattle.line.proofs.Part.{region_end}
use Rattle.line.specs.Line.{is_open, sending_of, receiving_of}
use Rattle.line.specs.declared.Line.{Line}
use Rattle.mode.specs.Given.{modem}
use Rattle.store.specs.Store.{octets_in}
use Rattle.store.specs.declared.Region.{Region}
use Rattle.store.specs.declared.Way.TheVariants as way
use Rattle.store.proofs.Octets.{slot_front}
use Rattle.relay.specs.RelayTests.{reliable, relay_channel_tests}
use Rattle.relay.proofs.Lines.{channel_span, side_served}
use Rattle.writing.specs.Write.{acks_for, wrote_line, base_for, head_for, empty_packet, empty_tests}
use Rattle.writing.specs.Send.{ranked, is_held, held_in, send_tests, send_verdict, held_packet, Sendable}
use Rattle.writing.proofs.Packets.{empty_passes}
use Rattle.writing.proofs.Sends.{may_sendable, send_reliable, send_passes}
use Rattle.writing.proofs.Keeps.{wrote_line_keeps}
use Rattle.promise.specs.Past.{Mark, Packet, wrote_past}
use Rattle.promise.specs.Run.{also}
use Rattle.promise.specs.Ends.{slots_of}
use Rattle.promise.proofs.PacketBack.{first_three_lem, packet_says}
use Rattle.promise.proofs.Lists.{each_take, each_drop, take_map, drop_map}
use Rattle.promise.proofs.Views.{slots_hold}
use Rattle.promise.specs.Notes.{Names, nothing, reached, Carries, message, mark, mark_word}
use Rattle.promise.proofs.Ends.{End, Says, Whole, Joined, sent, got, sends_ok}
use Rattle.promise.proofs.SendingAnew.{asked_open}

-- the end that has written packet k
abbrev pub after_writing : End → Packet → End
after_writing e k = record { line = wrote_line e.line; part = e.part; past = wrote_past e.past k }

-- the packet of a held message, by its rank, and an empty packet
abbrev pub held_by : End → ℕ → ℕ → Packet
held_by e channel rank =
    record {
      octets = held_packet e.line channel (held_in (ranked e.line channel rank)) e.part;
      carries = mark channel (held_in (ranked e.line channel rank)).number ∷ [];
      names = mark channel (receiving_of e.line channel).next ∷ [];
      acks = take 3 e.past.owes;
    }

abbrev pub empty_by : End → ℕ → Packet
empty_by e channel =
    record {
      octets = empty_packet e.line channel;
      carries = [];
      names = pick (eqb channel 0) [] (mark channel (receiving_of e.line channel).next ∷ []);
      acks = take 3 e.past.owes;
    }

-- a packet that says what is true of its end may be written
pub wrote_joined : {e f : End} (k : Packet) → is_open e.line ≡ true → e.line.modes.local ≡ modem → Says e k → Joined e f → Joined (after_writing e k) f
unfolding wrote_line
wrote_joined {e} k opened inside says j =
    let n = wrote_line_keeps e.line opened j.mine.fits inside j.mine.shaped in
    record {
      mine = record {
        fits = n.0;
        shaped = n.1;
        sides = record { sending = j.mine.sides.sending; receiving = j.mine.sides.receiving };
        long = j.mine.long;
        owed = three_leave e.line.owed ∙ ap (drop 3) j.mine.owed ∙ drop_map mark_word 3 e.past.owes;
        owes = each_drop 3 j.mine.owes;
        came = j.mine.came;
        said = also says j.mine.said;
      };
      yours = j.yours;
      there = j.there;
      back = j.back;
    }

-- what is written reads back
module _ (e : End) (k : Whole e) (channel number space : ℕ) (payload : List ℕ) where
  abbrev h : Head
  h = head_for e.line channel number

  abbrev written : List ℕ
  written = packet_octets h (acks_for e.line) payload

  pub written_says : (carried named : List Mark) → verdict (write_tests h (acks_for e.line) payload largest space) ≡ Ok tt → Names (got e) channel (base_for e.line channel) named
      → Carries e.past.taken channel number payload carried → Says e (record { octets = written; carries = carried; names = named; acks = take 3 e.past.owes })
  written_says carried named pass base load =
      let r = packet_says h (acks_for e.line) payload largest space pass in
      let d : head_at written ≡ h = r.head_back in
      record {
        plain = r.plain;
        listed = r.listed;
        sized = size_round h (acks_for e.line) payload largest space pass;
        named = ap (λ (x : Head). x.identifier) d;
        typed = ap (λ (x : Head). x.kind) d;
        words = ap ack_list r.acks_back ∙ first_three_lem e.line ∙ ap (take 3) k.owed ∙ take_map mark_word 3 e.past.owes;
        acks = each_take 3 k.owes;
        names = subst (λ (x : Head). Names (got e) x.channel x.base named) (sym d) base;
        carries = transport (λ i. Carries e.past.taken (sym d i).channel (sym d i).number (sym r.payload_back i) carried) load;
      }

-- a channel that is reliable has a base
base_of_lem : (l : Line) (channel : ℕ) → reliable channel ≡ true → base_for l channel ≡ (receiving_of l channel).next % modulus
unfolding base_for
base_of_lem l channel v = let c = channel_span channel v in rw (ne_eqb channel 0 (λ e. omega (arith, c)))

-- "Empty packet": it names the writer's base, on channel 0 none
module _ {e f : End} (channel space : ℕ) (pass : verdict (empty_tests e.line channel space) ≡ Ok tt) (j : Joined e f) where
  base_names : (c : ℕ) → c ≤ 2 → Names (got e) c (base_for e.line c) (pick (eqb c 0) [] (mark c (receiving_of e.line c).next ∷ []))
  unfolding base_for
  base_names zero q = nothing refl
  base_names (suc zero) q = reached e.line.receiving.one.next refl refl (omega arith)
  base_names (suc (suc zero)) q = reached e.line.receiving.two.next refl refl (omega arith)
  base_names (suc (suc (suc c))) q = absurd (omega arith)

  pub empty_says : Says e (empty_by e channel)
  unfolding empty_tests empty_packet
  empty_says =
      let t = passed (empty_tests e.line channel space) pass in
      written_says e j.mine channel 0 space [] [] (pick (eqb channel 0) [] (mark channel (receiving_of e.line channel).next ∷ []))
      (empty_passes e.line j.mine.fits channel space pass) (base_names channel (leb-true _ _ t.1.1.0)) (nothing refl)

  pub empty_joined : Joined (after_writing e (empty_by e channel)) f
  unfolding empty_tests
  empty_joined =
      let t = passed (empty_tests e.line channel space) pass in
      wrote_joined (empty_by e channel) t.0 (eqb-true _ _ t.1.0) empty_says j

-- "A held message is written by its rank": it is the one taken under its number
module _ {e f : End} (channel rank space : ℕ) (pass : verdict (send_tests e.line channel rank space) ≡ Ok tt) (j : Joined e f) where
  abbrev l : Line
  l = e.line

  abbrev held : Held
  held = held_in (ranked l channel rank)

  says_may : send_verdict l channel rank space ≡ Ok held
  unfolding send_verdict
  says_may = ap (λ (v : Verdict). settle v Err (Ok held)) pass

  able : Sendable l channel space held
  able = may_sendable l channel rank space j.mine.fits says_may

  v : reliable channel ≡ true
  v = send_reliable l j.mine.fits channel space held able

  abbrev w : ℕ
  w = send_window l channel

  abbrev s : Sending
  s = sending_of l channel

  abbrev region : Region
  region = region_of l way.Sending channel

  abbrev slots : Slots
  slots = slots_of l e.part way.Sending channel

  found : is_held (ranked l channel rank) ≡ true
  unfolding send_tests relay_channel_tests
  found = (passed (send_tests l channel rank space) pass).1.1.1.0

  held_data : (p : Option ℕ) → rank_of (mask_of s.unacked) rank ≡ p → is_held (held_at w s p) ≡ true
      → Data (e.past.taken channel) (held_in (held_at w s p)).number (octets_in e.part region (held_in (held_at w s p)).place (held_in (held_at w s p)).size)
  held_data None q t = clash t
  held_data (Some n) q t =
      let k = sends_ok j.mine.sides channel in
      let m = ranked_message w slots s rank n k q in
      let g = sending_sized w (send_largest l) s (j.mine.sides.sending channel) in
      let bit = (rank_holds (mask_of s.unacked) rank n q).1 in
      let place = place_of s.origin n w in
      let near : n < w = omega (arith, m.0, k.windowed) in
      let small : get_or s.sizes place 0 ≤ send_largest l = leb-true _ _ (both_true (ltb 0 (get_or s.sizes place 0)) _ (g n near bit)).1 in
      let full = message_full w slots s.sizes (mask_of s.unacked) s.origin (send_largest l) k.placed g (slots_hold l e.part j.mine.long way.Sending channel v) n near bit in
      let view : (sent e channel).held (s.base + n) ≡ octets_in e.part region place (get_or s.sizes place 0)
      = m.1 ∙ slot_front e.part region w (omega (arith, region_end l (record { way = way.Sending; channel = channel }) (side_served way.Sending channel v), j.mine.long)) place (get_or s.sizes place 0) small in
      let there = j.there channel v in
      let whole : Full ((sent e channel).held (s.base + n)) = subst Full (message_in w slots s.sizes (mask_of s.unacked) s.origin n bit ∙ sym m.1) full in
      record {
        known = omega (arith, m.0, there.count);
        same = sym view ∙ there.sends (s.base + n) (omega arith) (omega (arith, m.0)) whole;
      }

  pub held_says : Says e (held_by e channel rank)
  unfolding held_packet held_of
  held_says =
      written_says e j.mine channel (held.number % modulus) space (octets_in e.part region held.place held.size) (mark channel held.number ∷ [])
      (mark channel (receiving_of l channel).next ∷ [])
      (send_passes l j.mine.fits channel space held able e.part j.mine.long)
      (reached (receiving_of l channel).next v base_is (omega arith))
      (message held.number v refl (held_data (rank_of (mask_of s.unacked) rank) refl found))
    where
      base_is : base_for l channel ≡ (receiving_of l channel).next % modulus
      base_is = base_of_lem l channel v

  pub held_joined : Joined (after_writing e (held_by e channel rank)) f
  held_joined =
      let o = asked_open l channel able.asked in
      wrote_joined (held_by e channel rank) o.0 o.1 held_says j
