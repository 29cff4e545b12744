-- Calls on the line that are refused nothing: whatever else has happened, a held message can be written by each rank that the report counts, an
-- empty packet can be written, what the peer wrote is let in, and message R is handed out where it is stored.
-- Assumes nothing.
use Prim.Native.Nat.{ℕ, ◌+◌, ◌-◌, ◌≤◌, ◌<◌}
use mathlib.Core.Path.{◌≡◌, refl, ap, subst, ◌∙◌}
use mathlib.Core.Bool.{true}
use mathlib.Core.List.{List, [], ◌∷◌}
use native.Mathlib.Nat.{add-zero}
use native.Mathlib.Omega.{arith}
use lib.Dec.{ltb, leb}
use lib.ListN.{length, get_or}
use borrow.Author.Tests.{lt-ltb, le-leb, eq-eqb, leb-true}
use Rattle.std.specs.Prelude.{Option, Some, Ok}
use Rattle.ground.specs.Refusal.{Test, must, verdict}
use Rattle.ground.specs.declared.Refusal.TheVariants.{SIZE}
use Rattle.ground.proofs.Picks.{both_true, pick_lt}
use Rattle.ground.proofs.Verdicts.{passes, verdict_on}
use Rattle.places.specs.Places.{mask_of, widest, bit_of, set_below, rank_of}
use Rattle.places.proofs.Ranks.{rank_found, rank_of_lem}
use Rattle.channel.specs.Channel.{largest, window_of, cap}
use Rattle.channel.specs.Distance.{place_of}
use Rattle.channel.specs.Sizes.{message_fits}
use Rattle.receiving.specs.Receiving.{next_size}
use Rattle.sending.specs.Sending.{held_count, held_at, held_of, take_tests}
use Rattle.receiving.specs.declared.Receiving.{Receiving}
use Rattle.sending.specs.declared.Held.{Held}
use Rattle.flow.proofs.Keeps.{receiving_sized}
use Rattle.flow.specs.Flow.{Message, Full}
use Rattle.line.specs.Fit.{line_fits}
use Rattle.line.specs.Figures.{send_window}
use Rattle.packet.specs.Read.{longest_header}
use Rattle.line.specs.Line.{is_open, sending_of, receiving_of}
use Rattle.line.specs.declared.Line.{Line}
use Rattle.mode.specs.Given.{modem}
use Rattle.store.specs.declared.Way.TheVariants as way
use Rattle.relay.specs.RelayTests.{reliable, relay_channel_tests}
use Rattle.relay.specs.Take.{take_call_tests}
use Rattle.relay.specs.HandOut.{hand_call_tests}
use Rattle.writing.specs.Write.{header_length_for, empty_tests}
use Rattle.writing.specs.Send.{ranked, held_in, send_tests, sent_length, longest_packet}
use Rattle.writing.proofs.Packets.{acks_few}
use Rattle.writing.proofs.Sends.{send_may, may_passed, may_sendable, send_size}
use Rattle.channel.proofs.Windows.{window_narrow}
use Rattle.book.proofs.Facts.{line_fits_lem}
use Rattle.calls.specs.Call as call
use Rattle.calls.specs.Stages.{tests, fit_book, roomy, line_number}
use Rattle.promise.specs.Past.{Past}
use Rattle.promise.specs.Run.{Gateway, line_at, part_in}
use Rattle.promise.specs.Ends.{slots_of}
use Rattle.promise.specs.Promise.{InRelay, sends_by, receives_by}
use Rattle.promise.proofs.Ends.{End, Joined, turn, sent, got, sends_ok, gets_ok}
use Rattle.promise.proofs.Promised.{full_bit, next_there, next_below}
use Rattle.promise.proofs.Phases.{end_of, Open, Sound, is_open_lem, end_now}
use Rattle.promise.proofs.OwnLine.{Passes}
use Rattle.promise.proofs.CallsKeep.{joined_open}

-- the message whose place has the rank
pub ranked_is : (l : Line) (channel rank : ℕ) {n : ℕ} → rank_of (mask_of (sending_of l channel).unacked) rank ≡ Some n
    → ranked l channel rank ≡ Some (held_in (held_at (send_window l channel) (sending_of l channel) (Some n)))
unfolding held_of
ranked_is l channel rank e = ap (held_at (send_window l channel) (sending_of l channel)) e

-- On a line in modem relay.
module _ (l : Line) (opened : is_open l ≡ true) (inside : l.modes.local ≡ modem) where
  pub relay_asked : (channel : ℕ) → reliable channel ≡ true → verdict (relay_channel_tests l channel) ≡ Ok tt
  unfolding relay_channel_tests
  relay_asked channel v = passes (relay_channel_tests l channel) (opened, (eq-eqb _ _ inside, (v, tt)))

  -- a message that has a rank is written where the largest packet has room
  module _ (fits : line_fits l ≡ true) (channel rank space : ℕ) (v : reliable channel ≡ true) (roomy : longest_packet l ≤ space) where
    rank_may : {n : ℕ} → rank_of (mask_of (sending_of l channel).unacked) rank ≡ Some n → verdict (send_tests l channel rank space) ≡ Ok tt
    rank_may {n} e =
        let w = send_window l channel in
        let s = sending_of l channel in
        let asked = relay_asked channel v in
        let held : Held = held_in (held_at w s (Some n)) in
        let exact = send_may l channel rank (sent_length l held) asked (ranked_is l channel rank e) (self (sent_length l held)) in
        let size = send_size l fits channel (sent_length l held) held (may_sendable l channel rank (sent_length l held) fits exact) in
        (may_passed l channel rank space (send_may l channel rank space asked (ranked_is l channel rank e) (omega (arith, acks_few l, size.1)))).0
      where
        self : (n : ℕ) → n ≤ n
        self n = omega arith

    pub send_may_by : rank < held_count (sending_of l channel) → verdict (send_tests l channel rank space) ≡ Ok tt
    send_may_by q = let f = rank_found (mask_of (sending_of l channel).unacked) rank q in rank_may f.1

  pub empty_may : (channel space : ℕ) → channel ≤ 2 → longest_header ≤ space → verdict (empty_tests l channel space) ≡ Ok tt
  unfolding empty_tests
  empty_may channel space c r = passes (empty_tests l channel space) (opened, (eq-eqb _ _ inside, (le-leb channel 2 c, (le-leb (header_length_for l) space (omega (arith, acks_few l)), tt))))

-- a hand-out is not refused where message R is stored; space is the output's length
module _ (c : ℕ) (v : reliable c ≡ true) (space : ℕ) (roomy : largest ≤ space) where
  pub hand_may : {e f : End} → Joined e f → is_open f.line ≡ true → f.line.modes.local ≡ modem → Full ((got f c).stored (got f c).R) → verdict (hand_call_tests f.line c space) ≡ Ok tt
  unfolding hand_call_tests relay_channel_tests
  hand_may {e} {f} j opened inside full =
      let r : Receiving = receiving_of f.line c in
      let w = window_of c in
      let there : bit_of (mask_of r.stored) 0 ≡ true = next_there j c v full in
      let k = gets_ok j.yours.sides c in
      let below : r.next < cap = omega (arith, (sends_ok j.mine.sides c).capped, next_below j c v full) in
      let origin : place_of r.origin 0 w ≡ r.origin = pick_lt (λ (p : ℕ). p ≡ r.origin) (r.origin + 0) w (λ l. add-zero r.origin) (λ l. absurd (omega (arith, k.placed))) in
      let sized : message_fits largest (get_or r.sizes (place_of r.origin 0 w) 0) ≡ true = receiving_sized w largest r (j.yours.sides.receiving c) 0 (omega (arith, k.placed)) there in
      let fits : message_fits largest (next_size r) ≡ true = rw origin at sized in
      let small : next_size r ≤ largest = leb-true _ _ (both_true (ltb 0 (next_size r)) (leb (next_size r) largest) fits).1 in
      passes (hand_call_tests f.line c space) (opened, (eq-eqb _ _ inside, (v, (lt-ltb _ _ below, (there, (le-leb (next_size r) space (omega arith), tt))))))

-- Some a gateway.
module _ {i identifier kind : ℕ} {g : Gateway} {p : Past} (s : Sound i identifier kind g p) (a : InRelay g i p) {f : End} (j : Joined (end_of g i p) f) (out : List ℕ) where
  own : Open identifier kind (line_at g i)
  own = is_open_lem s.phase a.0

  numbered : (line_number i).holds ≡ true
  numbered = le-leb i 3 (omega (arith, s.small))

  on : (ts : List Test) → verdict ts ≡ Ok tt → verdict (fit_book g.book ∷ line_number i ∷ ts) ≡ Ok tt
  on ts e = verdict_on (fit_book g.book ∷ line_number i ∷ []) ts (passes (fit_book g.book ∷ line_number i ∷ []) (s.fits, (numbered, tt))) ∙ e

  lent : (ts : List Test) → verdict ts ≡ Ok tt → verdict (fit_book g.book ∷ roomy g.book (length g.store) ∷ line_number i ∷ ts) ≡ Ok tt
  lent ts e =
      let before = fit_book g.book ∷ roomy g.book (length g.store) ∷ line_number i ∷ [] in
      verdict_on before ts (passes before (s.fits, (le-leb _ _ s.long, (numbered, tt)))) ∙ e

  module _ (channel : ℕ) (v : reliable channel ≡ true) where
    pub report_passes : Passes g (call.report i channel) out
    unfolding tests
    report_passes = on (relay_channel_tests (line_at g i) channel) (relay_asked (line_at g i) own.opened a.1 channel v)

    -- a message is taken unless it is FULL or SPENT
    pub taking_passes : (m : Message) → 0 < length m → length m ≤ largest → (sending_of (line_at g i) channel).taken < cap
        → (sending_of (line_at g i) channel).taken - (sending_of (line_at g i) channel).base < window_of channel → Passes g (call.taking i channel m) out
    unfolding tests take_call_tests
    taking_passes m some small under near =
        let l = line_at g i in
        let sized : message_fits largest (length m) ≡ true = rw (lt-ltb 0 (length m) some, le-leb (length m) largest small) in
        let rest = must (message_fits largest (length m)) SIZE ∷ take_tests (window_of channel) (sending_of l channel) in
        lent (take_call_tests l channel (length m))
        (verdict_on (relay_channel_tests l channel) rest (relay_asked l own.opened a.1 channel v) ∙ passes rest (sized, (lt-ltb _ _ under, (lt-ltb _ _ near, tt))))

    pub send_passes : (rank : ℕ) → rank < held_count (sending_of (line_at g i) channel) → longest_packet (line_at g i) ≤ length out → Passes g (call.sending i channel rank) out
    unfolding tests
    send_passes rank q r =
        lent (send_tests (line_at g i) channel rank (length out)) (send_may_by (line_at g i) own.opened a.1 (line_fits_lem g.book s.fits i) channel rank (length out) v r q)

    pub take_passes : (m : Message) → 1 ≤ length m → length m ≤ largest → (sends_by g i p channel).S < cap → (sends_by g i p channel).S - (sends_by g i p channel).h < window_of channel
        → Passes g (call.taking i channel m) out
    unfolding tests
    take_passes m some few below space =
        let now = end_now g i p a.0 refl refl in
        let S : (sends_by g i p channel).S ≡ (sending_of (line_at g i) channel).taken = ap (λ (e : End). (sent e channel).S) now in
        let h : (sends_by g i p channel).h ≡ (sending_of (line_at g i) channel).base = ap (λ (e : End). (sent e channel).h) now in
        taking_passes m some few (omega (arith, S)) (omega (arith, S, h))

    -- each held message has a rank that the report counts
    pub held_rank : (n : ℕ) → (sends_by g i p channel).h ≤ n → n < (sends_by g i p channel).S → Full ((sends_by g i p channel).held n)
        → (rank : ℕ) × (rank < held_count (sending_of (line_at g i) channel)) × ((held_in (ranked (line_at g i) channel rank)).number ≡ n)
    held_rank n low high full =
        let k = sending_of (line_at g i) channel in
        let now = end_now g i p a.0 refl refl in
        let m = mask_of k.unacked in
        let d = n - k.base in
        let base : (sends_by g i p channel).h ≡ k.base = ap (λ (e : End). (sent e channel).h) now in
        let bit : bit_of m d ≡ true = full_bit (window_of channel) (slots_of (line_at g i) (part_in g i) way.Sending channel) k.sizes m k.origin d (subst (λ (e : End). Full ((sent e channel).held n)) now full) in
        let near : d < widest = omega (arith, (j.there channel v).high, window_narrow channel) in
        let r = rank_of_lem m d near bit in
        (set_below m d, r.1, ap (λ (x : Option Held). (held_in x).number) (ranked_is (line_at g i) channel (set_below m d) r.0) ∙ back k.base (omega arith))
      where
        back : {n : ℕ} (b : ℕ) → b ≤ n → b + (n - b) ≡ n
        back b q = omega arith

    pub hand_passes : Full ((receives_by g i p channel).stored (receives_by g i p channel).R) → largest ≤ length out → Passes g (call.hand_out i channel) out
    unfolding tests
    hand_passes full r =
        let shown : Full ((got (record { line = line_at g i; part = part_in g i; past = p }) channel).stored (got (record { line = line_at g i; part = part_in g i; past = p }) channel).R)
        = subst (λ (e : End). Full ((got e channel).stored (got e channel).R)) (end_now g i p a.0 refl refl) full in
        lent (hand_call_tests (line_at g i) channel (length out)) (hand_may channel v (length out) r (turn (joined_open s a.0 j out)) own.opened a.1 shown)

  pub empty_passes : (channel : ℕ) → channel ≤ 2 → longest_header ≤ length out → Passes g (call.empty i channel) out
  unfolding tests
  empty_passes channel c r = on (empty_tests (line_at g i) channel (length out)) (empty_may (line_at g i) own.opened a.1 channel (length out) c r)
