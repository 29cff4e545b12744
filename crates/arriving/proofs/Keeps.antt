-- An arrival that the tests let pass keeps what BOOK asks of the line, and the lengths of its arrays and of its part of the store.
-- Assumes nothing.
use Prim.Native.Nat.{ℕ, ◌+◌, ◌≤◌, ◌<◌}
use mathlib.Core.Path.{◌≡◌, refl, ap, ◌∙◌}
use mathlib.Core.Bool.{Bool, true, false, ◌&&◌}
use mathlib.Core.List.{List, [], ◌∷◌}
use native.Mathlib.Omega.{arith}
use lib.Dec.{ltb, leb}
use lib.ListN.{length, length-set}
use lib.Seq.{sets, length-sets}
use borrow.Author.Tests.{le-leb, ltb-true}
use Rattle.std.specs.Prelude.{Ok}
use Rattle.ground.specs.Refusal.{verdict}
use Rattle.ground.specs.Pick.{pick}
use Rattle.ground.proofs.Picks.{pick_by}
use Rattle.field.specs.Word.{channel_of, number_of, word_of}
use Rattle.packet.specs.Acks.{ack_list}
use Rattle.packet.specs.Read.{head_at, acks_at, payload_of}
use Rattle.channel.specs.Distance.{dist}
use Rattle.channel.specs.Sizes.{message_fits}
use Rattle.sending.specs.Sending.{under_way, heard_base, acked_by}
use Rattle.receiving.specs.Receiving.{receiving_fits, arrival_place, stored_at, arrived_as}
use Rattle.sending.specs.declared.Sending.{Sending}
use Rattle.receiving.specs.declared.Receiving.{Receiving}
use Rattle.receiving.specs.declared.Arrival.{Arrival}
use Rattle.receiving.specs.declared.Arrival.TheVariants.{Stored, There, Old}
use Rattle.flow.proofs.Keeps.{arrived_keeps}
use Rattle.owed.proofs.Steps.{enter_keeps, word_span}
use Rattle.mode.specs.declared.Modes.{Modes}
use Rattle.line.specs.Line.{is_open, sending_of, receiving_of, with_receiving}
use Rattle.line.specs.Fit.{line_fits}
use Rattle.line.specs.Figures.{send_window, receive_window, receive_largest}
use Rattle.line.specs.Shape.{Shaped}
use Rattle.line.specs.declared.Line.{Line}
use Rattle.line.proofs.Keeps.{LineOk, ok_line, receiving_side, with_receiving_ok}
use Rattle.line.proofs.Shape.{sending_long, receiving_long, with_sending_shaped, with_receiving_shaped}
use Rattle.line.specs.Part.{part_length, region_of, region_in}
use Rattle.store.specs.Store.{slot_at, part_at, with_part_at}
use Rattle.store.proofs.Parts.{part_same, part_sets}
use Rattle.store.specs.declared.Region.{Region}
use Rattle.store.specs.declared.Way.TheVariants as way
use Rattle.relay.specs.RelayTests.{reliable}
use Rattle.arriving.specs.Effect.{Relaying, heard_line, acked_line, acked_all, owing_line, arrival_at, stored_line, put_as, stored_part, stored_store}
use Rattle.arriving.specs.Arrive.{arrive_tests, news_line, carries, arrived_line, arrived_part, arrived_store}
use Rattle.arriving.proofs.StepsStay.{stored_stays}
use Rattle.channel.proofs.Windows.{window_narrow}
use Rattle.relay.proofs.Lines.{channel_span, slot_in}
use Rattle.arriving.proofs.Effects.{ok, stored_near, place_near}
use Rattle.arriving.proofs.Arrivals.{news_relaying, number_lt, arrive_relaying, arrive_size, arrive_reliable}

-- no step changes how many sizes a side has
heard_sizes : (w : ℕ) (s : Sending) (b : ℕ) → (heard_base w s b).sizes ≡ s.sizes
unfolding heard_base
heard_sizes w s b = pick_by (λ (t : Sending). t.sizes ≡ s.sizes) (ltb 0 (dist b s.base) && leb (dist b s.base) (under_way s)) (λ _. refl) (λ _. refl)

acked_sizes : (s : Sending) (n : ℕ) → (acked_by s n).sizes ≡ s.sizes
unfolding acked_by
acked_sizes s n = pick_by (λ (t : Sending). t.sizes ≡ s.sizes) (ltb (dist n s.base) (under_way s)) (λ _. refl) (λ _. refl)

arrived_long : (w : ℕ) (r : Receiving) (a : Arrival) (size : ℕ) → length (arrived_as w r a size).sizes ≡ length r.sizes
unfolding stored_at
arrived_long w r (Stored d) size = length-set r.sizes (arrival_place w r d) size
arrived_long w r There size = refl
arrived_long w r Old size = refl

module _ (l : Line) (h : Shaped l) where
  pub heard_shaped : (channel base : ℕ) → Shaped (heard_line l channel base)
  unfolding heard_line
  heard_shaped channel base =
      let s : Sending = sending_of l channel in
      pick_by Shaped (reliable channel)
      (λ _. with_sending_shaped l h channel (heard_base (send_window l channel) s base) (ap length (heard_sizes (send_window l channel) s base) ∙ sending_long l h channel))
      (λ _. h)

  pub acked_shaped : (word : ℕ) → Shaped (acked_line l word)
  unfolding acked_line
  acked_shaped word =
      let s : Sending = sending_of l (channel_of word) in
      with_sending_shaped l h (channel_of word) (acked_by s (number_of word)) (ap length (acked_sizes s (number_of word)) ∙ sending_long l h (channel_of word))

  pub stored_shaped : (channel number size : ℕ) → Shaped (stored_line l channel number size)
  unfolding stored_line
  stored_shaped channel number size =
      let r : Receiving = receiving_of l channel in
      with_receiving_shaped (owing_line l channel number) (record { sending1 = h.sending1; sending2 = h.sending2; receiving1 = h.receiving1; receiving2 = h.receiving2 })
      channel (arrived_as (receive_window l channel) r (arrival_at l channel number) size)
      (arrived_long (receive_window l channel) r (arrival_at l channel number) size ∙ receiving_long l h channel)

pub all_shaped : (words : List ℕ) (l : Line) → Shaped l → Shaped (acked_all l words)
unfolding acked_all
all_shaped [] l h = h
all_shaped (word ∷ words) l h = all_shaped words (acked_line l word) (acked_shaped l h word)

pub news_shaped : (l : Line) → Shaped l → (s : List ℕ) → Shaped (news_line l s)
unfolding news_line
news_shaped l h s = all_shaped (ack_list (acks_at s)) (heard_line l (head_at s).channel (head_at s).base) (heard_shaped l h (head_at s).channel (head_at s).base)

-- a message of a size that fits, on channel 1 or 2, leaves a line in modem relay
module _ (l : Line) (k : Relaying l) (h : Shaped l) (channel number : ℕ) (c : reliable channel ≡ true) (n : number < 16384) where
  owing_ok : LineOk (owing_line l channel number)
  owing_ok =
      let o : LineOk l = ok l k in
      let p = channel_span channel c in
      record {
        flag = o.flag;
        settings = o.settings;
        modes = o.modes;
        sending1 = o.sending1;
        sending2 = o.sending2;
        receiving1 = o.receiving1;
        receiving2 = o.receiving2;
        owed = enter_keeps l.owed (word_of channel number) o.owed (word_span channel number n p.0 p.1);
        quiet = λ q. absurd (q k.inside);
      }

  pub stored_relaying : (size : ℕ) → message_fits (receive_largest l) size ≡ true → Relaying (stored_line l channel number size)
  unfolding stored_line
  stored_relaying size f =
      let r : Receiving = receiving_of l channel in
      let m : Receiving = arrived_as (receive_window l channel) r (arrival_at l channel number) size in
      let long : receive_window l channel ≤ length r.sizes = omega (arith, window_narrow channel, receiving_long l h channel) in
      let fit : receiving_fits (receive_window l channel) (receive_largest l) m ≡ true = arrived_keeps (receive_window l channel) (receive_largest l) (window_narrow channel) r (receiving_side l (ok l k) k.inside channel) number size long f in
      let s = stored_stays l channel number size in
      record {
        fits = ok_line (with_receiving (owing_line l channel number) channel m) (with_receiving_ok (owing_line l channel number) owing_ok k.inside channel m fit);
        opened = s.opening.opened ∙ k.opened;
        inside = ap (λ (x : Modes). x.local) s.modes ∙ k.inside;
      }

-- so does the whole of an arrival
module _ (l : Line) (s : List ℕ) (fits : line_fits l ≡ true) (opened : is_open l ≡ true) (h : Shaped l) (pass : verdict (arrive_tests l s) ≡ Ok tt) where
  relaying : Relaying l
  relaying = arrive_relaying l s pass fits opened

  payload_sized : carries s ≡ true → message_fits (receive_largest l) (length (payload_of s)) ≡ true
  payload_sized t = rw (t, le-leb _ _ (arrive_size l s pass))

  pub arrived_relaying : Relaying (arrived_line l s)
  unfolding arrived_line
  arrived_relaying =
      pick_by Relaying (carries s)
      (λ t. stored_relaying (news_line l s) (news_relaying l relaying s) (news_shaped l h s) (head_at s).channel (head_at s).number
      (arrive_reliable l s pass (ltb-true _ _ t)) (number_lt s) (length (payload_of s)) (payload_sized t))
      (λ _. news_relaying l relaying s)

  pub arrived_shaped : Shaped (arrived_line l s)
  unfolding arrived_line
  arrived_shaped =
      pick_by Shaped (carries s)
      (λ _. stored_shaped (news_line l s) (news_shaped l h s) (head_at s).channel (head_at s).number (length (payload_of s)))
      (λ _. news_shaped l h s)

  pub arrived_line_keeps : (line_fits (arrived_line l s) ≡ true) × Shaped (arrived_line l s)
  arrived_line_keeps = (arrived_relaying.fits, arrived_shaped)

-- the line's part of the store stays as long as it was
put_length : (w : ℕ) (r : Receiving) (g : Region) (a : Arrival) (message part : List ℕ) → length (put_as w r g a message part) ≡ length part
put_length w r g (Stored d) message part = length-sets part (slot_at g (arrival_place w r d)) message
put_length w r g There message part = refl
put_length w r g Old message part = refl

pub stored_part_length : (l : Line) (channel number : ℕ) (message part : List ℕ) → length (stored_part l channel number message part) ≡ length part
unfolding stored_part
stored_part_length l channel number message part =
    put_length (receive_window l channel) (receiving_of l channel) (region_of l way.Receiving channel) (arrival_at l channel number) message part

pub arrived_part_length : (l : Line) (s part : List ℕ) → length (arrived_part l s part) ≡ length part
unfolding arrived_part
arrived_part_length l s part =
    pick_by (λ (m : List ℕ). length m ≡ length part) (carries s)
    (λ _. stored_part_length l (head_at s).channel (head_at s).number (payload_of s) part)
    (λ _. refl)

-- what is put into the part is put into the store
module _ (l : Line) (k : Relaying l) (start : ℕ) (store : List ℕ) (inside : start + part_length l ≤ length store) where
  abbrev part : List ℕ
  part = part_at start (part_length l) store

  put_in_store : (channel number : ℕ) (message : List ℕ) → reliable channel ≡ true → length message ≤ receive_largest l
      → with_part_at start (part_length l) store (stored_part l channel number message part) ≡ stored_store l start channel number message store
  unfolding stored_part stored_store
  put_in_store channel number message v small = go (arrival_at l channel number) refl
    where
      go : (a : Arrival) → arrival_at l channel number ≡ a
          → with_part_at start (part_length l) store (put_as (receive_window l channel) (receiving_of l channel) (region_of l way.Receiving channel) a message part)
          ≡ put_as (receive_window l channel) (receiving_of l channel) (region_in start l way.Receiving channel) a message store
      go (Stored d) e =
          let p = arrival_place (receive_window l channel) (receiving_of l channel) d in
          let near = place_near l k channel (stored_near (receive_window l channel) (receiving_of l channel) number e) in
          let g = region_of l way.Receiving channel in
          let r = slot_in l way.Receiving channel p (part_length l) v near (omega arith) in
          let same : start + slot_at g p ≡ slot_at (region_in start l way.Receiving channel) p = omega arith in
          part_sets start (part_length l) store inside (slot_at g p) message (omega (arith, r.inside, small)) ∙ ap (λ (j : ℕ). sets store j message) same
      go There e = part_same start (part_length l) store
      go Old e = part_same start (part_length l) store

  pub arrived_in_store : (s : List ℕ) → verdict (arrive_tests l s) ≡ Ok tt → with_part_at start (part_length l) store (arrived_part l s part) ≡ arrived_store l start s store
  unfolding arrived_part arrived_store
  arrived_in_store s pass = go (carries s) refl
    where
      go : (t : Bool) → carries s ≡ t
          → with_part_at start (part_length l) store (pick t (stored_part l (head_at s).channel (head_at s).number (payload_of s) part) part)
          ≡ pick t (stored_store l start (head_at s).channel (head_at s).number (payload_of s) store) store
      go true e = put_in_store (head_at s).channel (head_at s).number (payload_of s) (arrive_reliable l s pass (ltb-true _ _ e)) (arrive_size l s pass)
      go false e = part_same start (part_length l) store

-- nor does the store's length change
pub arrived_store_length : (l : Line) (start : ℕ) (s store : List ℕ) → length (arrived_store l start s store) ≡ length store
unfolding arrived_store stored_store
arrived_store_length l start s store =
    pick_by (λ (m : List ℕ). length m ≡ length store) (carries s)
    (λ _. put_length (receive_window l (head_at s).channel) (receiving_of l (head_at s).channel) (region_in start l way.Receiving (head_at s).channel) (arrival_at l (head_at s).channel (head_at s).number) (payload_of s) store)
    (λ _. refl)
