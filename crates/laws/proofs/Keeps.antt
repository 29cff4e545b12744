-- Every call keeps a book that passes: what BOOK asks, and the lengths of the book's arrays.
-- Assumes nothing.
use Prim.Native.Nat.{ℕ}
use mathlib.Core.Path.{◌≡◌, refl, sym, subst, ◌∙◌}
use mathlib.Core.Bool.{true}
use mathlib.Core.List.{List}
use lib.ListN.{length}
use borrow.Author.Tests.{eqb-true, not-true}
use Rattle.ground.specs.Refusal.{verdict}
use Rattle.ground.proofs.Settled.{settled_by}
use Rattle.ground.proofs.Verdicts.{passed}
use Rattle.mode.specs.Moved.{channels_for}
use Rattle.mode.specs.Acts.{Act, outcome, after}
use Rattle.mode.specs.declared.Channels.{Channels}
use Rattle.mode.specs.declared.Modes.{Modes}
use Rattle.mode.proofs.Fits.{call_keeps}
use Rattle.mode.proofs.Emptying.{by_local}
use Rattle.line.specs.Fit.{line_fits}
use Rattle.line.specs.Line.{is_open, opened_line, sending_of}
use Rattle.line.specs.Figures.{send_window}
use Rattle.line.specs.Part.{region_in}
use Rattle.line.specs.Mode.{stepped_to}
use Rattle.line.specs.Shape.{Shaped}
use Rattle.line.specs.declared.Line.{Line}
use Rattle.line.proofs.Keeps.{line_ok, ok_line, opened_ok, stepped_ok}
use Rattle.line.proofs.Same.{SameOpening, stepped_opening, none_same}
use Rattle.line.proofs.Shape.{opened_shaped, stepped_shaped}
use Rattle.store.specs.Store.{slot_at}
use Rattle.store.specs.declared.Way.TheVariants.{Sending}
use Rattle.sending.specs.Sending.{next_place}
use lib.Seq.{length-sets}
use Rattle.std.specs.Prelude.{Ok}
use Rattle.relay.specs.RelayTests.{relay_channel_tests}
use Rattle.relay.specs.Take.{take_call_tests, took_line}
use Rattle.relay.specs.HandOut.{hand_call_tests, handed_line}
use Rattle.relay.proofs.Keeps.{took_line_same, handed_line_same, took_line_keeps, handed_line_keeps}
use Rattle.writing.specs.Write.{empty_tests, wrote_line}
use Rattle.writing.specs.Send.{send_tests}
use Rattle.writing.proofs.Keeps.{wrote_line_same, wrote_line_keeps}
use Rattle.arriving.specs.Arrive.{arrived_line}
use Rattle.arriving.proofs.Stays.{arrived_stays}
use Rattle.arriving.proofs.Keeps.{arrived_line_keeps, arrived_store_length}
use Rattle.book.specs.Book.{line_of, with_line, book_fits}
use Rattle.book.specs.Shape.{BookShaped}
use Rattle.book.specs.Parts.{part_start}
use Rattle.book.specs.declared.Book.{Book}
use Rattle.book.proofs.Facts.{line_fits_lem}
use Rattle.book.proofs.Keeps.{with_line_keeps, opened_keeps, closed_keeps, with_line_shaped, closed_shaped_book}
use Rattle.calls.specs.Call.{Call}
use Rattle.calls.specs.Call as call
use Rattle.calls.specs.Order.{order, line_for, packet_line, owner_line}
use Rattle.calls.specs.Stages.{tests, open_tests, close_tests, mode_tests}
use Rattle.calls.proofs.FirstTests.{line_passed, both_passed}
use Rattle.calls.proofs.OrderStages.{in_stages}
use Rattle.calls.specs.Result.{CallResult, result_of, accepted_result, effect}
use Rattle.incoming.proofs.Passing.{addressed}

-- a book that passes: BOOK lets it pass, and its arrays have the lengths that they are declared with
abbrev pub Passes : Book → Type 0
Passes b = (book_fits b ≡ true) × BookShaped b

-- a change of mode keeps an open line that BOOK lets pass
moved_keeps : (l : Line) (a : Act) → is_open l ≡ true → line_fits l ≡ true → Shaped l
    → let o = outcome l.modes a in (line_fits (stepped_to l o.modes o.channels) ≡ true) × Shaped (stepped_to l o.modes o.channels)
moved_keeps l a opened fits shaped =
    let k = line_ok l opened fits in
    let m : Modes = after l.modes a in (
      subst (λ (c : Channels). line_fits (stepped_to l m c) ≡ true) (sym (by_local l.modes a))
          (ok_line (stepped_to l m (channels_for l.modes.local m.local)) (stepped_ok l k m (call_keeps l.modes k.modes a))),
      stepped_shaped l shaped m (outcome l.modes a).channels,
    )

-- so do the calls that write a packet, in modem relay
sent_keeps : (l : Line) (channel rank space : ℕ) → line_fits l ≡ true → Shaped l → verdict (send_tests l channel rank space) ≡ Ok tt → (line_fits (wrote_line l) ≡ true) × Shaped (wrote_line l)
unfolding send_tests relay_channel_tests
sent_keeps l channel rank space fits shaped e =
    let t = passed (send_tests l channel rank space) e in
    wrote_line_keeps l t.0 fits (eqb-true _ _ t.1.0) shaped

empty_keeps : (l : Line) (channel space : ℕ) → line_fits l ≡ true → Shaped l → verdict (empty_tests l channel space) ≡ Ok tt → (line_fits (wrote_line l) ≡ true) × Shaped (wrote_line l)
unfolding empty_tests
empty_keeps l channel space fits shaped e =
    let t = passed (empty_tests l channel space) e in
    wrote_line_keeps l t.0 fits (eqb-true _ _ t.1.0) shaped

module _ (b : Book) (fits : book_fits b ≡ true) (shaped : BookShaped b) where
  -- a line put back with what its opening named, and that BOOK lets pass
  put_keeps : (i : ℕ) (l : Line) → SameOpening (line_of b i) l → (line_fits l ≡ true) × Shaped l → Passes (with_line b i l)
  put_keeps i l same k = (with_line_keeps b fits i l k.0 same, with_line_shaped b shaped i l k.1)

  -- what an accepted call leaves, call by call
  done_keeps : (c : Call) (store out : List ℕ) → verdict (tests c b (length store) (length out)) ≡ Ok tt → Passes (accepted_result c b store out).book
  unfolding tests line_for effect accepted_result open_tests close_tests mode_tests
  done_keeps (call.opening i s time) store out e =
      let p = line_passed b i (open_tests b i s) e in
      let t = passed (open_tests b i s) p.1 in
      let l = opened_line s time in (
        opened_keeps b fits shaped i p.0.number (not-true _ t.0) l refl (ok_line l (opened_ok s time t.1.0)) (not-true _ t.1.1.0),
        with_line_shaped b shaped i l (opened_shaped s time),
      )
  done_keeps (call.closing i) store out e =
      let p = line_passed b i (close_tests (line_of b i) (length out)) e in
      let t = passed (close_tests (line_of b i) (length out)) p.1 in
      (closed_keeps b fits shaped i p.0.number t.0, closed_shaped_book b shaped i)
  done_keeps (call.mode i a) store out e =
      let l = line_of b i in
      let p = line_passed b i (mode_tests l a) e in
      let t = passed (mode_tests l a) p.1 in
      let o = outcome l.modes a in
      put_keeps i (stepped_to l o.modes o.channels) (stepped_opening l o.modes o.channels) (moved_keeps l a t.0 p.0.line (shaped.each i))
  done_keeps (call.taking i channel message) store out e =
      let l = line_of b i in
      let n = length message in
      let p = both_passed b (length store) i (take_call_tests l channel n) e in
      put_keeps i (took_line l channel n) (took_line_same l channel n).opening (took_line_keeps l channel n p.0.line (shaped.each i) p.2)
  done_keeps (call.sending i channel rank) store out e =
      let l = line_of b i in
      let p = both_passed b (length store) i (send_tests l channel rank (length out)) e in
      put_keeps i (wrote_line l) (wrote_line_same l).opening (sent_keeps l channel rank (length out) p.0.line (shaped.each i) p.2)
  done_keeps (call.empty i channel) store out e =
      let l = line_of b i in
      let p = line_passed b i (empty_tests l channel (length out)) e in
      put_keeps i (wrote_line l) (wrote_line_same l).opening (empty_keeps l channel (length out) p.0.line (shaped.each i) p.1)
  done_keeps (call.arrival s) store out e =
      let i = owner_line (packet_line b s) in
      let l = line_of b i in
      let p = addressed b (length store) s e in
      put_keeps i (arrived_line l s) (arrived_stays l s).opening (arrived_line_keeps l s p.fits p.opened (shaped.each i) p.line)
  done_keeps (call.hand_out i channel) store out e =
      let l = line_of b i in
      let p = both_passed b (length store) i (hand_call_tests l channel (length out)) e in
      put_keeps i (handed_line l channel) (handed_line_same l channel).opening (handed_line_keeps l channel (length out) p.0.line (shaped.each i) p.2)
  done_keeps (call.report i channel) store out e = put_keeps i (line_of b i) (none_same (line_of b i)).opening (line_fits_lem b fits i, shaped.each i)

-- THE PROMISE: whatever call it is, whatever it names and is lent, and whatever it answers
pub every_call_keeps : (c : Call) (b : Book) (store out : List ℕ) → book_fits b ≡ true → BookShaped b
    → (book_fits (result_of c b store out).book ≡ true) × BookShaped (result_of c b store out).book
unfolding result_of
every_call_keeps c b store out fits shaped =
    settled_by (λ (d : CallResult). Passes d.book) (verdict (order c b (length store) (length out))) (λ r e. (fits, shaped)) (λ e. done_keeps b fits shaped c store out (sym (in_stages c b (length store) (length out)) ∙ e))

-- and the store that is lent stays as long as it was
effect_length : (c : Call) (i : ℕ) (l : Line) (start : ℕ) (store out : List ℕ) → length (effect c i l start store out).store ≡ length store
unfolding effect
effect_length (call.opening j s time) i l start store out = refl
effect_length (call.closing j) i l start store out = refl
effect_length (call.mode j a) i l start store out = refl
effect_length (call.taking j channel message) i l start store out =
    length-sets store (slot_at (region_in start l Sending channel) (next_place (send_window l channel) (sending_of l channel))) message
effect_length (call.sending j channel rank) i l start store out = refl
effect_length (call.empty j channel) i l start store out = refl
effect_length (call.arrival s) i l start store out = arrived_store_length l start s store
effect_length (call.hand_out j channel) i l start store out = refl
effect_length (call.report j channel) i l start store out = refl

pub store_length_lem : (c : Call) (b : Book) (store out : List ℕ) → length (result_of c b store out).store ≡ length store
unfolding result_of accepted_result
store_length_lem c b store out =
    settled_by (λ (d : CallResult). length d.store ≡ length store) (verdict (order c b (length store) (length out)))
    (λ r e. refl)
    (λ e. effect_length c (line_for c b) (line_of b (line_for c b)) (part_start b (line_for c b)) store out)
