-- What BOOK asks of a side, as facts; every step keeps it.
-- Assumes nothing.
use Prim.Native.Nat.{ℕ, ◌+◌, ◌-◌, ◌^◌, ◌≤◌, ◌<◌}
use mathlib.Core.List.{List}
use mathlib.Core.Path.{◌≡◌, sym, ◌∙◌}
use mathlib.Core.Bool.{true, ◌&&◌}
use native.Mathlib.Nat.{lt_of_lt_of_le, lt_of_le_of_lt}
use native.Mathlib.Omega.{arith}
use lib.Dec.{ltb, leb}
use lib.ListN.{length}
use lib.Pow.{pow_mono, pow_pos, shr_lt, shr_le}
use borrow.Author.Tests.{leb-true, ltb-true, le-leb, lt-ltb}
use Rattle.std.specs.Prelude.{Ok}
use Rattle.ground.specs.Refusal.{verdict}
use Rattle.ground.proofs.Picks.{pick_by, pick_lt, both_true, each, together, clash}
use Rattle.ground.proofs.Verdicts.{passed}
use Rattle.channel.specs.Channel.{cap}
use Rattle.channel.specs.Distance.{dist}
use Rattle.places.specs.Places.{mask_of, set_of, widest, bit_of}
use Rattle.receiving.specs.Receiving.{emptied_receiving, ReceivingOk, fresh_receiving, arrival_of, arrived_as, stored_at, hand_tests, handed_out, receiving_tests, receiving_fits}
use Rattle.sending.specs.Sending.{SendingOk, fresh_sending, emptied_sending, under_way, take_tests, took_one, moved_by, heard_base, dropped_at, acked_by, sending_tests, sending_fits}
use Rattle.channel.specs.Sizes.{message_fits}
use Rattle.receiving.specs.declared.Arrival.{Arrival}
use Rattle.receiving.specs.declared.Receiving.{Receiving}
use Rattle.sending.specs.declared.Sending.{Sending}
use Rattle.places.proofs.Bits.{within_lt, lt_within, with_lt, without_le}
use Rattle.places.proofs.Masks.{mask_set, none_bit}
use Rattle.channel.proofs.Distances.{place_lt}
use Rattle.flow.proofs.Sized.{Sized, sizes_each, sizes_all, sized_with, sized_without, sized_dropped}

module _ (w z : ℕ) where
  -- BOOK's test of a sending side as facts, and back
  module _ (s : Sending) where
    pub sending_ok : w ≤ widest → sending_fits w z s ≡ true → SendingOk w s
    unfolding sending_fits
    sending_ok narrow t =
        let e = each (sending_tests w z s) t in
        record {
          capped = leb-true _ _ e.0;
          ordered = leb-true _ _ e.1.0;
          windowed = leb-true _ _ e.1.1.0;
          placed = ltb-true _ _ e.1.1.1.0;
          masked = within_lt _ _ e.1.1.1.1.0;
          narrow = narrow;
        }

    pub sending_sized : sending_fits w z s ≡ true → Sized w z s.sizes (mask_of s.unacked) s.origin
    unfolding sending_fits
    sending_sized t = sizes_each w z s.sizes (mask_of s.unacked) s.origin (each (sending_tests w z s) t).1.1.1.1.1.0

    pub sending_fits_lem : SendingOk w s → Sized w z s.sizes (mask_of s.unacked) s.origin → sending_fits w z s ≡ true
    unfolding sending_fits
    sending_fits_lem k f =
        together (sending_tests w z s) (
          le-leb _ _ k.capped,
          (
            le-leb _ _ k.ordered,
            (
              le-leb _ _ k.windowed,
              (lt-ltb _ _ k.placed, (lt_within _ _ k.masked, (sizes_all w z s.sizes (mask_of s.unacked) s.origin f, tt))),
            ),
          ),
        )

  -- and of a receiving side
  module _ (r : Receiving) where
    pub receiving_ok : w ≤ widest → receiving_fits w z r ≡ true → ReceivingOk w r
    unfolding receiving_fits
    receiving_ok narrow t =
        let e = each (receiving_tests w z r) t in
        record { capped = leb-true _ _ e.0; placed = ltb-true _ _ e.1.0; masked = within_lt _ _ e.1.1.0; narrow = narrow }

    pub receiving_sized : receiving_fits w z r ≡ true → Sized w z r.sizes (mask_of r.stored) r.origin
    unfolding receiving_fits
    receiving_sized t = sizes_each w z r.sizes (mask_of r.stored) r.origin (each (receiving_tests w z r) t).1.1.1.0

    pub receiving_fits_lem : ReceivingOk w r → Sized w z r.sizes (mask_of r.stored) r.origin → receiving_fits w z r ≡ true
    unfolding receiving_fits
    receiving_fits_lem k f =
        together (receiving_tests w z r) (
          le-leb _ _ k.capped,
          (
            lt-ltb _ _ k.placed,
            (lt_within _ _ k.masked, (sizes_all w z r.sizes (mask_of r.stored) r.origin f, tt)),
          ),
        )

-- The steps of the sending side, as facts.
module _ {w : ℕ} (s : Sending) (k : SendingOk w s) where
  pub took_ok : (size : ℕ) → s.taken < cap → under_way s < w → SendingOk w (took_one w s size)
  unfolding took_one
  took_ok size c q =
      let e : s.taken + 1 - s.base ≡ under_way s + 1 = omega arith in
      let more : mask_of s.unacked < 2 ^ (under_way s + 1) = lt_of_lt_of_le k.masked (pow_mono (omega arith)) in
      record {
        capped = omega arith;
        ordered = omega arith;
        windowed = omega arith;
        placed = k.placed;
        masked = rw (mask_set, e) (with_lt (mask_of s.unacked) (under_way s) (under_way s + 1) more (omega arith));
        narrow = k.narrow;
      }

  pub moved_ok : (d : ℕ) → d ≤ under_way s → SendingOk w (moved_by w s d)
  moved_ok d q =
      let e : under_way s ≡ (s.taken - (s.base + d)) + d = omega arith in
      record {
        capped = k.capped;
        ordered = omega arith;
        windowed = omega arith;
        placed = place_lt w s.origin d k.placed (omega arith);
        masked = rw mask_set (shr_lt (s.taken - (s.base + d)) d (rw e at k.masked));
        narrow = k.narrow;
      }

  pub dropped_ok : (d : ℕ) → SendingOk w (dropped_at s d)
  dropped_ok d =
      record {
        capped = k.capped;
        ordered = k.ordered;
        windowed = k.windowed;
        placed = k.placed;
        masked = rw mask_set (lt_of_le_of_lt (without_le (mask_of s.unacked) d) k.masked);
        narrow = k.narrow;
      }

-- The steps of the receiving side, as facts.
module _ {w : ℕ} (r : Receiving) (k : ReceivingOk w r) where
  pub stored_ok : (d size : ℕ) → d < w → ReceivingOk w (stored_at w r d size)
  unfolding stored_at
  stored_ok d size q = record { capped = k.capped; placed = k.placed; masked = rw mask_set (with_lt (mask_of r.stored) d w k.masked q); narrow = k.narrow }

  pub handed_ok : r.next < cap → ReceivingOk w (handed_out w r)
  unfolding handed_out
  handed_ok c =
      record {
        capped = omega arith;
        placed = place_lt w r.origin 1 k.placed (omega arith);
        masked = rw mask_set (lt_of_le_of_lt (shr_le (mask_of r.stored) 1) k.masked);
        narrow = k.narrow;
      }

-- Every step keeps what BOOK asks.
module _ (w z : ℕ) (narrow : w ≤ widest) where
  -- where nothing is there, no size is asked after
  none_sized : (sizes : List ℕ) (origin : ℕ) → Sized w z sizes (mask_of (set_of 0)) origin
  none_sized sizes origin i l b = clash (sym (none_bit i) ∙ b)

  module _ (s : Sending) (t : sending_fits w z s ≡ true) where
    ok : SendingOk w s
    ok = sending_ok w z s narrow t

    sized : Sized w z s.sizes (mask_of s.unacked) s.origin
    sized = sending_sized w z s t

    pub took_keeps : (size : ℕ) → w ≤ length s.sizes → verdict (take_tests w s) ≡ Ok tt → message_fits z size ≡ true → sending_fits w z
        (took_one w s size) ≡ true
    unfolding took_one
    took_keeps size long v f =
        let p = passed (take_tests w s) v in
        let q : under_way s < w = ltb-true _ _ p.1.0 in
        sending_fits_lem w z (took_one w s size) (took_ok s ok size (ltb-true _ _ p.0) q)
        (rw mask_set (sized_with w z s.sizes (mask_of s.unacked) s.origin sized ok.placed (under_way s) size q long f))

    pub heard_keeps : (b : ℕ) → sending_fits w z (heard_base w s b) ≡ true
    unfolding heard_base
    heard_keeps b =
        let d = dist b s.base in
        pick_by (λ u. sending_fits w z u ≡ true) (ltb 0 d && leb d (under_way s))
        (λ e. let q : d ≤ under_way s = leb-true _ _ (both_true (ltb 0 d) _ e).1 in
        sending_fits_lem w z (moved_by w s d) (moved_ok s ok d q)
        (rw mask_set (sized_dropped w z s.sizes (mask_of s.unacked) s.origin sized ok.placed d (lt_of_lt_of_le ok.masked (pow_mono ok.windowed)))))
        (λ e. t)

    pub acked_keeps : (n : ℕ) → sending_fits w z (acked_by s n) ≡ true
    unfolding acked_by
    acked_keeps n =
        let d = dist n s.base in
        pick_by (λ u. sending_fits w z u ≡ true) (ltb d (under_way s))
        (λ e. sending_fits_lem w z (dropped_at s d) (dropped_ok s ok d) (rw mask_set (sized_without w z s.sizes (mask_of s.unacked) s.origin sized ok.placed d)))
        (λ e. t)

    pub emptied_keeps : sending_fits w z (emptied_sending s) ≡ true
    unfolding emptied_sending
    emptied_keeps =
        sending_fits_lem w z (emptied_sending s)
        (record { capped = ok.capped; ordered = ok.ordered; windowed = ok.windowed; placed = ok.placed; masked = rw mask_set (pow_pos (s.taken - s.base)); narrow = narrow })
        (none_sized s.sizes s.origin)

  module _ (r : Receiving) (t : receiving_fits w z r ≡ true) where
    okay : ReceivingOk w r
    okay = receiving_ok w z r narrow t

    pub arrived_keeps : (n size : ℕ) → w ≤ length r.sizes → message_fits z size ≡ true → receiving_fits w z
        (arrived_as w r (arrival_of w r n) size) ≡ true
    unfolding arrival_of stored_at
    arrived_keeps n size long f =
        let d = dist n r.next in
        pick_lt (λ (a : Arrival). receiving_fits w z (arrived_as w r a size) ≡ true) d w
        (λ q. pick_by (λ (a : Arrival). receiving_fits w z (arrived_as w r a size) ≡ true) (bit_of (mask_of r.stored) d) (λ e. t)
        (λ e. receiving_fits_lem w z (stored_at w r d size) (stored_ok r okay d size q)
        (rw mask_set (sized_with w z r.sizes (mask_of r.stored) r.origin (receiving_sized w z r t) okay.placed d size q long f))))
        (λ q. t)

    pub handed_keeps : verdict (hand_tests r) ≡ Ok tt → receiving_fits w z (handed_out w r) ≡ true
    unfolding handed_out
    handed_keeps v =
        receiving_fits_lem w z (handed_out w r) (handed_ok r okay (ltb-true _ _ (passed (hand_tests r) v).0))
        (rw mask_set (sized_dropped w z r.sizes (mask_of r.stored) r.origin (receiving_sized w z r t) okay.placed 1 okay.masked))

    pub cleared_keeps : receiving_fits w z (emptied_receiving r) ≡ true
    unfolding emptied_receiving
    cleared_keeps = receiving_fits_lem w z (emptied_receiving r) (record { capped = okay.capped; placed = okay.placed; masked = rw mask_set (pow_pos w); narrow = narrow }) (none_sized r.sizes r.origin)

  -- and a fresh side meets it
  pub fresh_sending_lem : 0 < w → sending_fits w z fresh_sending ≡ true
  fresh_sending_lem p =
      sending_fits_lem w z fresh_sending (record { capped = omega arith; ordered = omega arith; windowed = omega arith; placed = p; masked = rw mask_set (pow_pos 0); narrow = narrow })
      (none_sized fresh_sending.sizes 0)

  pub fresh_receiving_lem : 0 < w → receiving_fits w z fresh_receiving ≡ true
  fresh_receiving_lem p =
      receiving_fits_lem w z fresh_receiving (record { capped = omega arith; placed = p; masked = rw mask_set (pow_pos w); narrow = narrow })
      (none_sized fresh_receiving.sizes 0)
