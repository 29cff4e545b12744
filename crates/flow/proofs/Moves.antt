-- Each step of a side is a move with full numbers. A packet may name a message only if at most `stale` were taken since: with the window
-- and `stale` together at most 16,384, what the side decides by 14 bits is what it would decide by full numbers.
-- Assumes nothing.
use Prim.Native.Nat.{ℕ, ◌+◌, ◌-◌, ◌^◌, ◌≤◌, ◌<◌}
use mathlib.Core.Path.{◌≡◌, refl, sym, ap, subst, ◌∙◌}
use mathlib.Core.Bool.{Bool, true, false, ◌&&◌}
use mathlib.Core.Logic.{◌≢◌}
use native.Mathlib.Decide.{dec_lt}
use native.Mathlib.Nat.{lt_of_lt_of_le}
use native.Mathlib.Numerals.{add-one}
use native.Mathlib.Omega.{arith}
use lib.Dec.{ltb, leb}
use lib.ListN.{length}
use lib.Pow.{pow_mono}
use borrow.Author.Tests.{ltb-false, leb-true, le-leb}
use Rattle.ground.specs.Pick.{pick}
use Rattle.ground.proofs.Picks.{pick_by, pick_lt, both_true, clash}
use Rattle.channel.specs.Channel.{modulus}
use Rattle.channel.specs.Distance.{dist, place_of}
use Rattle.flow.specs.Flow.{Message, Full, first_stays, TakeMove, BaseMove, AckMove, PayloadMove, HandOutMove}
use Rattle.places.specs.Places.{mask_of, bit_of, with_bit}
use Rattle.receiving.specs.Receiving.{ReceivingOk, arrival_of, arrived_as, stored_at, handed_out}
use Rattle.sending.specs.Sending.{SendingOk, under_way, next_place, took_one, moved_by, heard_base, dropped_at, acked_by}
use Rattle.flow.specs.View.{Slots, message_of, sends, receives, PutAt, PutAs, SlotsHold}
use Rattle.receiving.specs.declared.Arrival.{Arrival}
use Rattle.receiving.specs.declared.Receiving.{Receiving}
use Rattle.sending.specs.declared.Sending.{Sending}
use Rattle.places.proofs.Bits.{with_lt}
use Rattle.places.proofs.Masks.{mask_set}
use Rattle.channel.proofs.Distances.{dist_up, dist_down}
use Rattle.flow.proofs.Flows.{first_stays_old}
use Rattle.flow.proofs.Messages.{message_none, message_past, message_full, message_without, message_kept, message_new, message_old, message_moved}
use Rattle.flow.proofs.Sized.{Sized}

-- A number that a packet names, against the oldest one of a window: in it by 14 bits is in it.
module _ (w stale h S : ℕ) (wide : w + stale ≤ modulus) (a : h ≤ S) (g : S ≤ h + w) (n : ℕ) (l : n < S) (fresh : S ≤ n + stale) where
  -- a distance within the window leads to the number itself
  pub in_window : dist n h < w → h ≤ n
  in_window p = go (dec_lt n h)
    where
      go : Dec (n < h) → h ≤ n
      go (yes q) = absurd (omega (arith, dist_down n h q (omega arith)))
      go (no q) = omega arith

  pub at_distance : h ≤ n → dist n h ≡ n - h
  at_distance q = dist_up n h q (omega arith)

left_false : (a b : Bool) → (a && b) ≡ false → b ≡ true → a ≡ false
left_false true b e t = clash (sym e ∙ t)
left_false false b e t = refl

-- The sending side.
module _ (w : ℕ) (slot : Slots) (s : Sending) (k : SendingOk w s) where
  mask_lt : mask_of s.unacked < 2 ^ w
  mask_lt = lt_of_lt_of_le k.masked (pow_mono k.windowed)

  -- taking a message
  pub took_moves : (after : Slots) (x : Message) → w ≤ length s.sizes → under_way s < w → PutAt w slot after (next_place w s) x
      → TakeMove (sends w slot s) (sends w after (took_one w s (length x))) x
  unfolding took_one
  took_moves after x long q u =
      record {
        count = add-one s.taken;
        base = refl;
        new = rw mask_set (message_new w slot s.sizes (mask_of s.unacked) s.origin k.placed after (under_way s) x q u long);
        old = λ n b c. rw mask_set (message_old w slot s.sizes (mask_of s.unacked) s.origin k.placed after (under_way s) x q u (n - s.base)
            (omega (arith, k.ordered)) (omega (arith, k.ordered)));
      }

  module _ (stale : ℕ) (wide : w + stale ≤ modulus) where
    moved_on : (b : ℕ) → s.base ≤ b → b ≤ s.taken → BaseMove (sends w slot s) (sends w slot (moved_by w s (b - s.base))) b
    moved_on b a l =
        record {
          count = refl;
          base = omega arith;
          old = λ n c q. rw mask_set (message_moved w slot s.sizes (mask_of s.unacked) s.origin k.placed (b - s.base)
              (n - (s.base + (b - s.base))) mask_lt
              ∙ ap (message_of w slot s.sizes (mask_of s.unacked) s.origin) (omega arith));
        }

    stays : (b : ℕ) → b ≤ s.base → BaseMove (sends w slot s) (sends w slot s) b
    stays b l = record { count = refl; base = omega arith; old = λ n c q. refl }

    -- hearing a base
    pub heard_moves : (b : ℕ) → b ≤ s.taken → s.taken ≤ b + stale → BaseMove (sends w slot s) (sends w slot (heard_base w s b)) b
    unfolding heard_base
    heard_moves b l f = go (dec_lt b s.base)
      where
        d : ℕ
        d = dist b s.base

        P : Sending → Type 0
        P t = BaseMove (sends w slot s) (sends w slot t) b

        go : Dec (b < s.base) → P (pick (ltb 0 d && leb d (under_way s)) (moved_by w s d) s)
        go (yes q) =
            let e : d ≡ modulus - (s.base - b) = dist_down b s.base q (omega (arith, k)) in
            pick_by P (ltb 0 d && leb d (under_way s))
            (λ t. let m : d ≤ under_way s = leb-true _ _ (both_true (ltb 0 d) _ t).1 in absurd (omega (arith, k)))
            (λ t. stays b (omega arith))
        go (no q) =
            let e : d ≡ b - s.base = dist_up b s.base (omega arith) (omega (arith, k)) in
            pick_by P (ltb 0 d && leb d (under_way s))
            (λ t. subst (λ (c : ℕ). P (moved_by w s c)) (sym e) (moved_on b (omega arith) l))
            (λ t. let z : d ≤ 0 = ltb-false 0 d
            (left_false (ltb 0 d) (leb d (under_way s)) t (le-leb d (under_way s) (omega (arith, k)))) in stays b (omega arith))

    -- hearing an acknowledgement
    pub acked_moves : (n : ℕ) → n < s.taken → s.taken ≤ n + stale → AckMove (sends w slot s) (sends w slot (acked_by s n)) n
    unfolding acked_by
    acked_moves n l f = pick_lt (λ (t : Sending). AckMove (sends w slot s) (sends w slot t) n) (dist n s.base) (under_way s) gone kept
      where
        gone : dist n s.base < under_way s → AckMove (sends w slot s) (sends w slot (dropped_at s (dist n s.base))) n
        gone p =
            let a : s.base ≤ n = in_window w stale s.base s.taken wide k.ordered (omega (arith, k)) n l f (omega (arith, k)) in
            let e = at_distance w stale s.base s.taken wide k.ordered (omega (arith, k)) n l f a in
            rw e (record {
              count = refl;
              base = refl;
              gone = λ c q. rw mask_set (message_without w slot s.sizes (mask_of s.unacked) s.origin (n - s.base));
              old = λ m c q d. rw mask_set (message_kept w slot s.sizes (mask_of s.unacked) s.origin (n - s.base) (m - s.base) (omega arith));
            })

        kept : under_way s ≤ dist n s.base → AckMove (sends w slot s) (sends w slot s) n
        kept p =
            record {
              count = refl;
              base = refl;
              gone = λ c q. absurd (omega (arith, at_distance w stale s.base s.taken wide k.ordered (omega (arith, k)) n l f c));
              old = λ m c q d. refl;
            }

-- The receiving side: S is how many messages the peer has taken.
module _ (w : ℕ) (slot : Slots) (r : Receiving) (k : ReceivingOk w r) where
  -- handing out
  pub handed_moves : HandOutMove (receives w slot r) (receives w slot (handed_out w r))
  unfolding handed_out
  handed_moves =
      record {
        next = add-one r.next;
        old = λ m l. rw mask_set (message_moved w slot r.sizes (mask_of r.stored) r.origin k.placed 1 (m - (r.next + 1)) k.masked
            ∙ ap (message_of w slot r.sizes (mask_of r.stored) r.origin) (omega arith));
      }

  -- a message that is stored, c past R
  new_moves : (after : Slots) (n c : ℕ) (x : Message) → n ≡ r.next + c → c < w → bit_of (mask_of r.stored) c ≡ false → w ≤ length r.sizes
      → PutAt w slot after (place_of r.origin c w) x → PayloadMove (receives w slot r) (receives w after (stored_at w r c (length x))) n x
  unfolding stored_at
  new_moves after n c x e q t long u =
      record {
        next = refl;
        here = λ b. rw mask_set (ap (message_of w after (stored_at w r c (length x)).sizes (with_bit m c) r.origin) back
            ∙ message_new w slot r.sizes m r.origin k.placed after c x q u long
            ∙ ap (λ (y : Message). first_stays y x)
            (sym (ap (message_of w slot r.sizes m r.origin) back ∙ message_none w slot r.sizes m r.origin c t)));
        old = λ j b d. go j b d (dec_lt (j - r.next) w);
      }
    where
      m : ℕ
      m = mask_of r.stored

      back : n - r.next ≡ c
      back = omega arith

      go : (j : ℕ) → r.next ≤ j → j ≢ n → Dec (j - r.next < w) → (receives w after
          (stored_at w r c (length x))).stored j ≡ (receives w slot r).stored j
      go j b d (yes l) = rw mask_set (message_old w slot r.sizes m r.origin k.placed after c x q u (j - r.next) l (omega arith))
      go j b d (no l) =
          rw mask_set (message_past w after (stored_at w r c (length x)).sizes (with_bit m c) r.origin (j - r.next) (with_lt m c w k.masked q) (omega arith)
          ∙ sym (message_past w slot r.sizes m r.origin (j - r.next) k.masked (omega arith)))

  -- one that is there already, or old
  kept_moves : (after : Slots) (n : ℕ) (x : Message) → after ≡ slot → (r.next ≤ n → Full ((receives w slot r).stored n))
      → PayloadMove (receives w slot r) (receives w after r) n x
  kept_moves after n x u f =
      subst (λ (y : Slots). PayloadMove (receives w slot r) (receives w y r) n x) (sym u)
      (record { next = refl; here = λ b. sym (first_stays_old ((receives w slot r).stored n) x (f b)); old = λ j b d. refl })

  module _ (z stale S : ℕ) (wide : w + stale ≤ modulus) (a : r.next ≤ S) (g : S ≤ r.next + w)
      (sized : Sized w z r.sizes (mask_of r.stored) r.origin) (roomy : SlotsHold w z slot) where
    -- an arrival, whether it is stored, there already or old
    pub arrived_moves : (after : Slots) (n : ℕ) (x : Message) → n < S → S ≤ n + stale → w ≤ length r.sizes
        → PutAs w r (arrival_of w r n) slot after x
        → PayloadMove (receives w slot r) (receives w after (arrived_as w r (arrival_of w r n) (length x))) n x
    unfolding arrival_of
    arrived_moves after n x l f long =
        pick_lt P d w
        (λ q. pick_by P (bit_of (mask_of r.stored) d)
        (λ t u. kept_moves after n x u (λ b. message_full w slot r.sizes (mask_of r.stored) r.origin z k.placed sized roomy
        (n - r.next) (omega arith)
        (ap (bit_of (mask_of r.stored)) (sym (at_distance w stale r.next S wide a g n l f b)) ∙ t)))
        (λ t u. new_moves after n d x (leads q) q t long u))
        (λ q u. kept_moves after n x u (λ b. absurd (omega (arith, at_distance w stale r.next S wide a g n l f b))))
      where
        d : ℕ
        d = dist n r.next

        leads : d < w → n ≡ r.next + d
        leads q =
            let b = in_window w stale r.next S wide a g n l f q in
            omega (arith, at_distance w stale r.next S wide a g n l f b)

        P : Arrival → Type 0
        P c = PutAs w r c slot after x → PayloadMove (receives w slot r) (receives w after (arrived_as w r c (length x))) n x
