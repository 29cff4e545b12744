-- One way of a channel over the real sides: a sending side with its slots, the peer's receiving side with its own, what was taken and what
-- was handed out. Each step, made with the 14 bits that a packet carries, keeps the flow between the two.
-- Assumes nothing.
use Prim.Native.Nat.{ℕ, ◌+◌, ◌-◌, ◌%◌, ◌≤◌, ◌<◌}
use mathlib.Core.Path.{◌≡◌, sym, ap, subst, ◌∙◌}
use mathlib.Core.Bool.{true}
use mathlib.Core.List.{List, [], ◌∷◌, ◌++◌}
use native.Mathlib.Nat.{sub_self, add-zero}
use native.Mathlib.Omega.{arith}
use lib.ListN.{length, take}
use Rattle.std.specs.Prelude.{Some}
use Rattle.ground.proofs.Picks.{pick_lt}
use Rattle.channel.specs.Channel.{modulus}
use Rattle.channel.specs.Distance.{place_of}
use Rattle.flow.specs.Flow.{Message, Full, Have, Flow, Data, waiting}
use Rattle.places.specs.Places.{mask_of, bit_of, rank_of}
use Rattle.receiving.specs.Receiving.{ReceivingOk, arrival_of, arrived_as, next_size, handed_out}
use Rattle.sending.specs.Sending.{SendingOk, under_way, next_place, took_one, heard_base, acked_by}
use Rattle.flow.specs.View.{Slots, message_at, message_of, sends, receives, PutAt, PutAs, SlotsHold}
use Rattle.receiving.specs.declared.Receiving.{Receiving}
use Rattle.sending.specs.declared.Sending.{Sending}
use Rattle.flow.proofs.Fields.{heard_field, acked_field, arrival_field}
use Rattle.flow.proofs.Flows.{take_flow, base_flow, ack_flow, arrive_flow, hand_flow, taken_all}
use Rattle.flow.proofs.Messages.{full_of, message_in, message_full}
use Rattle.flow.proofs.Moves.{took_moves, heard_moves, acked_moves, arrived_moves, handed_moves}
use Rattle.places.proofs.Ranks.{rank_holds, rank_below}
use Rattle.flow.proofs.Sized.{Sized}

-- message R, as it is handed out, is the one that the view shows
pub next_message : (w : ℕ) (slot : Slots) (r : Receiving) → r.origin < w → bit_of (mask_of r.stored) 0 ≡ true
    → (receives w slot r).stored r.next ≡ take (next_size r) (slot r.origin)
next_message w slot r l t =
    ap (message_of w slot r.sizes (mask_of r.stored) r.origin) (sub_self r.next)
    ∙ message_in w slot r.sizes (mask_of r.stored) r.origin 0 t
    ∙ ap (message_at slot r.sizes) (pick_lt (λ (p : ℕ). p ≡ r.origin) (r.origin + 0) w (λ q. add-zero r.origin) (λ q. absurd (omega arith)))

-- a held message, found by its rank, is one of h to S - 1, and the view shows its octets
pub ranked_message : (w : ℕ) (slot : Slots) (s : Sending) (rank i : ℕ) → SendingOk w s → rank_of (mask_of s.unacked) rank ≡ Some i
    → (i < under_way s) × ((sends w slot s).held (s.base + i) ≡ message_at slot s.sizes (place_of s.origin i w))
ranked_message w slot s rank i k e =
    let back : s.base + i - s.base ≡ i = omega arith in (
      rank_below (mask_of s.unacked) rank i (under_way s) k.masked e,
      ap (message_of w slot s.sizes (mask_of s.unacked) s.origin) back ∙ message_in w slot s.sizes (mask_of s.unacked) s.origin i
          (rank_holds (mask_of s.unacked) rank i e).1,
    )

module _ (w stale : ℕ) (wide : w + stale ≤ modulus) (s : Sending) (r : Receiving) (out into : Slots) (taken handed : List Message)
    (k : SendingOk w s) (j : ReceivingOk w r) (f : Flow w (sends w out s) (receives w into r) taken handed) where
  -- a message is taken
  pub took_flow : (after : Slots) (x : Message) → w ≤ length s.sizes → under_way s < w → 0 < length x → PutAt w out after (next_place w s) x
      → Flow w (sends w after (took_one w s (length x))) (receives w into r) (taken ++ (x ∷ [])) handed
  took_flow after x long q l u = take_flow f (sends w after (took_one w s (length x))) x (omega (arith, k)) (full_of x l)
      (took_moves w out s k after x long q u)

  -- a base is heard that the peer has reached and that is not stale
  pub heard_flow : (b : ℕ) → b ≤ r.next → s.taken ≤ b + stale → Flow w (sends w out (heard_base w s (b % modulus))) (receives w into r) taken handed
  heard_flow b l fresh =
      rw (heard_field w s b) (base_flow f (sends w out (heard_base w s b)) b l (heard_moves w out s k stale wide b (omega (arith, f.mid)) fresh))

  -- an acknowledgement is heard of a message that has come and that is not stale
  pub acked_flow : (n : ℕ) → Have (receives w into r) n → n < s.taken → s.taken ≤ n + stale
      → Flow w (sends w out (acked_by s (n % modulus))) (receives w into r) taken handed
  acked_flow n have l fresh =
      rw (acked_field s n) (ack_flow f (sends w out (acked_by s n)) n have (acked_moves w out s k stale wide n l fresh))

  -- a message arrives that was taken and is not stale
  pub arrived_flow : (z : ℕ) → Sized w z r.sizes (mask_of r.stored) r.origin → SlotsHold w z into → (after : Slots) (n : ℕ) (x : Message)
      → Data taken n x → s.taken ≤ n + stale
      → w ≤ length r.sizes → PutAs w r (arrival_of w r (n % modulus)) into after x
      → Flow w (sends w out s) (receives w after (arrived_as w r (arrival_of w r (n % modulus)) (length x))) taken handed
  arrived_flow z sized roomy after n x d fresh long =
      rw (arrival_field w r n) (λ u. arrive_flow f (receives w after (arrived_as w r (arrival_of w r n) (length x))) n x d
      (arrived_moves w into r j z stale s.taken wide f.mid (omega (arith, f.low, f.high)) sized roomy after n x
      (omega (arith, d.known, f.count)) fresh long u))

  -- message R is handed out
  pub handed_flow : (z : ℕ) → Sized w z r.sizes (mask_of r.stored) r.origin → SlotsHold w z into → bit_of (mask_of r.stored) 0 ≡ true
      → Flow w (sends w out s) (receives w into (handed_out w r)) taken (handed ++ (take (next_size r) (into r.origin) ∷ []))
  handed_flow z sized roomy t =
      let e = next_message w into r j.placed t in
      rw e at (hand_flow f (receives w into (handed_out w r)) (full e) (handed_moves w into r j))
    where
      full : (receives w into r).stored r.next ≡ take (next_size r) (into r.origin) → Full ((receives w into r).stored r.next)
      full e =
          subst (λ (i : ℕ). Full (message_of w into r.sizes (mask_of r.stored) r.origin i)) (sym (sub_self r.next))
          (message_full w into r.sizes (mask_of r.stored) r.origin z j.placed sized roomy 0 (omega (arith, j.placed)) t)

  -- the messages taken are those handed out, in order and octet for octet, followed by those that wait
  pub in_order : taken ≡ handed ++ waiting (sends w out s) (receives w into r)
  in_order = taken_all f
