-- Hand-outs of channel 1 stop before a message that is not stored.
-- Assumes nothing.
use Prim.Native.Nat.{ℕ, zero, suc, ◌+◌, ◌≤◌}
use mathlib.Core.Path.{◌≡◌, sym, ap, ◌∙◌}
use mathlib.Core.Bool.{Bool, true, false}
use mathlib.Core.List.{[], ◌∷◌}
use native.Mathlib.Omega.{arith}
use lib.ListN.{length, length-append}
use Rattle.ground.proofs.Picks.{clash}
use Rattle.ground.proofs.Verdicts.{passed, pass_both}
use Rattle.places.specs.Places.{mask_of, bit_of}
use Rattle.places.proofs.Bits.{bit_dropped}
use Rattle.places.proofs.Masks.{mask_set}
use Rattle.receiving.specs.Receiving.{handed_out}
use Rattle.receiving.specs.declared.Receiving.{Receiving}
use Rattle.line.specs.declared.Line.{Line}
use Rattle.relay.specs.RelayTests.{relay_channel_tests}
use Rattle.relay.specs.HandOut.{hand_call_tests, handed_line}
use Rattle.book.specs.Book.{book_fits}
use Rattle.book.specs.Shape.{BookShaped}
use Rattle.calls.specs.Call.{Call}
use Rattle.calls.specs.Call as call
use Rattle.calls.specs.Order.{line_for}
use Rattle.calls.specs.Stages.{tests, fit_book, roomy, line_number}
use Rattle.calls.specs.Result.{result_of, effect}
use Rattle.laws.proofs.Keeps.{every_call_keeps}
use Rattle.laws.proofs.OwnLine.{own_line}
use Rattle.promise.specs.Past.{Past}
use Rattle.promise.specs.Run.{Gateway, does, after, given, line_at}
use Rattle.promise.specs.Promise.{HandsOut}
use Rattle.promise.specs.Promise as promise
use Rattle.promise.proofs.OwnLine.{Passes, call_passes}
use Rattle.promise.proofs.CallsKeep.{hand_asks}
use Rattle.refuted.proofs.Twins.{f}
use Rattle.refuted.proofs.Rounds.{space}

abbrev handing : Call
handing = call.hand_out 0 1

-- message R + d is stored
abbrev pub stored : Gateway → ℕ → Bool
stored h d = bit_of (mask_of (line_at h 0).receiving.one.stored) d

module _ (h : Gateway) (pass : Passes h handing space) where
  first_stored : stored h 0 ≡ true
  unfolding hand_call_tests relay_channel_tests
  first_stored = (passed (hand_call_tests (line_at h 0) 1 (length space)) (hand_asks h 0 space 1 pass)).1.1.1.1.0

  fits : book_fits h.book ≡ true
  unfolding tests
  fits =
      let front = fit_book h.book ∷ roomy h.book (length h.store) ∷ line_number 0 ∷ [] in
      (passed front (pass_both front (hand_call_tests (line_at h 0) 1 (length space)) pass).0).0

  line : BookShaped h.book → line_at (after result_of h handing space) 0 ≡ handed_line (line_at h 0) 1
  unfolding line_for effect
  line k = own_line handing h.book h.store space pass k

-- what is stored counts from the new R
shifted : (r : Receiving) (d : ℕ) → bit_of (mask_of (handed_out 32 r).stored) d ≡ bit_of (mask_of r.stored) (suc d)
unfolding handed_out
shifted r d =
    let e : 1 + d ≡ suc d = omega arith in
    rw mask_set (bit_dropped (mask_of r.stored) 1 d ∙ ap (bit_of (mask_of r.stored)) e)

-- message R + d is not stored: at most d are handed out
pub at_most : (test : ℕ → ℕ → Bool) (d : ℕ) {h h'' : Gateway} {q q'' : Past} → BookShaped h.book → stored h d ≡ false → HandsOut (f test) 0 1 (λ n. space) h q h'' q''
    → length (q''.handed 1) ≤ length (q.handed 1) + d
at_most test d k free promise.done = omega arith
at_most test zero {h} k free (promise.next t more) = clash (sym free ∙ first_stored h (call_passes h handing space t))
at_most test (suc d) {h} {q = q} k free (promise.next t more) =
    let pass = call_passes h handing space t in
    let kept = (every_call_keeps handing h.book h.store space (fits h pass) k).1 in
    let still = ap (λ (l : Line). bit_of (mask_of l.receiving.one.stored) d) (line h pass k) ∙ shifted (line_at h 0).receiving.one d ∙ free in
    let rest = at_most test d kept still more in
    omega (arith, rest, length-append (q.handed 1) (given (does result_of h handing space) ∷ []))
