-- Any number of messages up to 16,384 pass, one after the other, at a build that ignores messages by a test as long as the test lets them pass.
-- Assumes nothing.
use Rattle.book.specs.Parts.{part_start}
use Prim.Native.Nat.{ℕ, zero, suc, ◌≤◌, ◌<◌}
use mathlib.Core.Path.{◌≡◌, refl}
use mathlib.Core.Bool.{Bool, false}
use mathlib.Core.List.{[]}
use native.Mathlib.Omega.{arith}
use Rattle.ground.specs.Every.{every}
use Rattle.places.specs.Places.{mask_of, set_of}
use Rattle.sending.specs.Sending.{sending_fits}
use Rattle.receiving.specs.Receiving.{receiving_fits}
use Rattle.channel.specs.Sizes as sizes
use Rattle.owed.specs.Owed.{member, no_twice, all_spans, owed_fits}
use Rattle.mode.specs.Fit.{modes_fit}
use Rattle.mode.specs.Given.{modem}
use Rattle.mode.specs.Moved.{channels_for, timed, moved}
use Rattle.mode.specs.Request.{ask_step}
use Rattle.mode.specs.Acts.{ask}
use Rattle.line.specs.Fit.{line_fits}
use Rattle.line.specs.Mode.{stepped_to}
use Rattle.book.specs.Resting.{all_span}
use Rattle.book.specs.Book.{open_in, lines_fit, book_fits}
use Rattle.calls.specs.Call.{Call}
use Rattle.calls.specs.Call as call
use Rattle.calls.specs.Order.{open_order, ask_order, order, line_for}
use Rattle.calls.specs.Result.{result_of, accepted_result, effect}
use Rattle.promise.specs.Past.{nothing_yet, just_opened}
use Rattle.promise.specs.Run.{Gateway, bound, after, moded, opens, calls, Goes, stay, here, there}
use Rattle.refuted.specs.Idle.{ignores}
use Rattle.refuted.proofs.IdlePackets.{named}
use Rattle.refuted.proofs.IdleRuns.{fresh, begun, run}
use Rattle.refuted.proofs.Twins.{f}
use Rattle.refuted.proofs.Rounds.{At}
use Rattle.refuted.proofs.Answered.{round}

-- the two begin, in a run of ours and of this build alike
start : (test : ℕ → ℕ → Bool) → At test 0
unfolding result_of accepted_result effect part_start order line_for open_order ask_order book_fits lines_fit all_span open_in line_fits member no_twice all_spans owed_fits modes_fit sending_fits receiving_fits mask_of set_of sizes.sizes_fit every ask_step moved timed channels_for stepped_to
start test =
    let opening : Call = call.opening 0 (named 5) 0 in
    let asks : Call = call.mode 0 (ask modem 0) in
    let g : Gateway = after result_of (after result_of fresh opening []) asks [] in
    let w : Goes result_of bound 0 0 5 98 fresh nothing_yet fresh nothing_yet g just_opened g just_opened
    = there (here (there (here stay
    (opens refl (named 5) 0 [] refl refl refl))
    (opens refl (named 5) 0 [] refl refl refl))
    (calls refl asks [] refl (λ _. refl) (moded (ask modem 0))))
    (calls refl asks [] refl (λ _. refl) (moded (ask modem 0))) in
    record {
      g = g;
      p = just_opened;
      h = g;
      q = just_opened;
      twin = record { ours = run result_of w; sized = run (f test) (begun result_of result_of (ignores test)); mine = (refl, refl); yours = (refl, refl) };
      taken = refl;
      handed = refl;
      base = refl;
      silent = refl;
      quiet = refl;
      idle = refl;
      deaf = refl;
      wrote = λ n l. absurd (omega arith);
    }

-- message after message passes
pub up_to : (test : ℕ → ℕ → Bool) (n : ℕ) → n ≤ 16384 → ((k : ℕ) → k < n → test k k ≡ false) → (k : ℕ) → k ≤ n → At test k
up_to test n few passes zero l = start test
up_to test n few passes (suc k) l = round (omega arith) (up_to test n few passes k (omega arith)) (passes k (omega arith)) (passes 0 (omega arith))
