-- How the two begin, at a build that opens lines as ours does; and the idle build that holds nothing of what it takes does not meet demand 3.
-- Assumes nothing.
use Prim.Native.Nat.{ℕ}
use mathlib.Core.Path.{◌≡◌, refl}
use mathlib.Core.List.{[], ◌∷◌}
use native.Mathlib.Omega.{arith}
use lib.Dec.{lit<}
use Rattle.ground.specs.Every.{every}
use Rattle.places.specs.Places.{mask_of, set_of}
use Rattle.sending.specs.Sending.{sending_fits}
use Rattle.receiving.specs.Receiving.{receiving_fits}
use Rattle.channel.specs.Sizes as sizes
use Rattle.owed.specs.Owed.{member, no_twice, all_spans, owed_fits}
use Rattle.mode.specs.Fit.{modes_fit}
use Rattle.mode.specs.Given.{modem}
use Rattle.mode.specs.Moved.{channels_for, timed, moved}
use Rattle.mode.specs.Request.{ask_step}
use Rattle.mode.specs.Acts.{ask}
use Rattle.line.specs.Fit.{line_fits}
use Rattle.line.specs.Mode.{stepped_to}
use Rattle.book.specs.Parts.{part_start}
use Rattle.book.specs.Resting.{all_span}
use Rattle.book.specs.Book.{open_in, lines_fit, book_fits}
use Rattle.calls.specs.Call.{Call}
use Rattle.calls.specs.Call as call
use Rattle.calls.specs.Order.{open_order, ask_order, take_order, order, line_for}
use Rattle.calls.specs.Result.{result_of, accepted_result, effect}
use Rattle.promise.specs.Build.{Does}
use Rattle.promise.specs.Past.{Past, nothing_yet, just_opened}
use Rattle.promise.specs.Run.{Gateway, bound, fresh_with, after, took, moded, opens, calls, Goes, stay, here, there, Run}
use Rattle.promise.specs.Demand3.{Demand3}
use Rattle.refuted.specs.Idle.{Arrives, instead, lets, forgets, holds_nothing}
use Rattle.refuted.proofs.IdlePackets.{zeros, zeros_long, named}

abbrev opening : Call
opening = call.opening 0 (named 5) 0

abbrev asks : Call
asks = call.mode 0 (ask modem 0)

abbrev pub fresh : Gateway
fresh = fresh_with zeros

-- Two gateways of a build that opens lines and moves their modes as ours does.
module _ (w t : Does) (a : Arrives) where
  abbrev f : Does
  f = instead w t a result_of

  abbrev pub inside : Gateway
  inside = after f (after f fresh opening []) asks []

  pub begun : Goes f bound 0 0 5 98 fresh nothing_yet fresh nothing_yet inside just_opened inside just_opened
  unfolding result_of accepted_result effect part_start order line_for open_order ask_order book_fits lines_fit all_span open_in line_fits member no_twice all_spans owed_fits modes_fit sending_fits receiving_fits mask_of set_of sizes.sizes_fit every ask_step moved timed channels_for stepped_to
  begun =
      there (here (there (here stay
      (opens refl (named 5) 0 [] refl refl refl))
      (opens refl (named 5) 0 [] refl refl refl))
      (calls refl asks [] refl (λ _. refl) (moded (ask modem 0))))
      (calls refl asks [] refl (λ _. refl) (moded (ask modem 0)))

-- a run of two from line 0 to line 0
abbrev pub run : (f : Does) {g h : Gateway} {p q : Past} → Goes f bound 0 0 5 98 fresh nothing_yet fresh nothing_yet g p h q → Run f bound 0 0 5 98 g p h q
run f w = record { store1 = zeros; store2 = zeros; lines = (lit< tt, lit< tt); long = (zeros_long, zeros_long); goes = w }

-- a message that is taken is counted
pub holds_nothing_fails : Demand3 holds_nothing → ⊥
unfolding result_of accepted_result effect part_start order line_for open_order ask_order book_fits lines_fit all_span open_in line_fits member no_twice all_spans owed_fits modes_fit sending_fits receiving_fits mask_of set_of sizes.sizes_fit every ask_step moved timed channels_for stepped_to take_order
holds_nothing_fails d =
    let w = here (begun result_of forgets lets) (calls refl (call.taking 0 1 (7 ∷ [])) [] refl (λ _. refl) (took 1 (7 ∷ []) refl)) in
    let n : ◌≡◌ {A = ℕ} 1 0 = ((d.promised (run (instead result_of forgets lets result_of) w)).there 1 refl).counted in
    omega (arith, n)
