-- Builds that meddle with the book that an opening, a closing or a mode call leaves do not meet demand 2: they are held against what these calls leave, whole.
-- Assumes nothing.
use Prim.Native.Nat.{ℕ}
use mathlib.Core.List.{List, [], ◌∷◌}
use mathlib.Core.Path.{◌≡◌, ap, refl}
use native.Mathlib.Omega.{arith}
use lib.Dec.{lit<, lit≤}
use lib.ListN.{replicate}
use Rattle.book.specs.Book.{book_fits, line_of, lines_fit, open_in}
use Rattle.book.specs.Closing.{closed_at}
use Rattle.book.specs.Parts.{part_start}
use Rattle.book.specs.Resting.{all_span}
use Rattle.calls.specs.Call.{Call}
use Rattle.calls.specs.Order.{ask_order, close_order, line_for, open_order, order}
use Rattle.calls.specs.Result.{CallResult, accepted_result, effect, result_of}
use Rattle.ground.specs.Every.{every}
use Rattle.line.specs.Fit.{line_fits}
use Rattle.line.specs.Mode.{stepped_to}
use Rattle.mode.specs.Acts.{ask}
use Rattle.mode.specs.Fit.{modes_fit}
use Rattle.mode.specs.Given.{modem}
use Rattle.mode.specs.Moved.{channels_for, moved, timed}
use Rattle.mode.specs.Request.{ask_step}
use Rattle.owed.specs.Owed.{all_spans, member, no_twice, owed_fits}
use Rattle.places.specs.Places.{mask_of, set_of}
use Rattle.promise.specs.Demand2.{Demand2}
use Rattle.receiving.specs.Receiving.{receiving_fits}
use Rattle.refuted.specs.Careless.{opens_one, moves_and_shuts, never_rests}
use Rattle.refuted.proofs.IdlePackets.{made, named, ready}
use Rattle.sending.specs.Sending.{sending_fits}
use Rattle.slip.specs.Slip.{slip_length}
use Rattle.channel.specs.Sizes as sizes
use Rattle.calls.specs.Call as call

-- a gateway whose line 0 is open
abbrev first : List Call
first = call.opening 0 (named 5) 0 ∷ []

-- a second line may be opened, and is not
pub opens_one_fails : Demand2 opens_one → ⊥
unfolding result_of accepted_result effect order line_for open_order ask_order book_fits lines_fit all_span open_in line_fits member no_twice all_spans owed_fits modes_fit sending_fits receiving_fits mask_of set_of sizes.sizes_fit every ask_step moved timed channels_for stepped_to part_start
opens_one_fails d =
    let n : ◌≡◌ {A = ℕ} 0 1 = ap (λ (x : CallResult). (line_of x.book 1).opened) (d.opens (made first) 1 (named 6) 0 [] refl) in
    omega (arith, n)

-- the line stays open, whatever its modes
pub moves_and_shuts_fails : Demand2 moves_and_shuts → ⊥
unfolding result_of accepted_result effect order line_for open_order ask_order book_fits lines_fit all_span open_in line_fits member no_twice all_spans owed_fits modes_fit sending_fits receiving_fits mask_of set_of sizes.sizes_fit every ask_step moved timed channels_for stepped_to part_start
moves_and_shuts_fails d =
    let n : ◌≡◌ {A = ℕ} 0 1 = ap (λ (x : CallResult). (line_of x.book 0).opened) (d.moves (made first) 0 (ready first 0 (lit< tt) refl (lit≤ tt)) (ask modem 0) []) in
    omega (arith, n)

-- one identifier rests after the first closing
pub never_rests_fails : Demand2 never_rests → ⊥
unfolding result_of accepted_result effect order line_for open_order ask_order book_fits lines_fit all_span open_in line_fits member no_twice all_spans owed_fits modes_fit sending_fits receiving_fits mask_of set_of sizes.sizes_fit every ask_step moved timed channels_for stepped_to part_start close_order closed_at
never_rests_fails d =
    let n : ◌≡◌ {A = ℕ} 0 1 = ap (λ (x : CallResult). x.book.rested) (d.closes (made first) 0 (replicate slip_length 0) refl) in
    omega (arith, n)
