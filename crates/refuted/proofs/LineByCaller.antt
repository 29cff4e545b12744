-- Taking the line from the caller does not meet demand 2: a packet for another identifier, computed, shows it.
-- Assumes nothing.
use Prim.Native.Nat.{ℕ}
use mathlib.Core.Path.{◌≡◌, refl}
use mathlib.Core.List.{[], ◌∷◌}
use native.Mathlib.Omega.{arith}
use Rattle.ground.specs.Every.{every}
use Rattle.field.specs.Bits.{bits_at}
use Rattle.packet.specs.Acks.{acks_served}
use Rattle.packet.specs.Read.{head_at, number_at, base_at, acks_at, ack_at, payload_of}
use Rattle.packet.specs.Read as packet
use Rattle.places.specs.Places.{mask_of, set_of}
use Rattle.sending.specs.Sending.{sending_fits}
use Rattle.receiving.specs.Receiving.{receiving_fits}
use Rattle.channel.specs.Sizes as sizes
use Rattle.owed.specs.Owed.{member, no_twice, all_spans, owed_fits}
use Rattle.mode.specs.Fit.{modes_fit}
use Rattle.mode.specs.Moved.{channels_for, timed, moved}
use Rattle.mode.specs.Request.{ask_step}
use Rattle.line.specs.Fit.{line_fits}
use Rattle.line.specs.Mode.{stepped_to}
use Rattle.book.specs.Resting.{all_span}
use Rattle.book.specs.Book.{open_in, lines_fit, book_fits, owner_from}
use Rattle.book.specs.Parts.{part_start}
use Rattle.calls.specs.Order.{open_order, ask_order, arrive_order, order, line_for}
use Rattle.calls.specs.Result.{result_of, accepted_result, effect}
use Rattle.promise.specs.Demand2.{Demand2}
use Rattle.refuted.proofs.IdlePackets.{there}
use Rattle.refuted.specs.Quick.{callers_line}

-- a packet for identifier 6 is accepted at the line of identifier 5
pub callers_line_fails : Demand2 callers_line → ⊥
unfolding result_of accepted_result effect order line_for open_order ask_order book_fits lines_fit all_span open_in line_fits member no_twice all_spans owed_fits modes_fit sending_fits receiving_fits mask_of set_of sizes.sizes_fit every ask_step moved timed channels_for stepped_to part_start arrive_order owner_from head_at number_at base_at acks_at ack_at acks_served payload_of packet.size_fits bits_at
callers_line_fails d =
    let n : ◌≡◌ {A = ℕ} 5 6 = (d.inside (there 5) (6 ∷ 98 ∷ 0 ∷ 0 ∷ 0 ∷ 0 ∷ []) [] refl).named in
    omega (arith, n)
