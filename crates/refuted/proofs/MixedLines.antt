-- Finding the line by a hash of the identifier is not isolated: whether a packet reaches its line depends on what another line's identifier is. Nor is
-- a report of another line's. Two gateways, computed, show it.
-- Assumes nothing.
use Prim.Native.Nat.{ℕ}
use mathlib.Core.Path.{◌≡◌, refl, ap}
use mathlib.Core.List.{List, [], ◌∷◌}
use native.Mathlib.Omega.{arith}
use lib.Dec.{lit≤, lit<}
use lib.ListN.{get_or}
use Rattle.ground.specs.Answer.{Answer}
use Rattle.ground.specs.Every.{every}
use Rattle.field.specs.Bits.{bits_at}
use Rattle.packet.specs.Acks.{acks_served}
use Rattle.packet.specs.Read.{head_at, number_at, base_at, acks_at, ack_at, payload_of}
use Rattle.packet.specs.Read as packet
use Rattle.places.specs.Places.{mask_of, set_of}
use Rattle.sending.specs.Sending.{sending_fits}
use Rattle.receiving.specs.Receiving.{receiving_fits}
use Rattle.channel.specs.Sizes as sizes
use Rattle.owed.specs.Owed.{member, no_twice, all_spans, owed_fits}
use Rattle.mode.specs.Acts.{ask}
use Rattle.mode.specs.Fit.{modes_fit}
use Rattle.mode.specs.Given.{modem}
use Rattle.mode.specs.Moved.{channels_for, timed, moved}
use Rattle.mode.specs.Request.{ask_step}
use Rattle.line.specs.Fit.{line_fits}
use Rattle.line.specs.Mode.{stepped_to}
use Rattle.book.specs.Resting.{all_span}
use Rattle.book.specs.Book.{open_in, lines_fit, book_fits, owner_from}
use Rattle.book.specs.Parts.{part_start}
use Rattle.book.proofs.Parts.{parts_alike}
use Rattle.calls.specs.Call.{Call}
use Rattle.calls.specs.Call as call
use Rattle.calls.specs.Order.{open_order, ask_order, arrive_order, report_order, order, line_for}
use Rattle.calls.specs.Result.{result_of, accepted_result, effect}
use Rattle.promise.specs.Isolation.{SameLine, Calling, Told, Isolated}
use Rattle.refuted.proofs.IdlePackets.{named, zeros, made, ready}
use Rattle.refuted.specs.Quick.{first_alike, hashed, firsts_report}

-- line i is opened, and a request brings it into modem relay
abbrev opening : ℕ → ℕ → List Call → List Call
opening i identifier cs = call.opening i (named identifier) 0 ∷ call.mode i (ask modem 0) ∷ cs

-- line 1 has identifier 21; in the first gateway there is a line 0 besides, with identifier 5
abbrev beside : List Call
beside = opening 1 21 (opening 0 5 [])

abbrev alone : List Call
alone = opening 1 21 []

-- line 1 is the same in both
same : SameLine 1 (made beside) (made alone)
unfolding result_of accepted_result effect order line_for open_order ask_order book_fits lines_fit all_span open_in line_fits member no_twice all_spans owed_fits modes_fit sending_fits receiving_fits mask_of set_of sizes.sizes_fit every ask_step moved timed channels_for stepped_to part_start
same =
    record {
      here = ready beside 1 (lit< tt) refl (lit≤ tt);
      there = ready alone 1 (lit< tt) refl (lit≤ tt);
      line = refl;
      part = parts_alike (made beside).book (made alone).book 1 (λ j. refl) zeros;
    }

-- The packet for 21 comes, and nothing else: it reaches line 0 of the first, and line 1 of the second.
abbrev comes : List Calling
comes = record { call = call.arrival (21 ∷ 98 ∷ 0 ∷ 0 ∷ 0 ∷ 0 ∷ []); out = [] } ∷ []

-- the first value of the first answer
abbrev first : List Told → ℕ
first [] = 0
first (t ∷ ts) = get_or t.answer.values 0 0

pub hashed_fails : Isolated hashed → ⊥
unfolding result_of accepted_result effect order line_for open_order ask_order book_fits lines_fit all_span open_in line_fits member no_twice all_spans owed_fits modes_fit sending_fits receiving_fits mask_of set_of sizes.sizes_fit every ask_step moved timed channels_for stepped_to part_start arrive_order owner_from head_at number_at base_at acks_at ack_at acks_served payload_of packet.size_fits bits_at first_alike
hashed_fails d =
    let n : ◌≡◌ {A = ℕ} 0 1 = ap first (d.runs 1 (made beside) (made alone) same comes comes refl refl).0 in
    omega (arith, n)

-- the report on line 1 is line 0's in the first, and NOLINE in the second
pub firsts_report_fails : Isolated firsts_report → ⊥
unfolding result_of accepted_result effect order line_for open_order ask_order book_fits lines_fit all_span open_in line_fits member no_twice all_spans owed_fits modes_fit sending_fits receiving_fits mask_of set_of sizes.sizes_fit every ask_step moved timed channels_for stepped_to part_start report_order
firsts_report_fails d =
    let n : ◌≡◌ {A = ℕ} 0 4 = ap (λ (a : Answer). a.number) (d.own 1 (made beside) (made alone) same (call.report 1 1) refl []).answer in
    omega (arith, n)
