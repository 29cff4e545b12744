-- A build that refuses by another number, one that asks in another order, and one whose refusal drops a message do not meet demand 1; nor do vandals,
-- a build that stores into another line than it names, or one that leaves a repeat unacknowledged, meet demand 2.
-- Assumes nothing.
use Prim.Native.Nat.{◌+◌, ℕ}
use mathlib.Core.Bool.{true}
use mathlib.Core.List.{List, [], ◌∷◌}
use mathlib.Core.Path.{◌∙◌, ◌≡◌, ap, refl, sym}
use native.Mathlib.Omega.{arith}
use lib.Dec.{eqb, lit<}
use lib.ListN.{length}
use Rattle.std.specs.Prelude.{Err}
use Rattle.arriving.specs.Arrive.{arrived_line, news_line}
use Rattle.arriving.specs.Effect.{acked_all, heard_line, stored_line}
use Rattle.book.proofs.Fresh.{fresh_fits}
use Rattle.book.proofs.OtherLines.{line_same}
use Rattle.book.specs.Book.{book_fits, fresh_book, line_of, lines_fit, open_in, owner_from, with_line}
use Rattle.book.specs.Parts.{part_start}
use Rattle.book.specs.Resting.{all_span}
use Rattle.book.specs.declared.Book.{Book}
use Rattle.calls.proofs.Results.{did_refused}
use Rattle.calls.specs.Call.{Call}
use Rattle.calls.specs.Order.{arrive_order, ask_order, close_order, line_for, open_order, order}
use Rattle.calls.specs.Result.{CallResult, accepted_result, effect, result_of, result_with}
use Rattle.field.specs.Bits.{bits_at}
use Rattle.ground.specs.Answer.{refused}
use Rattle.ground.specs.Every.{every}
use Rattle.ground.specs.Pick.{pick}
use Rattle.ground.specs.Refusal.{verdict}
use Rattle.ground.specs.declared.Refusal.TheVariants.{NOLINE, RANGE, ROOM}
use Rattle.line.specs.Fit.{line_fits}
use Rattle.line.specs.Mode.{stepped_to}
use Rattle.line.specs.declared.Line.{Line}
use Rattle.mode.specs.Acts.{ask}
use Rattle.mode.specs.Fit.{modes_fit}
use Rattle.mode.specs.Given.{modem}
use Rattle.mode.specs.Moved.{channels_for, moved, timed}
use Rattle.mode.specs.Request.{ask_step}
use Rattle.owed.specs.Owed.{all_spans, entered, enters, member, no_twice, owed_fits}
use Rattle.packet.specs.Acks.{acks_served}
use Rattle.packet.specs.Read.{ack_at, acks_at, base_at, head_at, number_at, payload_of}
use Rattle.places.specs.Places.{mask_of, set_of}
use Rattle.promise.specs.Build.{Does}
use Rattle.promise.specs.Demand1.{Demand1}
use Rattle.promise.specs.Demand2.{Demand2, May}
use Rattle.promise.specs.Run.{Gateway, Relays}
use Rattle.receiving.specs.Receiving.{arrival_of, receiving_fits, stored_at}
use Rattle.refuted.proofs.IdlePackets.{made, made_passes, named}
use Rattle.refuted.specs.Quick.{silent_on_repeats}
use Rattle.refuted.specs.Careless.{dropped, dropping, drops, misplacing, renumbered, reordered, vandals}
use Rattle.sending.specs.Sending.{heard_base, sending_fits}
use Rattle.calls.specs.Call as call
use Rattle.channel.specs.Sizes as sizes
use Rattle.packet.specs.Read as packet

-- a line number over 3 is refused RANGE, of a book that BOOK lets pass
past_range : (b : Book) → book_fits b ≡ true → (store space : ℕ) → verdict (order (call.closing 4) b store space) ≡ Err RANGE
unfolding order close_order
past_range b fits store space = rw fits refl

pub renumbered_fails : (f : ℕ → ℕ) → (f 13 ≡ 13 → ⊥) → Demand1 (renumbered f) → ⊥
renumbered_fails f other d =
    let e = past_range fresh_book fresh_fits 0 0 in
    let n : f (result_of (call.closing 4) fresh_book [] []).answer.number ≡ 13 = ap (λ (x : CallResult). x.answer.number) ((d.calls (call.closing 4) fresh_book [] []).refuses RANGE e) in
    other (ap (λ (x : CallResult). f x.answer.number) (sym (did_refused (call.closing 4) fresh_book [] [] e)) ∙ n)

-- a line that is not open, and an output too short: NOLINE comes first
pub reordered_fails : Demand1 reordered → ⊥
unfolding order close_order
reordered_fails d =
    let first : verdict (order (call.closing 0) fresh_book 0 0) ≡ Err NOLINE = rw fresh_fits refl in
    let theirs : reordered.does (call.closing 0) fresh_book [] [] ≡ result_with (refused ROOM) fresh_book [] [] = rw fresh_fits refl in
    let m : ◌≡◌ {A = ℕ} 11 4 = ap (λ (x : CallResult). x.answer.number) (sym theirs ∙ (d.calls (call.closing 0) fresh_book [] []).refuses NOLINE first) in
    omega (arith, m)

-- a gateway that holds a message on line 0
abbrev holding : Gateway
holding = made (call.opening 0 (named 5) 0 ∷ call.mode 0 (ask modem 0) ∷ call.taking 0 1 (7 ∷ []) ∷ [])

pub dropping_fails : Demand1 dropping → ⊥
dropping_fails d =
    let b = holding.book in
    let k = made_passes (call.opening 0 (named 5) 0 ∷ call.mode 0 (ask modem 0) ∷ call.taking 0 1 (7 ∷ []) ∷ []) in
    let e = past_range b k.0 (length holding.store) 0 in
    let gone : (drops (call.closing 4) b holding.store []).book ≡ with_line b 0 (dropped (line_of b 0))
    = ap (λ (x : CallResult). (pick (eqb x.answer.number 0) x (result_with x.answer (with_line b 0 (dropped (line_of b 0))) holding.store [])).book) (did_refused (call.closing 4) b holding.store [] e) in
    let same = ap (λ (x : CallResult). x.book) ((d.calls (call.closing 4) b holding.store []).refuses RANGE e) in
    let n : (line_of b 0).sending.one.base + 1 ≡ (line_of b 0).sending.one.base
    = ap (λ (l : Line). l.sending.one.base) (sym (line_same b k.1 0 (lit< tt) (dropped (line_of b 0)))) ∙ ap (λ (x : Book). (line_of x 0).sending.one.base) (sym gone ∙ same) in
    omega (arith, n)

-- line 1 is opened, and a request brings it into modem relay; line 0 stays closed
abbrev second : List Call
second = call.opening 1 (named 5) 0 ∷ call.mode 1 (ask modem 0) ∷ []

-- a packet for it with one octet on channel 1, number 0
abbrev carrying : List ℕ
carrying = 5 ∷ 98 ∷ 64 ∷ 0 ∷ 0 ∷ 0 ∷ 7 ∷ []

may_arrive : May (made second) (call.arrival carrying) []
unfolding result_of accepted_result effect order line_for open_order ask_order book_fits lines_fit all_span open_in line_fits member no_twice all_spans owed_fits modes_fit sending_fits receiving_fits mask_of set_of sizes.sizes_fit every ask_step moved timed channels_for stepped_to part_start arrive_order owner_from head_at number_at base_at acks_at ack_at acks_served payload_of packet.size_fits bits_at
may_arrive = refl

-- a packet that may be let in is not
pub vandals_fail : (w : Does) → Demand2 (vandals w) → ⊥
vandals_fail w d =
    let n : ◌≡◌ {A = ℕ} 18 0 = ap (λ (x : CallResult). x.answer.number) (d.lets_in (made second) (made_passes second).1 carrying [] may_arrive) in
    omega (arith, n)

-- a closed line is no line in modem relay, and yet one number is owed there afterwards
pub misplacing_fails : Demand2 misplacing → ⊥
unfolding result_of accepted_result effect order line_for open_order ask_order book_fits lines_fit all_span open_in line_fits member no_twice all_spans owed_fits modes_fit sending_fits receiving_fits mask_of set_of sizes.sizes_fit every ask_step moved timed channels_for stepped_to part_start arrive_order owner_from head_at number_at base_at acks_at ack_at acks_served payload_of packet.size_fits bits_at arrived_line news_line heard_line heard_base acked_all stored_line arrival_of stored_at entered enters
misplacing_fails d =
    let away : Relays (made second) 0 → ⊥ = λ e. let n : ◌≡◌ {A = ℕ} 1 3 = e in omega (arith, n) in
    let n : ◌≡◌ {A = ℕ} 1 0 = ap (λ (l : Line). l.owed.count) (d.outside (made second) (made_passes second).1 carrying [] 0 away).0 in
    omega (arith, n)

-- a repeat for that line: one octet on channel 1, its number the last before 0
abbrev repeated : List ℕ
repeated = 5 ∷ 98 ∷ 127 ∷ 255 ∷ 0 ∷ 0 ∷ 7 ∷ []

-- one number is owed where it is let in, and none is by the build
pub silent_on_repeats_fails : Demand2 silent_on_repeats → ⊥
unfolding result_of accepted_result effect order line_for open_order ask_order book_fits lines_fit all_span open_in line_fits member no_twice all_spans owed_fits modes_fit sending_fits receiving_fits mask_of set_of sizes.sizes_fit every ask_step moved timed channels_for stepped_to part_start arrive_order owner_from head_at number_at base_at acks_at ack_at acks_served payload_of packet.size_fits bits_at arrived_line news_line heard_line heard_base acked_all stored_line arrival_of stored_at entered enters
silent_on_repeats_fails d =
    let n : ◌≡◌ {A = ℕ} 0 1 = ap (λ (x : CallResult). (line_of x.book 1).owed.count) (d.lets_in (made second) (made_passes second).1 repeated [] refl) in
    omega (arith, n)
