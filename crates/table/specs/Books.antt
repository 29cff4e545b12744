-- Rows 6 and 7 of document 01's table as calls on a book. Line 0 has identifier 5 and payload type 98 and is in modem relay, and channel 1 stands as the
-- row says; all else is as in a fresh book. A store of 42,240 octets or more is lent, and an output, whatever they hold.
-- Assumes nothing.
use Rattle.std.specs.Prelude.{◌≡◌, Bool, leb, replicate, Ok, Err}
use Rattle.std.proofs.Math.Path.{ap}
use Rattle.std.proofs.Common.{◌∙◌, arith, le-leb}
use mathlib.Core.List.{List, [], ◌∷◌}
use Prim.Native.Nat.{ℕ, ◌-◌, ◌^◌, ◌≤◌}
use Rattle.std.proofs.Math.ListN.{length}
use Rattle.std.proofs.Math.Seq.{sets, length-sets}
use Rattle.ground.specs.Pick.{pick}
use Rattle.ground.specs.Every.{every}
use Rattle.ground.specs.Answer.{accepted, refused}
use Rattle.ground.specs.declared.Refusal.TheVariants.{FULL, ROOM}
use Rattle.field.specs.Bits.{bits_at}
use Rattle.packet.specs.Acks.{acks_served}
use Rattle.packet.specs.Read.{head_at, number_at, base_at, acks_at, ack_at, payload_of, size_fits}
use Rattle.channel.specs.Sizes as sizes
use Rattle.places.specs.Places.{mask_of, set_of, widest}
use Rattle.sending.specs.Sending.{fresh_sending, sending_fits, heard_base, took_one}
use Rattle.sending.specs.declared.Sending.{Sending}
use Rattle.receiving.specs.Receiving.{fresh_receiving, receiving_fits, arrival_of, stored_at}
use Rattle.receiving.specs.declared.Receiving.{Receiving}
use Rattle.mode.specs.Given.{modem}
use Rattle.mode.specs.Moved.{modes_with}
use Rattle.mode.specs.Fit.{modes_fit}
use Rattle.owed.specs.Owed.{fresh_owed, member, no_twice, all_spans, owed_fits}
use Rattle.line.specs.Fit.{line_fits}
use Rattle.line.specs.Line.{line_with}
use Rattle.book.specs.Resting.{all_span}
use Rattle.book.specs.Book.{fresh_book, line_of, with_line, open_in, lines_fit, book_fits, owner_from}
use Rattle.book.specs.Parts.{part_start, store_octets}
use Rattle.book.specs.declared.Book.{Book}
use Rattle.arriving.specs.Arrive.{arrived_line, arrived_store, news_line}
use Rattle.arriving.specs.Effect.{heard_line, acked_all, stored_line, stored_store}
use Rattle.calls.specs.Call.{Call}
use Rattle.calls.specs.Call as call
use Rattle.calls.specs.Order.{order, arrive_order, take_order, line_for}
use Rattle.calls.specs.Result.{CallResult, result_with, result_of, accepted_result, effect}
use Rattle.calls.proofs.Results.{result_accepted, did_refused}
use Rattle.ground.specs.Refusal.{Verdict}

-- the book, by the two sides of channel 1
abbrev relaying : Sending → Receiving → Book
relaying s r = with_line fresh_book 0 (line_with 1 5 98 (modes_with 1 1 modem modem 0 0 0 0 0) s fresh_sending r fresh_receiving fresh_owed)

-- 6. Channel 1, R = 16,380: number 27 is stored (d = 31), 28 is old
abbrev at16380 : Receiving
at16380 = record { next = 16380; stored = set_of 0; origin = 28; sizes = replicate widest 0 }

abbrev book_six : Book
book_six = relaying fresh_sending at16380

-- a packet on channel 1 with that number, below 256, base 0, and payload 41
abbrev numbered : ℕ → List ℕ
numbered n = 0x05 ∷ 0x62 ∷ 0x40 ∷ n ∷ 0x00 ∷ 0x00 ∷ 0x41 ∷ []

-- 7. h = 0, S = 32: FULL; after base 1 is heard one is taken
abbrev taken32 : Sending
taken32 = record { taken = 32; base = 0; unacked = set_of (2 ^ 32 - 1); origin = 0; sizes = replicate widest 1 }

abbrev book_seven : Book
book_seven = relaying taken32 fresh_receiving

-- a packet on channel 1 without payload and with base 1
abbrev news : List ℕ
news = 0x05 ∷ 0x62 ∷ 0x40 ∷ 0x00 ∷ 0x00 ∷ 0x01 ∷ []

-- a message of one octet is taken for channel 1
abbrev taking : ℕ → Call
taking x = call.taking 0 1 (x ∷ [])

-- where the store is long enough, the other tests decide
by_rest : (v : Verdict) (store : List ℕ) → store_octets ≤ length store → pick (leb store_octets (length store)) v (Err ROOM) ≡ v
by_rest v store long = ap (λ (t : Bool). pick t v (Err ROOM)) (le-leb store_octets (length store) long)

module _ (store out : List ℕ) (long : store_octets ≤ length store) where
  abbrev six : ℕ → CallResult
  six n = result_of (call.arrival (numbered n)) book_six store out

  six_done : (n : ℕ) → six n ≡ accepted_result (call.arrival (numbered n)) book_six store out
  unfolding order arrive_order part_start book_fits lines_fit all_span open_in owner_from line_fits member no_twice all_spans owed_fits modes_fit sending_fits receiving_fits mask_of set_of sizes.sizes_fit every head_at acks_at ack_at acks_served size_fits bits_at
  six_done n = result_accepted (call.arrival (numbered n)) book_six store out (by_rest (Ok tt) store long)

  -- both packets are accepted for line 0
  pub row_6_call_accepted : (n : ℕ) → (six n).answer ≡ accepted (0 ∷ [])
  unfolding accepted_result effect line_for owner_from head_at bits_at
  row_6_call_accepted n = ap (λ (d : CallResult). d.answer) (six_done n)

  -- number 27 is stored, at d = 31: in the side's record, and its octet in the store
  pub row_6_call_stored : ((line_of (six 27).book 0).receiving.one ≡ stored_at 32 at16380 31 1) × ((six 27).store ≡ sets store 8844 (0x41 ∷ []))
  unfolding accepted_result effect line_for owner_from head_at number_at base_at acks_at ack_at payload_of arrived_line arrived_store news_line heard_line acked_all stored_line stored_store arrival_of heard_base mask_of set_of part_start bits_at
  row_6_call_stored = (ap (λ (d : CallResult). (line_of d.book 0).receiving.one) (six_done 27), ap (λ (d : CallResult). d.store) (six_done 27))

  -- number 28 is old: neither changes
  pub row_6_call_old : ((line_of (six 28).book 0).receiving.one ≡ at16380) × ((six 28).store ≡ store)
  unfolding accepted_result effect line_for owner_from head_at number_at base_at acks_at ack_at payload_of arrived_line arrived_store news_line heard_line acked_all stored_line stored_store arrival_of heard_base mask_of set_of part_start bits_at
  row_6_call_old = (ap (λ (d : CallResult). (line_of d.book 0).receiving.one) (six_done 28), ap (λ (d : CallResult). d.store) (six_done 28))

  -- 32 are taken and h is 0: the next is FULL
  pub row_7_call_full : (x : ℕ) → (result_of (taking x) book_seven store out).answer ≡ refused FULL
  unfolding order take_order part_start book_fits lines_fit all_span open_in line_fits member no_twice all_spans owed_fits modes_fit sending_fits receiving_fits mask_of set_of sizes.sizes_fit every
  row_7_call_full x = ap (λ (d : CallResult). d.answer) (did_refused (taking x) book_seven store out (by_rest (Err FULL) store long))

  -- the packet with base 1 arrives
  abbrev heard : CallResult
  heard = result_of (call.arrival news) book_seven store out

  heard_is : heard ≡ result_with (accepted (0 ∷ [])) (relaying (heard_base 32 taken32 1) fresh_receiving) store out
  unfolding order arrive_order part_start book_fits lines_fit all_span open_in owner_from line_fits member no_twice all_spans owed_fits modes_fit sending_fits receiving_fits mask_of set_of sizes.sizes_fit every head_at acks_at ack_at acks_served size_fits bits_at accepted_result effect line_for number_at base_at payload_of arrived_line arrived_store news_line heard_line acked_all heard_base
  heard_is = result_accepted (call.arrival news) book_seven store out (by_rest (Ok tt) store long)

  -- then a message is taken
  abbrev one : ℕ → CallResult
  one x = result_of (taking x) heard.book heard.store out

  abbrev side : Sending
  side = heard_base 32 taken32 1

  one_is : (x : ℕ) → one x ≡ result_with (accepted (32 ∷ [])) (relaying (took_one 32 side 1) fresh_receiving) (sets store 0 (x ∷ [])) out
  unfolding order take_order part_start book_fits lines_fit all_span open_in line_fits member no_twice all_spans owed_fits modes_fit sending_fits receiving_fits mask_of set_of sizes.sizes_fit every accepted_result effect line_for heard_base took_one
  one_is x =
      ap (λ (d : CallResult). result_of (taking x) d.book d.store out) heard_is
      ∙ result_accepted (taking x) (relaying side fresh_receiving) store out (by_rest (Ok tt) store long)

  -- base 1 is heard, and one is taken: number 32
  pub row_7_call_taken : (x : ℕ) → (heard.answer ≡ accepted (0 ∷ [])) × ((one x).answer ≡ accepted (32 ∷ []))
  row_7_call_taken x = (ap (λ (d : CallResult). d.answer) heard_is, ap (λ (d : CallResult). d.answer) (one_is x))

  -- and no other: then it is FULL again
  pub row_7_call_one : (x y : ℕ) → (result_of (taking y) (one x).book (one x).store out).answer ≡ refused FULL
  unfolding order take_order part_start book_fits lines_fit all_span open_in line_fits member no_twice all_spans owed_fits modes_fit sending_fits receiving_fits mask_of set_of sizes.sizes_fit every heard_base took_one
  row_7_call_one x y =
      let s : List ℕ = sets store 0 (x ∷ []) in
      let l : store_octets ≤ length s = omega (arith, length-sets store 0 (x ∷ [])) in
      ap (λ (d : CallResult). (result_of (taking y) d.book d.store out).answer) (one_is x)
      ∙ ap (λ (d : CallResult). d.answer) (did_refused (taking y) (relaying (took_one 32 side 1) fresh_receiving) s out (by_rest (Err FULL) s l))
