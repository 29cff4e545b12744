-- Document 01's 'Table to prove', row by row, as theorems about the definitions that the code is proved to meet.
-- Each holds by computation: the definition, run on the row's numbers, gives the row's answer. Rows 6 and 7, which speak of one side of a channel, stand
-- here for that side; as calls on a book they stand in Books.
-- Assumes nothing.
use Rattle.std.specs.Prelude.{◌≡◌, true, false, List, [], ◌∷◌, ℕ, ◌+◌, ◌-◌, ◌*◌, ◌≤◌, replicate, Ok, Err}
use Rattle.std.proofs.Math.Path.{refl}
use Rattle.std.proofs.Common.{ap, arith}
use Rattle.ground.specs.Answer.{accepted, refused}
use Rattle.ground.specs.declared.Refusal.TheVariants.{RANGE, FULL, TAKEN}
use Rattle.ground.specs.Refusal.{verdict}
use Rattle.field.specs.Bits.{bits_at}
use Rattle.packet.specs.Acks.{acks_served}
use Rattle.packet.specs.Read.{head_read, acks_read, head_at, number_at, base_at, acks_at, ack_at, head_says, acks_says, payload_of}
use Rattle.packet.specs.Write.{packet_octets}
use Rattle.connect.specs.Spans.{size_of, sizes_fit}
use Rattle.connect.specs.Read.{connect_read, connect_at, way_at}
use Rattle.connect.specs.Read as connect
use Rattle.connect.specs.Write.{connect_octets, size_fields}
use Rattle.connect.specs.declared.Connect.{Connect}
use Rattle.slip.specs.Slip.{slip_read, slip_at, slip_fits, form_fits, slip_octets}
use Rattle.slip.specs.Slip as slip
use Rattle.channel.specs.Channel.{window_of}
use Rattle.receiving.specs.Receiving.{arrival_of, receiving_fits}
use Rattle.sending.specs.Sending.{take_tests, heard_base, took_one, sending_fits}
use Rattle.receiving.specs.declared.Receiving.{Receiving}
use Rattle.receiving.specs.declared.Arrival.TheVariants.{Stored, Old}
use Rattle.sending.specs.declared.Sending.{Sending}
use Rattle.mode.specs.declared.Modes.{Modes}
use Rattle.mode.specs.Given.{unknown, audio, voiceband}
use Rattle.mode.specs.Moved.{opened_modes, timed, moved, trying}
use Rattle.mode.specs.Request.{ask_step}
use Rattle.mode.specs.Recovery.{due, ticked_modes, ticked_answer, tick_step}
use Rattle.mode.specs.Acts.{ask, tick, Outcome, outcome, after}
use Rattle.mode.proofs.Recovering.{recovery_begins, not_yet}
use Rattle.places.specs.Places.{mask_of, set_of, bit_of}
use Rattle.places.specs.declared.Places.{Places}
use Rattle.ground.specs.Every.{every}
use Rattle.channel.specs.Sizes as sizes
use Rattle.mode.specs.Fit.{modes_fit}
use Rattle.owed.specs.Owed.{member, no_twice, all_spans, owed_fits}
use Rattle.line.specs.Fit.{line_fits}
use Rattle.line.specs.declared.Settings.{Settings}
use Rattle.book.specs.Resting.{all_span}
use Rattle.book.specs.Book.{fresh_book, open_in, lines_fit, book_fits}
use Rattle.book.specs.Closing.{closed_at}
use Rattle.book.specs.declared.Book.{Book}
use Rattle.calls.specs.Call as call
use Rattle.calls.specs.Order.{open_order, close_order, order, line_for}
use Rattle.calls.specs.Result.{result_of, accepted_result, effect, slip_of}

-- 1. Identifier 5, type 98, channel 1, number 0, base 0, payload 41
abbrev packet_one : List ℕ
packet_one = 0x05 ∷ 0x62 ∷ 0x40 ∷ 0x00 ∷ 0x00 ∷ 0x00 ∷ 0x41 ∷ []

pub row_1_written : packet_octets (record { identifier = 5; kind = 98; channel = 1; number = 0; base = 0 }) (record { count = 0; one = 0; two = 0; three = 0 }) (0x41 ∷ []) ≡ packet_one
unfolding packet_octets
row_1_written = refl

pub row_1_head : head_says (head_read packet_one) ≡ accepted (5 ∷ 98 ∷ 1 ∷ 0 ∷ 0 ∷ [])
unfolding head_at number_at base_at bits_at
row_1_head = refl

pub row_1_acks : acks_says (acks_read packet_one) ≡ accepted (0 ∷ 0 ∷ 0 ∷ 0 ∷ [])
unfolding acks_at ack_at acks_served bits_at
row_1_acks = refl

pub row_1_payload : payload_of packet_one ≡ 0x41 ∷ []
unfolding payload_of bits_at
row_1_payload = refl

-- 2. Channel 2, number 3, base 7, acknowledging 16,383 on 1 and 0 on 2, payload 01 02
abbrev packet_two : List ℕ
packet_two = 0x05 ∷ 0x62 ∷ 0x80 ∷ 0x03 ∷ 0x80 ∷ 0x07 ∷ 0x7f ∷ 0xff ∷ 0x80 ∷ 0x00 ∷ 0x01 ∷ 0x02 ∷ []

pub row_2_written : packet_octets (record { identifier = 5; kind = 98; channel = 2; number = 3; base = 7 }) (record { count = 2; one = 1 * 16384 + 16383; two = 2 * 16384 + 0; three = 0 }) (0x01 ∷ 0x02 ∷ []) ≡ packet_two
unfolding packet_octets
row_2_written = refl

pub row_2_head : head_says (head_read packet_two) ≡ accepted (5 ∷ 98 ∷ 2 ∷ 3 ∷ 7 ∷ [])
unfolding head_at number_at base_at bits_at
row_2_head = refl

pub row_2_acks : acks_says (acks_read packet_two) ≡ accepted (2 ∷ (1 * 16384 + 16383) ∷ (2 * 16384 + 0) ∷ 0 ∷ [])
unfolding acks_at ack_at acks_served bits_at
row_2_acks = refl

pub row_2_payload : payload_of packet_two ≡ 0x01 ∷ 0x02 ∷ []
unfolding payload_of bits_at
row_2_payload = refl

-- 3. CONNECT V.34, both directions, V.42 bis, LAPM, 33,600 and 31,200 bit/s, no DLCI, I_FRAME only, 1,024, string 32
abbrev v34 : ℕ → Connect
v34 string = record {
  modulation = 4;
  direction = 3;
  compression = 1;
  correction = 1;
  transmit = record { rate = 33600; dictionary = 1024; string = string; history = 0 };
  receive = record { rate = 31200; dictionary = 0; string = 0; history = 0 };
  dlci = false;
  octet = false;
  rawbit = false;
  frame = true;
  charstat = false;
  chardyn = false;
}

abbrev v34_octets : ℕ → List ℕ
v34_octets string = 0x13 ∷ 0x11 ∷ 0x83 ∷ 0x40 ∷ 0x79 ∷ 0xe0 ∷ 0x10 ∷ 0x00 ∷ 0x04 ∷ 0x00 ∷ 0x00 ∷ 0x00 ∷ string ∷ 0x00 ∷ []

-- its values in the order of Table 25
abbrev v34_values : ℕ → List ℕ
v34_values string = 4 ∷ 3 ∷ 1 ∷ 1 ∷ 33600 ∷ 31200 ∷ 0 ∷ 0 ∷ 0 ∷ 1 ∷ 0 ∷ 0 ∷ 1024 ∷ 0 ∷ string ∷ 0 ∷ 0 ∷ 0 ∷ []

pub row_3_written : connect_octets (v34 32) ≡ v34_octets 32
unfolding connect_octets size_fields
row_3_written = refl

pub row_3_read : connect.answer_of (connect_read (v34_octets 32)) ≡ accepted (v34_values 32)
unfolding connect_at way_at sizes_fit size_of bits_at
row_3_read = refl

-- 4. The same with string 5: RANGE; 6 is read
pub row_4_refused : connect.answer_of (connect_read (v34_octets 5)) ≡ refused RANGE
unfolding connect_at way_at sizes_fit size_of bits_at
row_4_refused = refl

pub row_4_read : connect.answer_of (connect_read (v34_octets 6)) ≡ accepted (v34_values 6)
unfolding connect_at way_at sizes_fit size_of bits_at
row_4_read = refl

-- 5. Slip for identifier 5, type 98, counts 300 and 2, asked
abbrev slip_five : List ℕ
slip_five = 0x10 ∷ 0xb8 ∷ 0x80 ∷ 0x00 ∷ 0x4b ∷ 0x00 ∷ 0x00 ∷ 0x00 ∷ 0x80 ∷ 0x00 ∷ 0x00 ∷ 0x00 ∷ []

pub row_5_written : slip_octets (record { identifier = 5; kind = 98; count1 = 300; count2 = 2; reason = 0 }) ≡ slip_five
unfolding slip_octets
row_5_written = refl

pub row_5_read : slip.answer_of (slip_read slip_five) ≡ accepted (5 ∷ 98 ∷ 300 ∷ 2 ∷ 0 ∷ [])
unfolding slip_at slip_fits form_fits bits_at
row_5_read = refl

-- 6. Channel 1, R = 16,380: number 27 is stored (d = 31), its place being empty; 28 is old. Whatever else the side holds
module _ (set : Places) (origin : ℕ) (sizes : List ℕ) where
  abbrev at16380 : Receiving
  at16380 = record { next = 16380; stored = set; origin = origin; sizes = sizes }

  pub row_6_stored : bit_of (mask_of set) 31 ≡ false → arrival_of (window_of 1) at16380 27 ≡ Stored 31
  unfolding arrival_of
  row_6_stored e = rw e

  pub row_6_old : arrival_of (window_of 1) at16380 28 ≡ Old
  unfolding arrival_of
  row_6_old = refl

-- 7. h = 0, S = 32: FULL; after base 1 is heard one is taken. Whatever else the side holds
module _ (set : Places) (origin : ℕ) (sizes : List ℕ) where
  abbrev taken32 : Sending
  taken32 = record { taken = 32; base = 0; unacked = set; origin = origin; sizes = sizes }

  pub row_7_full : verdict (take_tests (window_of 1) taken32) ≡ Err FULL
  row_7_full = refl

  pub row_7_taken : verdict (take_tests (window_of 1) (heard_base (window_of 1) taken32 1)) ≡ Ok tt
  unfolding heard_base
  row_7_taken = refl

  -- "one": then it is FULL again
  pub row_7_one : (size : ℕ) → verdict (take_tests (window_of 1) (took_one (window_of 1) (heard_base (window_of 1) taken32 1) size)) ≡ Err FULL
  unfolding heard_base took_one
  row_7_one size = refl

-- 8. Difference of 1,000 ms: no recovery; 1,001: try 1. Here of a line opened at 0 that asked for v at 5
abbrev differs : Modes
differs = after (opened_modes true true 0) (ask voiceband 5)

pub row_8_no_recovery : (outcome differs (tick 1005)).said ≡ accepted (0 ∷ [])
unfolding ask_step moved timed tick_step ticked_answer due
row_8_no_recovery = refl

pub row_8_try_one : (outcome differs (tick 1006)).said ≡ accepted (1 ∷ [])
unfolding ask_step moved timed tick_step ticked_answer due
row_8_try_one = refl

-- then S is a and the remote mode i
pub row_8_recovers : ((after differs (tick 1006)).local ≡ audio) × ((after differs (tick 1006)).remote ≡ unknown)
unfolding ask_step moved timed trying tick_step ticked_modes due
row_8_recovers = (refl, refl)

-- and of every line outside recovery whose modes differ, at every time
module _ (l : Modes) (time : ℕ) (t : l.last ≤ time) (none : l.tries ≡ 0) (d : l.local ≡ l.remote → ⊥) where
  pub row_8_never_at_1000 : time - l.since ≡ 1000 → (outcome l (tick time)).said ≡ accepted (0 ∷ [])
  row_8_never_at_1000 w = ap (λ (o : Outcome). o.said) (not_yet l time t none (omega arith))

  pub row_8_always_at_1001 : time - l.since ≡ 1001 → (outcome l (tick time)).said ≡ accepted (1 ∷ [])
  row_8_always_at_1001 w = ap (λ (o : Outcome). o.said) (recovery_begins l time t none d (omega arith))

-- 9. Identifier 9 closed, then 15 others closed: TAKEN; one more: free. Each is opened on line 0 of a fresh book and closed again
abbrev named : ℕ → Settings
named identifier = record { identifier = identifier; kind = 98; vbd = true; relay = true }

unfoldable pub closed_ones : Book → List ℕ → Book
closed_ones b [] = b
closed_ones b (x ∷ xs) = closed_ones (result_of (call.closing 0) (result_of (call.opening 0 (named x) 0) b [] []).book [] (replicate 12 0)).book xs

abbrev others : List ℕ
others = 10 ∷ 11 ∷ 12 ∷ 13 ∷ 14 ∷ 15 ∷ 16 ∷ 17 ∷ 18 ∷ 19 ∷ 20 ∷ 21 ∷ 22 ∷ 23 ∷ 24 ∷ []

pub row_9_taken : (result_of (call.opening 0 (named 9) 0) (closed_ones fresh_book (9 ∷ others)) [] []).answer ≡ refused TAKEN
unfolding closed_ones result_of accepted_result effect order line_for open_order close_order book_fits lines_fit all_span open_in line_fits closed_at member no_twice all_spans owed_fits modes_fit sending_fits receiving_fits mask_of set_of sizes.sizes_fit every slip_of slip_octets
row_9_taken = refl

pub row_9_free : (result_of (call.opening 0 (named 9) 0) (closed_ones fresh_book (9 ∷ 25 ∷ others)) [] []).answer ≡ accepted []
unfolding closed_ones result_of accepted_result effect order line_for open_order close_order book_fits lines_fit all_span open_in line_fits closed_at member no_twice all_spans owed_fits modes_fit sending_fits receiving_fits mask_of set_of sizes.sizes_fit every slip_of slip_octets
row_9_free = refl
