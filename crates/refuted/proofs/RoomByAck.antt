-- The build that frees send room on acknowledgement alone does not meet demand 3: the far store overruns, and a message is lost. The build is taken
-- at its word: that its calls are accepted is what demand 3 says of it, and only where the room is, and where the message, is computed.
-- Assumes nothing.
use Rattle.line.specs.Line.{closed_line}
use Rattle.writing.specs.Send.{longest_packet}
use Prim.Native.Nat.{ℕ, ◌+◌, ◌-◌, ◌≤◌, ◌<◌}
use mathlib.Core.Path.{◌≡◌, refl, sym, ap}
use mathlib.Core.Bool.{true}
use mathlib.Core.List.Memᴰ
use mathlib.Core.List.{List, [], ◌∷◌}
use mathlib.Core.Logic.{◌⊎◌, ⊎_elim}
use native.Mathlib.Omega.{arith}
use lib.Dec.{lit≤, lit<}
use lib.ListN.{length, replicate, get_or, length-append}
use Rattle.ground.specs.Every.{every}
use Rattle.field.specs.Bits.{bits_at}
use Rattle.packet.specs.Acks.{acks_served}
use Rattle.packet.specs.Read.{head_at, number_at, base_at, acks_at, ack_at, payload_of}
use Rattle.packet.specs.Read as reading
use Rattle.packet.specs.Write.{packet_octets}
use Rattle.places.specs.Places.{mask_of, set_of, set_below, lowest, rank_of}
use Rattle.sending.specs.Sending.{took_one, heard_base, acked_by, held_of, sending_fits}
use Rattle.receiving.specs.Receiving.{arrival_of, stored_at, receiving_fits}
use Rattle.channel.specs.Sizes as sizes
use Rattle.owed.specs.Owed.{member, enters, entered, first_three, without_three, no_twice, all_spans, owed_fits}
use Rattle.mode.specs.Fit.{modes_fit}
use Rattle.mode.specs.Moved.{channels_for, timed, moved}
use Rattle.mode.specs.Request.{ask_step}
use Rattle.line.specs.Fit.{line_fits}
use Rattle.line.specs.Mode.{stepped_to}
use Rattle.book.specs.Parts.{part_start}
use Rattle.writing.specs.Write.{acks_for, wrote_line, base_for}
use Rattle.writing.specs.Write as writes
use Rattle.writing.specs.Send.{held_packet}
use Rattle.arriving.specs.Effect.{heard_line, acked_line, acked_all, stored_line, stored_store}
use Rattle.arriving.specs.Arrive.{news_line, arrived_line, arrived_store}
use Rattle.book.specs.Resting.{all_span}
use Rattle.book.specs.Book.{open_in, lines_fit, book_fits, owner_from}
use Rattle.calls.specs.Call.{Call}
use Rattle.calls.specs.Call as call
use Rattle.calls.specs.Order.{open_order, ask_order, take_order, send_order, empty_order, report_order, arrive_order, order, line_for}
use Rattle.calls.specs.Result.{result_of, accepted_result, effect}
use Rattle.promise.specs.Build.{Does}
use Rattle.promise.specs.Past.{Mark, Packet, Past, just_opened, took_past, wrote_past, heard_past}
use Rattle.promise.specs.Past as marks
use Rattle.promise.specs.Run.{Gateway, bound, does, after, ranked_mark, base_mark, noted_held, noted_empty, none, also, Recent, Honest, Adds, took, sent, wrote, heard, calls, Run}
use Rattle.promise.specs.Promise.{sends_by, receives_by, InRelay, report_by}
use Rattle.promise.specs.Demand3.{Serves, Served, Demand3}
use Rattle.promise.proofs.Demand3.{turned_run}
use Rattle.flow.specs.Flow.{Message}
use Rattle.refuted.specs.Idle.{arriving}
use Rattle.refuted.specs.Quick.{frees, frees_on_ack}
use Rattle.refuted.proofs.IdleRuns.{inside, begun, run}
use Rattle.refuted.proofs.Twins.{goes_on}

abbrev f : Does
f = arriving frees

abbrev start : Gateway
start = inside result_of result_of frees

abbrev taking : ℕ → Call
taking x = call.taking 0 2 (x ∷ [])

abbrev space : List ℕ
space = replicate (longest_packet closed_line) 0

-- so few messages that each of them is recent
recent : (taken : ℕ → List Message) (m : Mark) → length (taken m.channel) ≤ 9 → Recent bound taken m
recent taken m l = omega (arith, l)

-- two gateways of the build, both in modem relay
record Both (g : Gateway) (p : Past) (h : Gateway) (q : Past) : Type 0 where
  ran : Run f bound 0 0 5 98 g p h q
  mine : InRelay g 0 p
  yours : InRelay h 0 q

turned : {g h : Gateway} {p q : Past} → Both g p h q → Both h q g p
turned b = record { ran = turned_run b.ran; mine = b.yours; yours = b.mine }

begins : Both start just_opened start just_opened
unfolding result_of accepted_result effect order line_for open_order ask_order book_fits lines_fit all_span open_in line_fits member no_twice all_spans owed_fits modes_fit sending_fits receiving_fits mask_of set_of sizes.sizes_fit every ask_step moved timed channels_for stepped_to take_order took_one part_start send_order held_packet held_of rank_of lowest set_below acks_for first_three base_for wrote_line packet_octets without_three arrive_order owner_from head_at number_at base_at acks_at ack_at acks_served payload_of reading.size_fits bits_at arrived_line news_line heard_line heard_base acked_all acked_line acked_by stored_line arrival_of stored_at entered enters arrived_store stored_store empty_order writes.empty_packet report_order
begins = record { ran = run f (begun result_of result_of frees); mine = (refl, refl); yours = (refl, refl) }

module _ (d : Demand3 frees_on_ack) {g h : Gateway} {p q : Past} (b : Both g p h q) where
  served : Served f bound 0 0 5 98 g p h q
  served = d.served b.ran b.mine

  -- a call that is served
  goes : (c : Call) (out : List ℕ) {p' : Past} → p'.opened ≡ true → Serves f g 0 c out → Adds f bound 0 g p q out c p' → Both (after f g c out) p' h q
  goes c out o s a = record { ran = goes_on b.ran (calls b.mine.0 c out s.opened (λ _. s.inside) a); mine = (o, s.inside); yours = b.yours }

  S-is : (sends_by g 0 p 2).S ≡ length (p.taken 2)
  S-is = sym ((d.promised b.ran).there 2 refl).counted

  takes : (x : ℕ) → length (p.taken 2) - (sends_by g 0 p 2).h < 8 → length (p.taken 2) < 9 → Both (after f g (taking x) []) (took_past p 2 (x ∷ [])) h q
  takes x room few =
      let s : Serves f g 0 (taking x) [] = served.takes 2 refl (x ∷ []) (lit≤ tt) (lit≤ tt) (omega (arith, S-is, few)) (omega (arith, S-is, room)) [] in
      goes (taking x) [] b.mine.0 s (took 2 (x ∷ []) s.accepted)

  sends : (rank : ℕ) → rank < report_by f g 0 2 → Both (after f g (call.sending 0 2 rank) space) (wrote_past p (noted_held g p 0 2 rank (does f g (call.sending 0 2 rank) space))) h q
  sends rank l =
      let s : Serves f g 0 (call.sending 0 2 rank) space = served.sends 2 refl rank l space (lit≤ tt) in
      goes (call.sending 0 2 rank) space b.mine.0 s (sent 2 rank s.accepted)

  acks : Both (after f g (call.empty 0 0) space) (wrote_past p (noted_empty g p 0 0 (does f g (call.empty 0 0) space))) h q
  acks =
      let s : Serves f g 0 (call.empty 0 0) space = served.empties 0 (lit≤ tt) space (lit≤ tt) in
      goes (call.empty 0 0) space b.mine.0 s (wrote 0 s.accepted)

  hears : (k : Packet) → Honest bound p q k.octets k → Both (after f g (call.arrival k.octets) []) (heard_past p k) h q
  hears k t =
      let s = served.arrives k.octets k t [] in
      goes (call.arrival k.octets) [] b.mine.0 s.1 (heard k.octets k s.0 b.mine.1 t)

  -- a message that waits is held here or stored there
  has : (n : ℕ) → length (q.handed 2) ≤ n → n < length (p.taken 2)
      → ((sends_by g 0 p 2).held n ≡ get_or (p.taken 2) n []) ⊎ ((receives_by h 0 q 2).stored n ≡ get_or (p.taken 2) n [])
  has n l k = let c = (d.promised b.ran).there 2 refl in (c.held n (omega (arith, c.next, l)) (omega (arith, c.counted, k))).1

-- messages are taken on channel 2, each of one octet
abbrev filled : Gateway → List ℕ → Gateway
filled g [] = g
filled g (x ∷ xs) = filled (after f g (taking x) []) xs

abbrev tells : Past → List ℕ → Past
tells p [] = p
tells p (x ∷ xs) = tells (took_past p 2 (x ∷ [])) xs

fills : Demand3 frees_on_ack → (xs : List ℕ) {g h : Gateway} {p q : Past} → Both g p h q → length (p.taken 2) + length xs ≤ 8 → Both (filled g xs) (tells p xs) h q
fills d [] b l = b
fills d (x ∷ xs) {p = p} b l = fills d xs (takes d b x (omega (arith, l)) (omega (arith, l))) (omega (arith, l, length-append (p.taken 2) ((x ∷ []) ∷ [])))

-- eight are taken: the window is full
abbrev eight : List ℕ
eight = 1 ∷ 2 ∷ 3 ∷ 4 ∷ 5 ∷ 6 ∷ 7 ∷ 8 ∷ []

abbrev full : Gateway
full = filled start eight

abbrev full_past : Past
full_past = tells just_opened eight

-- the first is written, arrives, and its acknowledgement comes back: its slot is free
abbrev one : Packet
one = noted_held full full_past 0 2 0 (does f full (call.sending 0 2 0) space)

abbrev got : Gateway
got = after f start (call.arrival one.octets) []

abbrev got_past : Past
got_past = heard_past just_opened one

abbrev ack : Packet
ack = noted_empty got got_past 0 0 (does f got (call.empty 0 0) space)

abbrev answered : Gateway
answered = after f got (call.empty 0 0) space

abbrev answered_past : Past
answered_past = wrote_past got_past ack

abbrev freer : Gateway
freer = after f (after f full (call.sending 0 2 0) space) (call.arrival ack.octets) []

abbrev freer_past : Past
freer_past = heard_past (wrote_past full_past one) ack

reports : 0 < report_by f full 0 2
unfolding result_of accepted_result effect order line_for open_order ask_order book_fits lines_fit all_span open_in line_fits member no_twice all_spans owed_fits modes_fit sending_fits receiving_fits mask_of set_of sizes.sizes_fit every ask_step moved timed channels_for stepped_to take_order took_one part_start send_order held_packet held_of rank_of lowest set_below acks_for first_three base_for wrote_line packet_octets without_three arrive_order owner_from head_at number_at base_at acks_at ack_at acks_served payload_of reading.size_fits bits_at arrived_line news_line heard_line heard_base acked_all acked_line acked_by stored_line arrival_of stored_at entered enters arrived_store stored_store empty_order writes.empty_packet report_order
reports = lit< tt

one_honest : Honest bound just_opened (wrote_past full_past one) one.octets one
one_honest = record { written = Memᴰ.head refl; same = refl; carries = also (recent full_past.taken (ranked_mark full 0 2 0) (lit≤ tt)) none; names = also (recent just_opened.taken (base_mark full 0 2) (lit≤ tt)) none; acks = none }

ack_honest : Honest bound (wrote_past full_past one) answered_past ack.octets ack
unfolding marks.there marks.renewed marks.enter marks.enter_all
ack_honest = record { written = Memᴰ.head refl; same = refl; carries = none; names = none; acks = also (recent full_past.taken (ranked_mark full 0 2 0) (lit≤ tt)) none }

acked : Demand3 frees_on_ack → Both freer freer_past answered answered_past
acked d =
    let b = sends d (fills d eight begins (lit≤ tt)) 0 reports in
    hears d (turned (acks d (hears d (turned b) one one_honest))) ack ack_honest

-- so a ninth is taken and written; the far store has no room for it, and it is acknowledged as an old one
abbrev over : Gateway
over = after f freer (taking 9) []

abbrev over_past : Past
over_past = took_past freer_past 2 (9 ∷ [])

abbrev ninth : Packet
ninth = noted_held over over_past 0 2 7 (does f over (call.sending 0 2 7) space)

abbrev lost : Gateway
lost = after f answered (call.arrival ninth.octets) []

abbrev lost_past : Past
lost_past = heard_past answered_past ninth

abbrev late : Packet
late = noted_empty lost lost_past 0 0 (does f lost (call.empty 0 0) space)

-- its acknowledgement is written there, and here it is dropped
abbrev told : Gateway
told = after f lost (call.empty 0 0) space

abbrev told_past : Past
told_past = wrote_past lost_past late

abbrev dropped : Gateway
dropped = after f (after f over (call.sending 0 2 7) space) (call.arrival late.octets) []

abbrev dropped_past : Past
dropped_past = heard_past (wrote_past over_past ninth) late

room : 1 ≤ (sends_by freer 0 freer_past 2).h
unfolding result_of accepted_result effect order line_for open_order ask_order book_fits lines_fit all_span open_in line_fits member no_twice all_spans owed_fits modes_fit sending_fits receiving_fits mask_of set_of sizes.sizes_fit every ask_step moved timed channels_for stepped_to take_order took_one part_start send_order held_packet held_of rank_of lowest set_below acks_for first_three base_for wrote_line packet_octets without_three arrive_order owner_from head_at number_at base_at acks_at ack_at acks_served payload_of reading.size_fits bits_at arrived_line news_line heard_line heard_base acked_all acked_line acked_by stored_line arrival_of stored_at entered enters arrived_store stored_store empty_order writes.empty_packet report_order
room = lit≤ tt

reports_nine : 7 < report_by f over 0 2
unfolding result_of accepted_result effect order line_for open_order ask_order book_fits lines_fit all_span open_in line_fits member no_twice all_spans owed_fits modes_fit sending_fits receiving_fits mask_of set_of sizes.sizes_fit every ask_step moved timed channels_for stepped_to take_order took_one part_start send_order held_packet held_of rank_of lowest set_below acks_for first_three base_for wrote_line packet_octets without_three arrive_order owner_from head_at number_at base_at acks_at ack_at acks_served payload_of reading.size_fits bits_at arrived_line news_line heard_line heard_base acked_all acked_line acked_by stored_line arrival_of stored_at entered enters arrived_store stored_store empty_order writes.empty_packet report_order
reports_nine = lit< tt

ninth_honest : Honest bound answered_past (wrote_past over_past ninth) ninth.octets ninth
unfolding marks.enter_all
ninth_honest = record { written = Memᴰ.head refl; same = refl; carries = also (recent over_past.taken (ranked_mark over 0 2 7) (lit≤ tt)) none; names = also (recent just_opened.taken (base_mark over 0 2) (lit≤ tt)) none; acks = none }

late_honest : Honest bound (wrote_past over_past ninth) told_past late.octets late
unfolding marks.there marks.renewed marks.enter marks.enter_all
late_honest = record { written = Memᴰ.head refl; same = refl; carries = none; names = none; acks = also (recent over_past.taken (ranked_mark over 0 2 7) (lit≤ tt)) none }

overrun : Demand3 frees_on_ack → Both dropped dropped_past told told_past
overrun d =
    let b = sends d (takes d (acked d) 9 (omega (arith, room)) (lit< tt)) 7 reports_nine in
    hears d (turned (acks d (hears d (turned b) ninth ninth_honest))) late late_honest

-- then it is held at neither end
pub frees_on_ack_fails : Demand3 frees_on_ack → ⊥
unfolding result_of accepted_result effect order line_for open_order ask_order book_fits lines_fit all_span open_in line_fits member no_twice all_spans owed_fits modes_fit sending_fits receiving_fits mask_of set_of sizes.sizes_fit every ask_step moved timed channels_for stepped_to take_order took_one part_start send_order held_packet held_of rank_of lowest set_below acks_for first_three base_for wrote_line packet_octets without_three arrive_order owner_from head_at number_at base_at acks_at ack_at acks_served payload_of reading.size_fits bits_at arrived_line news_line heard_line heard_base acked_all acked_line acked_by stored_line arrival_of stored_at entered enters arrived_store stored_store empty_order writes.empty_packet report_order
frees_on_ack_fails d = ⊎_elim (λ e. gone e) (λ e. gone e) (has d (overrun d) 8 (lit≤ tt) (lit< tt))
  where
    gone : ◌≡◌ {A = List ℕ} [] (9 ∷ []) → ⊥
    gone e = let n : ◌≡◌ {A = ℕ} 0 1 = ap length e in omega (arith, n)
