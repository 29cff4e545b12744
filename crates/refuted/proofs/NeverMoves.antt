-- The build that never moves h on does not meet demand 3: whatever is called, no channel has more messages taken than its window, so that no other
-- message can come to be taken once there are so many.
-- Assumes nothing.
use Prim.Native.Nat.{ℕ, zero, suc, ◌+◌, ◌≤◌, ◌<◌}
use mathlib.Core.Path.{◌≡◌, refl, sym, ap, subst, ◌∙◌}
use mathlib.Core.Bool.{Bool, true, false}
use mathlib.Core.List.{List, [], ◌∷◌}
use native.Mathlib.Omega.{arith}
use lib.Dec.{lit≤, eqb, ltb}
use lib.ListN.{length, get_or, set, length-append}
use borrow.Author.Tests.{ltb-true}
use Rattle.std.specs.Prelude.{Ok}
use Rattle.ground.specs.Every.{every}
use Rattle.ground.specs.Pick.{pick}
use Rattle.ground.specs.Refusal.{must, verdict}
use Rattle.ground.specs.declared.Refusal.TheVariants.{SIZE}
use Rattle.ground.proofs.Picks.{pick_by}
use Rattle.ground.proofs.Settled.{settled_by}
use Rattle.ground.proofs.Verdicts.{passed, pass_both}
use Rattle.field.specs.Word.{channel_of, number_of}
use Rattle.packet.specs.Acks.{ack_list}
use Rattle.packet.specs.Read.{acks_at}
use Rattle.places.specs.Places.{mask_of, set_of}
use Rattle.channel.specs.Channel.{window_of, cap}
use Rattle.channel.specs.Distance.{dist}
use Rattle.channel.specs.Sizes.{message_fits}
use Rattle.channel.specs.Sizes as sizes
use Rattle.sending.specs.Sending.{under_way, took_one, acked_by, emptied_sending, take_tests, sending_fits}
use Rattle.sending.specs.declared.Sending.{Sending}
use Rattle.receiving.specs.Receiving.{receiving_fits}
use Rattle.owed.specs.Owed.{member, no_twice, all_spans, owed_fits}
use Rattle.mode.specs.Acts.{outcome}
use Rattle.mode.specs.Fit.{modes_fit}
use Rattle.mode.specs.Moved.{channels_for, timed, moved}
use Rattle.mode.specs.Request.{ask_step}
use Rattle.mode.specs.declared.Modes.{Modes}
use Rattle.mode.specs.declared.Channels.{Channels}
use Rattle.mode.specs.declared.Channels.TheVariants.{Stay, Fresh, Emptied}
use Rattle.line.specs.Figures.{send_window, send_largest}
use Rattle.line.specs.Fit.{line_fits}
use Rattle.line.specs.Line.{closed_line, sending_of, with_sending}
use Rattle.line.specs.Mode.{stepped_to}
use Rattle.line.specs.declared.Line.{Line}
use Rattle.relay.specs.RelayTests.{relay_channel_tests}
use Rattle.relay.specs.Take.{take_call_tests, took_line}
use Rattle.writing.specs.Write.{wrote_line}
use Rattle.arriving.specs.Effect.{acked_line, acked_all, stored_line}
use Rattle.arriving.specs.Arrive.{carries}
use Rattle.book.specs.Resting.{all_span}
use Rattle.book.specs.Book.{fresh_book, line_of, with_line, open_in, lines_fit, book_fits}
use Rattle.book.specs.Closing.{closed_at}
use Rattle.book.specs.Parts.{part_start}
use Rattle.book.specs.declared.Book.{Book}
use Rattle.book.proofs.RestingTurns.{get_or_alike}
use Rattle.calls.specs.Call.{Call}
use Rattle.calls.specs.Call as call
use Rattle.calls.specs.Order.{open_order, ask_order, order, line_for}
use Rattle.calls.specs.Stages.{tests, fit_book, roomy, line_number}
use Rattle.calls.specs.Result.{CallResult, result_of, accepted_result, effect}
use Rattle.calls.proofs.OrderStages.{in_stages}
use Rattle.promise.specs.Build.{Does}
use Rattle.promise.specs.Past.{Past, nothing_yet, just_opened}
use Rattle.promise.specs.Run.{Gateway, bound, Step, before, opens, calls, Goes, stay, here, there}
use Rattle.promise.specs.Promise.{InRelay, sends_by}
use Rattle.promise.specs.Demand3.{Demand3}
use Rattle.promise.proofs.AnyBuild.{turned_goes, goes_after, goes_inside}
use Rattle.promise.proofs.OwnLine.{call_refused}
use Rattle.refuted.specs.Idle.{arriving, unmoved, deaf, never_moves}
use Rattle.refuted.proofs.IdleRuns.{fresh, inside, begun, run}

abbrev f : Does
f = arriving deaf

-- a side whose h is 0, and which has taken no more than a window
record Low (w : ℕ) (s : Sending) : Type 0 where
  base : s.base ≡ 0
  few : s.taken ≤ w

abbrev LowLine : Line → Type 0
LowLine l = (c : ℕ) → Low (window_of c) (sending_of l c)

abbrev LowBook : Book → Type 0
LowBook b = (k : ℕ) → LowLine (line_of b k)

fresh_low : LowLine closed_line
fresh_low c = pick_by (λ (s : Sending). Low (window_of c) s) (eqb c 1) (λ _. record { base = refl; few = omega arith }) (λ _. record { base = refl; few = omega arith })

-- a line put anew
put_low : (b : Book) → LowBook b → (i : ℕ) (l : Line) → LowLine l → LowBook (with_line b i l)
put_low b k i l q = go b.lines i k
  where
    go : (ls : List Line) (i : ℕ) → ((n : ℕ) → LowLine (get_or ls n closed_line)) → (n : ℕ) → LowLine (get_or (set ls i l) n closed_line)
    go [] i k n = k n
    go (x ∷ ls) zero k zero = q
    go (x ∷ ls) zero k (suc n) = k (suc n)
    go (x ∷ ls) (suc i) k zero = k zero
    go (x ∷ ls) (suc i) k (suc n) = go ls i (λ m. k (suc m)) n

-- a side put anew
side_low : (l : Line) → LowLine l → (channel : ℕ) (s : Sending) → Low (window_of channel) s → LowLine (with_sending l channel s)
side_low l k channel s q c = go (eqb c 1) (eqb channel 1) (k c) q
  where
    go : (t u : Bool) → Low (pick t 32 8) (pick t l.sending.one l.sending.two) → Low (pick u 32 8) s
        → Low (pick t 32 8) (pick t (pick u s l.sending.one) (pick u l.sending.two s))
    go true true a b = b
    go true false a b = a
    go false true a b = a
    go false false a b = b

-- acknowledgements leave h, and how many were taken
acked_low : (words : List ℕ) (l : Line) → LowLine l → LowLine (acked_all l words)
unfolding acked_all acked_line acked_by
acked_low [] l k = k
acked_low (word ∷ words) l k =
    let c = channel_of word in
    let s = sending_of l c in
    acked_low words (acked_line l word) (side_low l k c (acked_by s (number_of word))
    (pick_by (Low (window_of c)) (ltb (dist (number_of word) s.base) (under_way s)) (λ _. record { base = (k c).base; few = (k c).few }) (λ _. k c)))

arrived_low : (l : Line) → LowLine l → (s : List ℕ) → LowLine (unmoved l s)
unfolding stored_line
arrived_low l k s = pick_by LowLine (carries s) (λ _. acked_low (ack_list (acks_at s)) l k) (λ _. acked_low (ack_list (acks_at s)) l k)

-- a change of mode leaves both, or starts afresh
stepped_low : (l : Line) → LowLine l → (m : Modes) (c : Channels) → LowLine (stepped_to l m c)
unfolding stepped_to emptied_sending
stepped_low l k m Stay c = k c
stepped_low l k m Fresh c = fresh_low c
stepped_low l k m Emptied c = go (eqb c 1) (k c)
  where
    go : (t : Bool) → Low (window_of c) (pick t l.sending.one l.sending.two) → Low (window_of c) (pick t (emptied_sending l.sending.one) (emptied_sending l.sending.two))
    go true a = record { base = a.base; few = a.few }
    go false a = record { base = a.base; few = a.few }

-- "A message is taken only if S - h is below the window"
take_low : (l : Line) → LowLine l → (channel n : ℕ) → verdict (take_call_tests l channel n) ≡ Ok tt → LowLine (took_line l channel n)
unfolding take_call_tests took_one
take_low l k channel n e =
    let s = sending_of l channel in
    let t = passed (must (message_fits (send_largest l) n) SIZE ∷ take_tests (send_window l channel) s) (pass_both (relay_channel_tests l channel) _ e).1 in
    let space : under_way s < window_of channel = ltb-true _ _ t.1.1.0 in
    side_low l k channel (took_one (send_window l channel) s n) (record { base = (k channel).base; few = omega (arith, space, (k channel).base) })

-- a call that does as ours
ours_low : (c : Call) (b : Book) (store out : List ℕ) → LowBook b
    → (verdict (tests c b (length store) (length out)) ≡ Ok tt → LowLine (effect c (line_for c b) (line_of b (line_for c b)) (part_start b (line_for c b)) store out).line)
    → LowBook (result_of c b store out).book
unfolding result_of accepted_result closed_at
ours_low c b store out k line =
    settled_by (λ (d : CallResult). LowBook d.book) (verdict (order c b (length store) (length out))) (λ r e. k)
    (λ e.
    let i = line_for c b in
    let done = effect c i (line_of b i) (part_start b i) store out in
    pick_by LowBook done.rests (λ _. put_low b k i closed_line fresh_low) (λ _. put_low b k i done.line (line (sym (in_stages c b (length store) (length out)) ∙ e))))

-- no call of the build moves h, or takes more than a window
call_low : (c : Call) (b : Book) (store out : List ℕ) → LowBook b → LowBook (f c b store out).book
unfolding effect line_for tests wrote_line
call_low (call.opening i s time) b store out k = ours_low (call.opening i s time) b store out k (λ e. fresh_low)
call_low (call.closing i) b store out k = ours_low (call.closing i) b store out k (λ e. fresh_low)
call_low (call.mode i a) b store out k =
    ours_low (call.mode i a) b store out k (λ e. let o = outcome (line_of b i).modes a in stepped_low (line_of b i) (k i) o.modes o.channels)
call_low (call.taking i channel m) b store out k =
    ours_low (call.taking i channel m) b store out k
    (λ e. take_low (line_of b i) (k i) channel (length m) (pass_both (fit_book b ∷ roomy b (length store) ∷ line_number i ∷ []) (take_call_tests (line_of b i) channel (length m)) e).1)
call_low (call.sending i channel rank) b store out k = ours_low (call.sending i channel rank) b store out k (λ e. k i)
call_low (call.empty i channel) b store out k = ours_low (call.empty i channel) b store out k (λ e. k i)
call_low (call.arrival s) b store out k =
    let d = result_of (call.arrival s) b store out in
    let i = line_for (call.arrival s) b in
    pick_by (λ (r : CallResult). LowBook r.book) (eqb d.answer.number 0) (λ e. put_low b k i (unmoved (line_of b i) s) (arrived_low (line_of b i) (k i) s))
    (λ e. subst LowBook (sym (call_refused (record { book = b; store = store }) (call.arrival s) out e).book) k)
call_low (call.hand_out i channel) b store out k = ours_low (call.hand_out i channel) b store out k (λ e. k i)
call_low (call.report i channel) b store out k = ours_low (call.report i channel) b store out k (λ e. k i)

-- so no run of it does
step_low : {i identifier kind : ℕ} {g g' : Gateway} {p p' q : Past} → LowBook g.book → Step f bound i identifier kind q g p g' p' → LowBook g'.book
step_low {g = g} k (before e c out) = call_low c g.book g.store out k
step_low {i = i} {g = g} k (opens e s time out a b t) = call_low (call.opening i s time) g.book g.store out k
step_low {g = g} k (calls o c out still stays a) = call_low c g.book g.store out k

goes_low : {i j identifier kind : ℕ} {g h : Gateway} {p q : Past} {g' h' : Gateway} {p' q' : Past} → LowBook g.book → Goes f bound i j identifier kind g p h q g' p' h' q' → LowBook g'.book
goes_low k stay = k
goes_low k (here w s) = step_low (goes_low k w) s
goes_low k (there w s) = goes_low k w

begins_low : LowBook fresh_book
begins_low k = subst LowLine (sym (get_or_alike 4 k closed_line)) fresh_low

-- a run in modem relay at both ends, with n messages taken on channel 2
record Grown (n : ℕ) : Type 0 where
  here : Gateway
  mine : Past
  there : Gateway
  yours : Past
  goes : Goes f bound 0 0 5 98 fresh nothing_yet fresh nothing_yet here mine there yours
  relays_here : InRelay here 0 mine
  relays_there : InRelay there 0 yours
  count : length (mine.taken 2) ≡ n

none_taken : Grown 0
unfolding result_of accepted_result effect part_start order line_for open_order ask_order book_fits lines_fit all_span open_in line_fits member no_twice all_spans owed_fits modes_fit sending_fits receiving_fits mask_of set_of sizes.sizes_fit every ask_step moved timed channels_for stepped_to
none_taken =
    let g = inside result_of result_of deaf in
    record { here = g; mine = just_opened; there = g; yours = just_opened; goes = begun result_of result_of deaf; relays_here = (refl, refl); relays_there = (refl, refl); count = refl }

module _ (d : Demand3 never_moves) where
  -- another message can come to be taken, says the demand
  grows : (n : ℕ) → n < cap → Grown n → Grown (suc n)
  grows n l r =
      let counted = ((d.promised (run f r.goes)).there 2 refl).counted in
      let x = (d.goes_on (run f r.goes) r.relays_here r.relays_there).takes_more 2 refl (7 ∷ []) (lit≤ tt) (lit≤ tt) (omega (arith, l, counted, r.count)) in
      record {
        here = x.here;
        mine = x.mine;
        there = x.there;
        yours = x.yours;
        goes = goes_after r.goes x.goes;
        relays_here = goes_inside r.relays_here x.goes;
        relays_there = goes_inside r.relays_there (turned_goes x.goes);
        count = ap (λ (t : ℕ → List (List ℕ)). length (t 2)) x.taken ∙ length-append (r.mine.taken 2) ((7 ∷ []) ∷ []) ∙ more (length (r.mine.taken 2)) r.count;
      }
    where
      more : (m : ℕ) → m ≡ n → m + 1 ≡ suc n
      more m e = omega arith

  -- and yet there are never more than a window
  few : (n : ℕ) → Grown n → n ≤ 8
  few n r =
      let counted = ((d.promised (run f r.goes)).there 2 refl).counted in
      let taken : (sends_by r.here 0 r.mine 2).S ≤ 8 = pick_by (λ (l : Line). (sending_of l 2).taken ≤ 8) r.mine.opened (λ _. (goes_low begins_low r.goes 0 2).few) (λ _. omega arith) in
      omega (arith, counted, taken, r.count)

  nine : (n : ℕ) → n ≤ 9 → Grown n
  nine zero l = none_taken
  nine (suc n) l = grows n (omega arith) (nine n (omega arith))

-- a build that never moves h on: soon no message can come to be taken
pub never_moves_fails : Demand3 never_moves → ⊥
never_moves_fails d = absurd (let q = few d 9 (nine d 9 (omega arith)) in omega (arith, q))
