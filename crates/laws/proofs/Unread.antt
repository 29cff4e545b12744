-- Nothing of a closed line's record is read by any call: "BOOK skips it", and opening writes it whole.
-- Assumes nothing.
use Prim.Native.Nat.{ℕ, zero, suc}
use mathlib.Core.Path.{◌≡◌, refl, sym, ap, subst, ◌∙◌}
use mathlib.Core.Bool.{Bool, true, false, not}
use mathlib.Core.List.{List, [], ◌∷◌, ◌++◌}
use native.Mathlib.Decide.{ℕ_discrete}
use lib.Dec.{eqb, leb}
use lib.ListN.{length, get_or, set, drop}
use lib.Seq.{set-set, set_comm}
use Rattle.std.specs.Prelude.{Option, Ok, Err, is_some}
use Rattle.ground.specs.Pick.{pick}
use Rattle.ground.specs.Refusal.{Verdict, Test, must, verdict}
use Rattle.ground.specs.Answer.{Answer, accepted}
use Rattle.ground.specs.declared.Refusal.TheVariants.{NOLINE, ROOM, TAKEN, RANGE, BOOK}
use Rattle.ground.proofs.Picks.{clash}
use Rattle.ground.proofs.Either.{by_test}
use Rattle.ground.proofs.Verdicts.{verdict_stop}
use Rattle.packet.specs.Read.{head_at, head_tests}
use Rattle.line.specs.Fit.{settings_fit}
use Rattle.line.specs.Line.{is_open, closed_line, opened_line}
use Rattle.line.specs.declared.Line.{Line}
use Rattle.line.specs.declared.Settings.{Settings}
use Rattle.relay.specs.RelayTests.{relay_channel_tests}
use Rattle.relay.specs.Take.{take_call_tests}
use Rattle.relay.specs.HandOut.{hand_call_tests}
use Rattle.writing.specs.Write.{empty_tests}
use Rattle.writing.specs.Send.{send_tests}
use Rattle.arriving.specs.Arrive.{arrive_tests}
use Rattle.book.specs.Book.{line_of, with_line, resting_of, book_fits, taken}
use Rattle.book.specs.Resting.{rests, rested_in}
use Rattle.book.specs.Closing.{closed_at}
use Rattle.book.specs.Parts.{part_start}
use Rattle.book.specs.declared.Book.{Book}
use Rattle.book.proofs.Parts.{starts_same}
use Rattle.book.proofs.OtherLines.{line_other}
use Rattle.book.proofs.Unread.{closed_unread, taken_unread, whose_unread}
use Rattle.calls.specs.Call.{Call}
use Rattle.calls.specs.Call as call
use Rattle.calls.specs.Order.{line_for, packet_line, owner_line}
use Rattle.calls.specs.Stages.{tests, fit_book, roomy, line_number, must_be_open, open_tests, close_tests, mode_tests, address_tests, arrival_tests}
use Rattle.calls.specs.Result.{CallResult, Effect, result_with, result_of, accepted_result, effect}
use Rattle.calls.proofs.OrderStages.{in_stages}
use Rattle.calls.proofs.Results.{result_accepted, did_refused}
use Rattle.laws.proofs.OwnLine.{accepted_passes}
use Rattle.laws.proofs.LineFor.{opens, pass_address, pass_open}

-- the books are one, once the record of line i is put aside
abbrev pub SameBeside : ℕ → Book → Book → Type 0
SameBeside i a b = with_line a i closed_line ≡ with_line b i closed_line

-- two calls gave the same answer and left the same in what was lent, and the same books but for the record of line i
pub record SameDid (i : ℕ) (d e : CallResult) : Type 0 where
  pub answer : d.answer ≡ e.answer
  pub store : d.store ≡ e.store
  pub out : d.out ≡ e.out
  pub book : SameBeside i d.book e.book

-- a line put twice is what was put last
pub put_twice : (b : Book) (i : ℕ) (l m : Line) → with_line (with_line b i l) i m ≡ with_line b i m
put_twice b i l m = λ t. record { lines = set-set b.lines i l m t; resting = b.resting; rested = b.rested }

-- what was put at i before does not show once i is put aside
put_beside : (ls : List Line) (i j : ℕ) (m x z : Line) → set (set ls j x) i z ≡ set (set (set ls i m) j x) i z
put_beside ls i j m x z = go (ℕ_discrete i j)
  where
    go : Dec (i ≡ j) → set (set ls j x) i z ≡ set (set (set ls i m) j x) i z
    go (yes e) = subst (λ (k : ℕ). set (set ls k x) i z ≡ set (set (set ls i m) k x) i z) e (ap (λ (r : List Line). set r i z) (sym (set-set ls i m x)))
    go (no n) = sym (ap (λ (r : List Line). set r i z) (set_comm ls i j m x n) ∙ set-set (set ls j x) i m z)

-- a closed record put at i leaves line i closed, past the end too
put_closed : (ls : List Line) (i : ℕ) (m : Line) → m.opened ≡ 0 → (get_or (set ls i m) i closed_line).opened ≡ 0
put_closed [] i m c = refl
put_closed (l ∷ ls) zero m c = c
put_closed (l ∷ ls) (suc i) m c = put_closed ls i m c

-- a call that opens looks at nothing of the line, and it puts no identifier to rest
opening_whole : (k : Call) → opens k ≡ true → (j : ℕ) (l m : Line) (x y : ℕ) (store out : List ℕ) → effect k j l x store out ≡ effect k j m y store out
unfolding effect
opening_whole (call.opening i s time) o j l m x y store out = refl
opening_whole (call.closing i) o j l m x y store out = clash o
opening_whole (call.mode i a) o j l m x y store out = clash o
opening_whole (call.taking i channel message) o j l m x y store out = clash o
opening_whole (call.sending i channel rank) o j l m x y store out = clash o
opening_whole (call.empty i channel) o j l m x y store out = clash o
opening_whole (call.arrival s) o j l m x y store out = clash o
opening_whole (call.hand_out i channel) o j l m x y store out = clash o
opening_whole (call.report i channel) o j l m x y store out = clash o

pub resting_opens_none : (k : Call) (j : ℕ) (l : Line) (start : ℕ) (store out : List ℕ) → (effect k j l start store out).rests ≡ true → opens k ≡ false
unfolding effect
resting_opens_none (call.opening i s time) j l start store out e = clash e
resting_opens_none (call.closing i) j l start store out e = refl
resting_opens_none (call.mode i a) j l start store out e = refl
resting_opens_none (call.taking i channel message) j l start store out e = refl
resting_opens_none (call.sending i channel rank) j l start store out e = refl
resting_opens_none (call.empty i channel) j l start store out e = refl
resting_opens_none (call.arrival s) j l start store out e = refl
resting_opens_none (call.hand_out i channel) j l start store out e = refl
resting_opens_none (call.report i channel) j l start store out e = refl

-- A book whose line i is closed, and the same with another closed record there.
module _ (b : Book) (i : ℕ) (o : (line_of b i).opened ≡ 0) (m : Line) (c : m.opened ≡ 0) where
  abbrev other : Book
  other = with_line b i m

  closed : is_open (line_of b i) ≡ false
  closed = ap (λ (n : ℕ). eqb n 1) o

  -- an open line is not line i, so it is the same in both
  open_same : (j : ℕ) → is_open (line_of b j) ≡ true → line_of b j ≡ line_of other j
  open_same j p = sym (line_other b i m j (λ e. clash (sym closed ∙ ap (λ (k : ℕ). is_open (line_of b k)) e ∙ p)))

  opened_same : (j : ℕ) → is_open (line_of b j) ≡ is_open (line_of other j)
  opened_same j = go (ℕ_discrete i j)
    where
      go : Dec (i ≡ j) → is_open (line_of b j) ≡ is_open (line_of other j)
      go (yes e) = subst (λ (k : ℕ). is_open (line_of b k) ≡ is_open (line_of other k)) e (closed ∙ sym (ap (λ (n : ℕ). eqb n 1) (put_closed b.lines i m c)))
      go (no n) = ap is_open (sym (line_other b i m j n))

  -- no part of the store begins anywhere else
  starts_alike : (j : ℕ) → part_start b j ≡ part_start other j
  starts_alike j = starts_same b other j (λ k l. refl)

  -- tests that first ask whether the line is open
  asks_same : (j : ℕ) (f : Line → List Test) → verdict (must_be_open (line_of b j) ∷ f (line_of b j)) ≡ verdict (must_be_open (line_of other j) ∷ f (line_of other j))
  asks_same j f = go (is_open (line_of b j)) refl
    where
      go : (t : Bool) → is_open (line_of b j) ≡ t → verdict (must_be_open (line_of b j) ∷ f (line_of b j)) ≡ verdict (must_be_open (line_of other j) ∷ f (line_of other j))
      go true e = ap (λ (l : Line). verdict (must_be_open l ∷ f l)) (open_same j e)
      go false e = rw (e, sym (opened_same j) ∙ e)

  -- behind BOOK, and ROOM for the store, and RANGE
  fits_same : book_fits b ≡ book_fits other
  fits_same = sym (closed_unread b i closed m (c ∙ sym o))

  on_line_same : (j : ℕ) (f : Line → List Test)
      → verdict (fit_book b ∷ line_number j ∷ must_be_open (line_of b j) ∷ f (line_of b j)) ≡ verdict (fit_book other ∷ line_number j ∷ must_be_open (line_of other j) ∷ f (line_of other j))
  on_line_same j f = λ t. pick (fits_same t) (pick (leb j 3) (asks_same j f t) (Err RANGE)) (Err BOOK)

  on_lent_same : (n j : ℕ) (f : Line → List Test)
      → verdict (fit_book b ∷ roomy b n ∷ line_number j ∷ must_be_open (line_of b j) ∷ f (line_of b j)) ≡ verdict (fit_book other ∷ roomy other n ∷ line_number j ∷ must_be_open (line_of other j) ∷ f (line_of other j))
  on_lent_same n j f = λ t. pick (fits_same t) (pick (leb (starts_alike 4 t) n) (pick (leb j 3) (asks_same j f t) (Err RANGE)) (Err ROOM)) (Err BOOK)

  opening_same : (j : ℕ) (s : Settings) → verdict (fit_book b ∷ line_number j ∷ open_tests b j s) ≡ verdict (fit_book other ∷ line_number j ∷ open_tests other j s)
  unfolding open_tests
  opening_same j s =
      let free : taken b s.identifier ≡ taken other s.identifier = sym (taken_unread b i closed m (c ∙ sym o) s.identifier) in
      λ t. verdict (must (fits_same t) BOOK ∷ line_number j ∷ must (not (opened_same j t)) TAKEN ∷ must (settings_fit s) RANGE ∷ must (not (free t)) TAKEN ∷ [])

  -- a packet finds the same line
  finds_same : (s : List ℕ) → packet_line b s ≡ packet_line other s
  finds_same s = sym (whose_unread b i closed m (c ∙ sym o) (head_at s).identifier)

  address_same : (s : List ℕ) → address_tests b s ≡ address_tests other s
  unfolding address_tests
  address_same s = ap (λ (w : Option ℕ). head_tests s ++ (must (is_some w) NOLINE ∷ [])) (finds_same s)

  arrival_same : (s : List ℕ) → verdict (arrival_tests b s) ≡ verdict (arrival_tests other s)
  unfolding arrival_tests
  arrival_same s = go (verdict (address_tests b s)) refl
    where
      here : Line
      here = line_of b (owner_line (packet_line b s))

      there : Line
      there = line_of other (owner_line (packet_line other s))

      go : (v : Verdict) → verdict (address_tests b s) ≡ v → verdict (address_tests b s ++ arrive_tests here s) ≡ verdict (address_tests other s ++ arrive_tests there s)
      go (Ok tt) e =
          let same : here ≡ there = open_same (owner_line (packet_line b s)) (pass_address b s e) ∙ ap (λ (w : Option ℕ). line_of other (owner_line w)) (finds_same s) in
          λ t. verdict (address_same s t ++ arrive_tests (same t) s)
      go (Err r) e =
          verdict_stop (address_tests b s) (arrive_tests here s) e
          ∙ sym (verdict_stop (address_tests other s) (arrive_tests there s) (ap verdict (sym (address_same s)) ∙ e))

  -- so every call comes to the same verdict
  verdict_same : (k : Call) (n space : ℕ) → verdict (tests k b n space) ≡ verdict (tests k other n space)
  unfolding tests close_tests mode_tests relay_channel_tests take_call_tests send_tests empty_tests hand_call_tests
  verdict_same (call.opening j s time) n space = opening_same j s
  verdict_same (call.closing j) n space = on_line_same j (λ l. drop 1 (close_tests l space))
  verdict_same (call.mode j a) n space = on_line_same j (λ l. drop 1 (mode_tests l a))
  verdict_same (call.taking j channel message) n space = on_lent_same n j (λ l. drop 1 (take_call_tests l channel (length message)))
  verdict_same (call.sending j channel rank) n space = on_lent_same n j (λ l. drop 1 (send_tests l channel rank space))
  verdict_same (call.empty j channel) n space = on_line_same j (λ l. drop 1 (empty_tests l channel space))
  verdict_same (call.arrival s) n space = λ t. pick (fits_same t) (pick (leb (starts_alike 4 t) n) (arrival_same s t) (Err ROOM)) (Err BOOK)
  verdict_same (call.hand_out j channel) n space = on_lent_same n j (λ l. drop 1 (hand_call_tests l channel space))
  verdict_same (call.report j channel) n space = on_line_same j (λ l. drop 1 (relay_channel_tests l channel))

  -- and is for the same line, which is the same in both unless the call opens it
  line_same : (k : Call) → line_for k b ≡ line_for k other
  unfolding line_for
  line_same (call.opening j s time) = refl
  line_same (call.closing j) = refl
  line_same (call.mode j a) = refl
  line_same (call.taking j channel message) = refl
  line_same (call.sending j channel rank) = refl
  line_same (call.empty j channel) = refl
  line_same (call.arrival s) = ap owner_line (finds_same s)
  line_same (call.hand_out j channel) = refl
  line_same (call.report j channel) = refl

  effect_same : (k : Call) (store out : List ℕ) → verdict (tests k b (length store) (length out)) ≡ Ok tt
      → effect k (line_for k b) (line_of b (line_for k b)) (part_start b (line_for k b)) store out ≡ effect k (line_for k b) (line_of other (line_for k b)) (part_start other (line_for k b)) store out
  effect_same k store out e =
      let j = line_for k b in
      by_test (opens k)
      (λ p. opening_whole k p j (line_of b j) (line_of other j) (part_start b j) (part_start other j) store out)
      (λ p. λ t. effect k j (open_same j (pass_open k b (length store) (length out) e p) t) (starts_alike j t) store out)

  done_same : (k : Call) (store out : List ℕ) → verdict (tests k b (length store) (length out)) ≡ Ok tt → SameDid i (accepted_result k b store out) (accepted_result k other store out)
  unfolding accepted_result closed_at
  done_same k store out e =
      subst (SameDid i (leaves b j its))
      (ap (leaves other j) (effect_same k store out e) ∙ ap (λ (n : ℕ). leaves other n (effect k n (line_of other n) (part_start other n) store out)) (line_same k))
      (record { answer = refl; store = refl; out = refl; book = go its.rests refl })
    where
      j : ℕ
      j = line_for k b

      its : Effect
      its = effect k j (line_of b j) (part_start b j) store out

      leaves : Book → ℕ → Effect → CallResult
      leaves a n f = result_with (accepted f.values) (pick f.rests (closed_at a n) (with_line a n f.line)) f.store f.out

      go : (t : Bool) → its.rests ≡ t → SameBeside i (pick t (closed_at b j) (with_line b j its.line)) (pick t (closed_at other j) (with_line other j its.line))
      go true p =
          let same = open_same j (pass_open k b (length store) (length out) e (resting_opens_none k j (line_of b j) (part_start b j) store out p)) in
          λ t. let r = rests (resting_of b) (same t).identifier in record { lines = put_beside b.lines i j m closed_line closed_line t; resting = rested_in b.resting r; rested = length r }
      go false p = λ t. record { lines = put_beside b.lines i j m its.line closed_line t; resting = b.resting; rested = b.rested }

  did_same : (k : Call) (store out : List ℕ) → SameDid i (result_of k b store out) (result_of k other store out)
  did_same k store out = go (verdict (tests k b (length store) (length out))) refl
    where
      go : (v : Verdict) → verdict (tests k b (length store) (length out)) ≡ v → SameDid i (result_of k b store out) (result_of k other store out)
      go (Ok tt) e = rw (result_accepted k b store out (in_stages k b (length store) (length out) ∙ e), result_accepted k other store out (in_stages k other (length store) (length out) ∙ sym (verdict_same k (length store) (length out)) ∙ e)) (done_same k store out e)
      go (Err r) e =
          rw (did_refused k b store out (in_stages k b (length store) (length out) ∙ e), did_refused k other store out (in_stages k other (length store) (length out) ∙ sym (verdict_same k (length store) (length out)) ∙ e))
          (record { answer = refl; store = refl; out = refl; book = sym (put_twice b i m closed_line) })

-- THE PROMISE: whatever stands in a closed line's record, every call gives the same answer and leaves the same, but for that record.
pub closed_record_unread : (b : Book) (i : ℕ) (l m : Line) → l.opened ≡ 0 → m.opened ≡ 0 → (c : Call) (store out : List ℕ)
    → SameDid i (result_of c (with_line b i l) store out) (result_of c (with_line b i m) store out)
closed_record_unread b i l m p q c store out =
    subst (λ (a : Book). SameDid i (result_of c (with_line b i l) store out) (result_of c a store out)) (put_twice b i l m)
    (did_same (with_line b i l) i (put_closed b.lines i l p) m q c store out)

-- Opening that line writes the record whole: where it is accepted nothing at all differs.
pub opening_unread : (b : Book) (i : ℕ) (l m : Line) → l.opened ≡ 0 → m.opened ≡ 0 → (s : Settings) (time : ℕ) (store out : List ℕ)
    → (result_of (call.opening i s time) (with_line b i l) store out).answer.number ≡ 0
    → result_of (call.opening i s time) (with_line b i l) store out ≡ result_of (call.opening i s time) (with_line b i m) store out
unfolding accepted_result effect line_for
opening_unread b i l m p q s time store out z =
    let c = call.opening i s time in
    let e = accepted_passes c (with_line b i l) store out z in
    let f = accepted_passes c (with_line b i m) store out (ap (λ (a : Answer). a.number) (sym (closed_record_unread b i l m p q c store out).answer) ∙ z) in
    result_accepted c (with_line b i l) store out (in_stages c (with_line b i l) (length store) (length out) ∙ e)
    ∙ ap (λ (a : Book). result_with (accepted []) a store out) (put_twice b i l (opened_line s time) ∙ sym (put_twice b i m (opened_line s time)))
    ∙ sym (result_accepted c (with_line b i m) store out (in_stages c (with_line b i m) (length store) (length out) ∙ f))
