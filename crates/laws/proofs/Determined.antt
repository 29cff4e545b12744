-- One input, one outcome: any two outcomes that meet the contract of a call on a book are one, in the answer, in the book and in what is lent.
-- `open_reads.Learnt` is the contract of `open` in src/, as the check reads it; so of the others. In a proof x and y are what two calls return, p
-- and q what they leave behind their references, m and n that they meet the contract.
-- Assumes nothing.
use Prim.Native.Nat.{ℕ}
use mathlib.Core.Path.{◌≡◌, refl, sym, ap, ◌∙◌}
use mathlib.Core.List.{List, []}
use native.Mathlib.Omega.{arith}
use Rattle.std.specs.Prelude.{Result, Ok, Err}
use Rattle.ground.specs.Answer.{Answer, write_says}
use Rattle.ground.specs.declared.Refusal.{Refusal}
use Rattle.ground.proofs.Settled.{same_value, same_error}
use Rattle.mode.proofs.Determine.{hear_says_once, ask_says_once, tick_says_once}
use Rattle.book.specs.declared.Book.{Book}
use Rattle.mode.specs.Says.{hear_says, ask_says, tick_says}
use Rattle.calls.specs.Result.{CallResult, result_with, does, answer_in, book_in}
use Rattle.calls.specs.declared.After.{After}
use Rattle.outgoing.specs.Says.{take_says}
use Rattle.incoming.specs.Says.{arrive_says}
use Rattle.gateway.specs.Says.{open_says}
use Rattle.outgoing.specs.contracts.take
use Rattle.outgoing.proofs.take.Reads as take_reads
use Rattle.outgoing.specs.contracts.send
use Rattle.outgoing.proofs.send.Reads as send_reads
use Rattle.outgoing.specs.contracts.empty
use Rattle.outgoing.proofs.empty.Reads as empty_reads
use Rattle.outgoing.specs.contracts.held
use Rattle.outgoing.proofs.held.Reads as held_reads
use Rattle.incoming.specs.contracts.arrive
use Rattle.incoming.proofs.arrive.Reads as arrive_reads
use Rattle.incoming.specs.contracts.hand_out
use Rattle.incoming.proofs.hand_out.Reads as hand_out_reads
use Rattle.signals.specs.contracts.hear
use Rattle.signals.proofs.hear.Reads as hear_reads
use Rattle.signals.specs.contracts.ask
use Rattle.signals.proofs.ask.Reads as ask_reads
use Rattle.signals.specs.contracts.tick
use Rattle.signals.proofs.tick.Reads as tick_reads
use Rattle.gateway.specs.contracts.fresh
use Rattle.gateway.proofs.fresh.Reads as fresh_reads
use Rattle.gateway.specs.contracts.open
use Rattle.gateway.proofs.open.Reads as open_reads
use Rattle.gateway.specs.contracts.close
use Rattle.gateway.proofs.close.Reads as close_reads
use Rattle.laws.specs.Contract.{Determined}
use Rattle.laws.proofs.Answers.{open_says_once, write_says_once, take_says_once, arrive_says_once, held_says_once}

-- what is made up of the same has the same parts
record Alike (a c : Answer) (b d : Book) (s t o p : List ℕ) : Type 0 where
  answer : a ≡ c
  book : b ≡ d
  store : s ≡ t
  out : o ≡ p

alike : {a c : Answer} {b d : Book} {s t o p : List ℕ} {e : CallResult} → result_with a b s o ≡ e → result_with c d t p ≡ e → Alike a c b d s t o p
alike m n =
    let e = m ∙ sym n in
    record { answer = ap (λ (d : CallResult). d.answer) e; book = ap (λ (d : CallResult). d.book) e; store = ap (λ (d : CallResult). d.store) e; out = ap (λ (d : CallResult). d.out) e }

-- the book that a call left and its answer are all that it gave back
left : {A : Type 0} (b : Book) (x y : Result (After A) Refusal) → answer_in x ≡ answer_in y → book_in b x ≡ book_in b y → x ≡ y
left {A} b (Ok c) (Ok d) e f = λ t. Ok (record { book = f t; answer = same_value {E = Refusal} refl e t })
left b (Ok c) (Err s) e f = absurd (let z : ◌≡◌ {A = ℕ} 0 1 = cc in omega arith)
left b (Err r) (Ok d) e f = absurd (let z : ◌≡◌ {A = ℕ} 0 1 = cc in omega arith)
left {A} b (Err r) (Err s) e f = ap Err (same_error {A = A} refl e)

-- so what it says determines it, with what it left in what was lent
module _ {A : Type 0} (says : Result A Refusal → Answer) (b : Book) (x y : Result (After A) Refusal) (once : says (answer_in x) ≡ says (answer_in y) → answer_in x ≡ answer_in y) where
  gave : {s t p q : List ℕ} {e : CallResult} → does says b x s p ≡ e → does says b y t q ≡ e → (x ≡ y) × (s ≡ t) × (p ≡ q)
  gave m n =
      let e = alike m n in
      (left b x y (once e.answer) e.book, e.store, e.out)

pub fresh_determined : Determined fresh.ended fresh_reads.Learnt
fresh_determined κs a x y p q m n = (m ∙ sym n, refl)

pub open_determined : Determined open.ended open_reads.Learnt
open_determined κs a x y p q m n =
    let e = gave open_says a.0 x y (open_says_once (answer_in x) (answer_in y)) (m [] []) (n [] []) in
    (e.0, refl)

pub close_determined : Determined close.ended close_reads.Learnt
close_determined κs a x y p q m n =
    let e = gave write_says a.0 x y (write_says_once (answer_in x) (answer_in y)) (m []) (n []) in
    (e.0, λ t. (tt, (tt, (e.2 t, tt))))

pub hear_determined : Determined hear.ended hear_reads.Learnt
hear_determined κs a x y p q m n =
    let e = gave hear_says a.0 x y (hear_says_once (answer_in x) (answer_in y)) (m [] []) (n [] []) in
    (e.0, refl)

pub ask_determined : Determined ask.ended ask_reads.Learnt
ask_determined κs a x y p q m n =
    let e = gave ask_says a.0 x y (ask_says_once (answer_in x) (answer_in y)) (m [] []) (n [] []) in
    (e.0, refl)

-- the contract says besides that a try is one of 1 to 5: without it Audio 0 would say what Quiet says, and Audio 6 what Ended does
pub tick_determined : Determined tick.ended tick_reads.Learnt
tick_determined κs a x y p q m n =
    let e = gave tick_says a.0 x y (tick_says_once (answer_in x) (answer_in y) m.1 n.1) (m.0 [] []) (n.0 [] []) in
    (e.0, refl)

pub take_determined : Determined take.ended take_reads.Learnt
take_determined κs a x y p q m n =
    let e = gave take_says a.0 x y (take_says_once (answer_in x) (answer_in y)) (m []) (n []) in
    (e.0, λ t. (tt, (e.1 t, (tt, (tt, (tt, tt))))))

pub send_determined : Determined send.ended send_reads.Learnt
send_determined κs a x y p q m n =
    let e = gave write_says a.0 x y (write_says_once (answer_in x) (answer_in y)) m n in
    (e.0, λ t. (tt, (tt, (tt, (tt, (tt, (e.2 t, tt)))))))

pub empty_determined : Determined empty.ended empty_reads.Learnt
empty_determined κs a x y p q m n =
    let e = gave write_says a.0 x y (write_says_once (answer_in x) (answer_in y)) (m []) (n []) in
    (e.0, λ t. (tt, (tt, (tt, (e.2 t, tt)))))

pub held_determined : Determined held.ended held_reads.Learnt
held_determined κs a x y p q m n = (held_says_once x y (alike (m [] []) (n [] [])).answer, refl)

pub arrive_determined : Determined arrive.ended arrive_reads.Learnt
arrive_determined κs a x y p q m n =
    let e = gave arrive_says a.0 x y (arrive_says_once (answer_in x) (answer_in y)) (m []) (n []) in
    (e.0, λ t. (tt, (e.1 t, (tt, tt))))

pub hand_out_determined : Determined hand_out.ended hand_out_reads.Learnt
hand_out_determined κs a x y p q m n =
    let e = gave write_says a.0 x y (write_says_once (answer_in x) (answer_in y)) m n in
    (e.0, λ t. (tt, (tt, (tt, (tt, (e.2 t, tt))))))
