-- A call by what its verdict answered: the refusal or the value that it has, and what an accepted call does.
-- Assumes nothing.
use Prim.Native.Nat.{ℕ}
use mathlib.Core.Path.{◌≡◌, refl, sym, ap, ◌∙◌}
use mathlib.Core.Bool.{Bool, false}
use mathlib.Core.List.{List}
use lib.ListN.{length}
use Rattle.std.specs.Prelude.{Result, Ok, Err}
use Rattle.ground.specs.Pick.{pick}
use Rattle.ground.specs.Refusal.{Verdict, Test, verdict, settle}
use Rattle.ground.specs.Answer.{Answer, accepted, answered}
use Rattle.ground.specs.declared.Refusal.{Refusal}
use Rattle.ground.proofs.Settled.{verdict_of_answer, same_value}
use Rattle.line.specs.declared.Line.{Line}
use Rattle.book.specs.Book.{line_of, with_line}
use Rattle.book.specs.Parts.{part_start}
use Rattle.book.specs.Closing.{closed_at}
use Rattle.book.specs.declared.Book.{Book}
use Rattle.calls.specs.Call.{Call}
use Rattle.calls.specs.Order.{order, line_for}
use Rattle.calls.specs.Result.{Effect, effect, accepted_result, result_with, result_of}
use Rattle.calls.proofs.Results.{result_accepted}

abbrev why_not : {A : Type 0} → Result A Refusal → Verdict
why_not (Ok x) = Ok tt
why_not (Err r) = Err r

-- an answer by tests in their order is the refusal that they come to, or the value that they allow
module _ {A : Type 0} (tests : List Test) (value : A) {r : Result A Refusal} (e : r ≡ answered tests value) where
  its_verdict : verdict tests ≡ why_not r
  its_verdict = verdict_of_answer why_not (verdict tests) e (λ x. refl) refl

  pub answer_refuses : {x : Refusal} → r ≡ Err x → verdict tests ≡ Err x
  answer_refuses p = its_verdict ∙ ap why_not p

  pub answer_passes : {x : A} → r ≡ Ok x → verdict tests ≡ Ok tt
  answer_passes p = its_verdict ∙ ap why_not p

  pub answer_is : {x : A} → r ≡ Ok x → x ≡ value
  answer_is p = same_value {E = Refusal} p (e ∙ ap (λ (v : Verdict). settle {A = Result A Refusal} v Err (Ok value)) (answer_passes p))

-- the code reads a line, makes a step of it, and puts it back
pub put_back : (b : Book) (i : ℕ) (step : Line → Line) {l stepped : Line} {next : Book} → l ≡ line_of b i → stepped ≡ step l → next ≡ with_line b i stepped → next ≡ with_line b i (step (line_of b i))
put_back b i step read e p = p ∙ ap (λ (k : Line). with_line b i k) (e ∙ ap step read)

-- a call whose tests pass does what its order says, where it answers and leaves what its effect has
module _ {A : Type 0} (says : Result A Refusal → Answer) (c : Call) (b : Book) (store out : List ℕ) where
  abbrev its : Effect
  its = effect c (line_for c b) (line_of b (line_for c b)) (part_start b (line_for c b)) store out

  pub accepted_does : verdict (order c b (length store) (length out)) ≡ Ok tt → its.rests ≡ false → {x : A} {next : Book} {left written : List ℕ}
      → says (Ok x) ≡ accepted its.values → next ≡ with_line b (line_for c b) its.line → left ≡ its.store → written ≡ its.out
      → result_with (says (Ok x)) next left written ≡ result_of c b store out
  unfolding accepted_result
  accepted_does e stays answer book left written =
      let whole = book ∙ ap (λ (z : Bool). pick z (closed_at b (line_for c b)) (with_line b (line_for c b) its.line)) (sym stays) in
      (λ t. result_with (answer t) (whole t) (left t) (written t)) ∙ sym (result_accepted c b store out e)
