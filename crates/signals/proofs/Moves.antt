-- A mode call, whichever it is: its verdict's refusal handed on, or the step of its line's modes put back into the book.
-- Assumes nothing.
use Prim.Native.Nat.{ℕ, ◌<◌}
use mathlib.Core.Path.{◌≡◌, refl, sym, ap, ◌∙◌}
use mathlib.Core.List.{List, [], ◌∷◌}
use native.Mathlib.Omega.{arith}
use Rattle.std.specs.Prelude.{Result, Ok, Err, IsErrAnd}
use Rattle.ground.specs.Refusal.{Verdict, verdict, number_of}
use Rattle.ground.specs.Answer.{Answer, refused}
use Rattle.ground.specs.declared.Refusal.{Refusal}
use Rattle.ground.proofs.Numbers.{number_some}
use Rattle.ground.proofs.Settled.{handed_on}
use Rattle.mode.specs.Acts.{Act, Outcome, outcome}
use Rattle.mode.specs.declared.Modes.{Modes}
use Rattle.mode.specs.declared.Step.{Step}
use Rattle.mode.proofs.Refusing.{refusal_changes_nothing}
use Rattle.line.specs.Mode.{stepped_to}
use Rattle.line.specs.declared.Line.{Line}
use Rattle.book.specs.Book.{line_of, with_line}
use Rattle.book.specs.declared.Book.{Book}
use Rattle.calls.specs.Call as call
use Rattle.calls.specs.Stages.{fit_book, line_number, must_be_open}
use Rattle.calls.specs.Result.{result_with, result_of, does, answer_in, book_in}
use Rattle.calls.specs.declared.After.{After}
use Rattle.calls.proofs.Results.{same_line, mode_refused, mode_does}
use Rattle.signals.specs.Step.{beside, after_step}

-- the answer that stands beside a book
pub answer_beside : {A : Type 0} (b : Book) (r : Result A Refusal) → answer_in (beside b r) ≡ r
answer_beside b (Ok x) = refl
answer_beside b (Err r) = refl

module _ {A : Type 0} (says : Result A Refusal → Answer) (alone : (r : Refusal) → says (Err r) ≡ refused r) (b : Book) (i : ℕ) (a : Act) {v : Verdict}
    (asked : v ≡ verdict (fit_book b ∷ line_number i ∷ must_be_open (line_of b i) ∷ []))
  where
    pub stops_at : (r : Result (After A) Refusal) {why : Refusal} → IsErrAnd r (λ x. x ≡ why) → v ≡ Err why → (store out : List ℕ) → does says b r store out ≡ result_of (call.mode i a) b store out
    stops_at r {why} h p store out =
        ap (λ (k : Result (After A) Refusal). does says b k store out) (handed_on r h)
        ∙ ap (λ (k : Answer). result_with k b store out) (alone why)
        ∙ mode_refused b i a asked p store out

    module _ (p : v ≡ Ok tt) (s : Step A) {l : Line} (read : l ≡ line_of b i) (step : ◌≡◌ {A = Outcome} (record { said = says s.answer; modes = s.modes; channels = s.channels }) (outcome l.modes a)) where
      abbrev m : Modes
      m = (line_of b i).modes

      abbrev next : Book
      next = with_line b i (stepped_to (line_of b i) s.modes s.channels)

      made : ◌≡◌ {A = Outcome} (record { said = says s.answer; modes = s.modes; channels = s.channels }) (outcome m a)
      made = step ∙ ap (λ (k : Line). outcome k.modes a) read

      -- a step refused changes nothing
      stays : {r : Refusal} → s.answer ≡ Err r → next ≡ b
      unfolding stepped_to
      stays {r} e =
          let n : (outcome m a).said.number ≡ number_of r = sym (ap (λ (o : Outcome). o.said.number) made) ∙ ap (λ (k : Answer). k.number) (ap says e ∙ alone r) in
          let u = refusal_changes_nothing m a (omega (arith, n, number_some r)) in
          let f = ap (λ (o : Outcome). o.modes) made ∙ u.modes in
          let g = ap (λ (o : Outcome). o.channels) made ∙ u.channels in
          (λ t. with_line b i (stepped_to (line_of b i) (f t) (g t))) ∙ same_line b i

      whole : (store out : List ℕ) → result_with (says s.answer) next store out ≡ result_of (call.mode i a) b store out
      whole store out =
          mode_does b i a asked p {stepped = stepped_to l s.modes s.channels} {next = next} read step refl
          (ap (λ (k : Line). with_line b i (stepped_to k s.modes s.channels)) (sym read)) store out

      pub goes_by : {r : Result (After A) Refusal} → r ≡ after_step b i s → (store out : List ℕ) → does says b r store out ≡ result_of (call.mode i a) b store out
      goes_by e store out = ap (λ (k : Result (After A) Refusal). does says b k store out) e ∙ go s.answer refl
        where
          go : (x : Result A Refusal) → s.answer ≡ x → does says b (beside next x) store out ≡ result_of (call.mode i a) b store out
          go (Ok x) f = ap (λ (k : Result A Refusal). result_with (says k) next store out) (sym f) ∙ whole store out
          go (Err r) f = (λ t. result_with (says (sym f t)) (sym (stays f) t) store out) ∙ whole store out
