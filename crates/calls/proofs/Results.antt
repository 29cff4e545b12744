-- What a call does, once its verdict is known.
-- Assumes nothing.
use Prim.Native.Nat.{ℕ}
use mathlib.Core.Path.{◌≡◌, refl, sym, ap, ◌∙◌}
use mathlib.Core.List.{List, [], ◌∷◌, ◌++◌}
use lib.ListN.{length}
use lib.Seq.{set-get_or}
use Rattle.std.specs.Prelude.{Result, Ok, Err, IsErrAnd}
use Rattle.ground.specs.Refusal.{Verdict, Test, verdict, settle}
use Rattle.ground.specs.Answer.{Answer, refused}
use Rattle.ground.specs.declared.Refusal.{Refusal}
use Rattle.ground.proofs.Settled.{handed_on}
use Rattle.mode.specs.Acts.{Act, act_tests, Outcome, outcome}
use Rattle.mode.specs.declared.Modes.{Modes}
use Rattle.mode.proofs.Refusing.{settles}
use Rattle.line.specs.Line.{closed_line}
use Rattle.line.specs.Mode.{stepped_to}
use Rattle.line.specs.declared.Line.{Line}
use Rattle.book.specs.Book.{line_of, with_line}
use Rattle.book.specs.declared.Book.{Book}
use Rattle.calls.specs.Call.{Call}
use Rattle.calls.specs.Call as call
use Rattle.calls.specs.Order.{order, line_for}
use Rattle.calls.specs.Stages.{tests, fit_book, line_number, must_be_open, mode_tests}
use Rattle.calls.proofs.OrderStages.{order_stages}
use Rattle.calls.proofs.Stops.{stops, goes_on}
use Rattle.calls.specs.Result.{CallResult, result_with, result_of, does, accepted_result, effect}
use Rattle.calls.specs.declared.After.{After}

module _ (c : Call) (b : Book) (store out : List ℕ) where
  abbrev its : Verdict
  its = verdict (order c b (length store) (length out))

  -- "Each refusal returns its number alone and changes neither book nor any octet"
  pub did_refused : {r : Refusal} → its ≡ Err r → result_of c b store out ≡ result_with (refused r) b store out
  unfolding result_of
  did_refused e = ap (λ (v : Verdict). settle v (λ r. result_with (refused r) b store out) (accepted_result c b store out)) e

  pub result_accepted : its ≡ Ok tt → result_of c b store out ≡ accepted_result c b store out
  unfolding result_of
  result_accepted e = ap (λ (v : Verdict). settle v (λ r. result_with (refused r) b store out) (accepted_result c b store out)) e

-- a call that hands on its verdict's refusal does what its order says
module _ {A : Type 0} (says : Result A Refusal → Answer) (alone : (r : Refusal) → says (Err r) ≡ refused r) (c : Call) (b : Book) (store out : List ℕ) where
  pub refused_does : (r : Result (After A) Refusal) {why : Refusal} → IsErrAnd r (λ x. x ≡ why) → verdict (order c b (length store) (length out)) ≡ Err why → does says b r store out ≡ result_of c b store out
  refused_does r {why} h e =
      ap (λ (s : Result (After A) Refusal). does says b s store out) (handed_on r h)
      ∙ ap (λ (a : Answer). result_with a b store out) (alone why)
      ∙ sym (did_refused c b store out e)

-- a line put back as it was leaves the book as it was
pub same_line : (b : Book) (i : ℕ) → with_line b i (line_of b i) ≡ b
same_line b i = λ t. record { lines = set-get_or b.lines i closed_line t; resting = b.resting; rested = b.rested }

-- The mode calls, whichever of the three it is: what they ask of the book is asked first, and then the outcome of the line's modes,
-- whatever that is, is what the call does.
module _ (b : Book) (i : ℕ) (a : Act) where
  abbrev m : Modes
  m = (line_of b i).modes

  abbrev earlier : List Test
  earlier = fit_book b ∷ line_number i ∷ must_be_open (line_of b i) ∷ []

  mode_stages : (n space : ℕ) → order (call.mode i a) b n space ≡ earlier ++ act_tests m a
  unfolding tests mode_tests
  mode_stages n space = order_stages (call.mode i a) b n space

  abbrev after : List ℕ → List ℕ → CallResult
  after store out = let o = outcome m a in result_with o.said (with_line b i (stepped_to (line_of b i) o.modes o.channels)) store out

  module _ {v : Verdict} (asked : v ≡ verdict earlier) where
    pub mode_refused : {r : Refusal} → v ≡ Err r → (store out : List ℕ) → result_with (refused r) b store out ≡ result_of (call.mode i a) b store out
    mode_refused p store out = sym (did_refused (call.mode i a) b store out (sym (stops earlier (act_tests m a) (mode_stages (length store) (length out)) asked p)))

    module _ (p : v ≡ Ok tt) where
      pub moved_did : (store out : List ℕ) → after store out ≡ result_of (call.mode i a) b store out
      unfolding accepted_result effect line_for stepped_to
      moved_did store out = go (verdict (act_tests m a)) refl
        where
          its_modes : verdict (order (call.mode i a) b (length store) (length out)) ≡ verdict (act_tests m a)
          its_modes = sym (goes_on earlier (act_tests m a) (mode_stages (length store) (length out)) asked p refl)

          go : (w : Verdict) → verdict (act_tests m a) ≡ w → after store out ≡ result_of (call.mode i a) b store out
          go (Ok tt) e = ap (λ (s : Answer). result_with s (with_line b i (stepped_to (line_of b i) (outcome m a).modes (outcome m a).channels)) store out) ((settles m a).taken e) ∙ sym (result_accepted (call.mode i a) b store out (its_modes ∙ e))
          go (Err r) e = (λ t. let o : Outcome = (settles m a).refuses r e t in result_with o.said (with_line b i (stepped_to (line_of b i) o.modes o.channels)) store out) ∙ ap (λ (k : Book). result_with (refused r) k store out) (same_line b i) ∙ sym (did_refused (call.mode i a) b store out (its_modes ∙ e))

      -- the code reads the line, makes the step of its modes, and puts the line back
      pub mode_does : {l stepped : Line} {next : Book} {o : Outcome} → l ≡ line_of b i → o ≡ outcome l.modes a → stepped ≡ stepped_to l o.modes o.channels → next ≡ with_line b i stepped
          → (store out : List ℕ) → result_with o.said next store out ≡ result_of (call.mode i a) b store out
      mode_does {o = o} read step put back store out =
          let h : o ≡ outcome m a = step ∙ ap (λ (k : Line). outcome k.modes a) read in
          let s = put ∙ (λ t. stepped_to (read t) (h t).modes (h t).channels) in
          (λ t. result_with (h t).said ((back ∙ ap (with_line b i) s) t) store out) ∙ moved_did store out
