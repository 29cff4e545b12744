-- Document 01's notice against C.5.3.1: where the two differ, and where not.
-- Assumes nothing.
use Prim.Native.Nat.{ℕ}
use mathlib.Core.Path.{◌≡◌, refl, ap, ◌∙◌}
use mathlib.Core.Bool.{Bool, true, false, ◌&&◌, ◌||◌, not}
use lib.Dec.{eqb}
use borrow.Author.Tests.{eq-eqb}
use Rattle.std.specs.Prelude.{Ok}
use Rattle.ground.specs.Refusal.{verdict}
use Rattle.ground.proofs.Settled.{settled_took}
use Rattle.mode.specs.declared.Modes.{Modes}
use Rattle.mode.specs.declared.Heard.{Heard}
use Rattle.mode.specs.declared.Step.{Step}
use Rattle.mode.specs.Moved.{moved}
use Rattle.mode.specs.Indication.{hear_tests, notice, hear_step}
use Rattle.mode.specs.Request.{ask_tests, ask_step}
use Rattle.mode.specs.Generation.{local_changed, remote_changed, was_answer, indication_due}
use Rattle.mode.specs.Acts.{hear, ask, after}
use Rattle.mode.proofs.Answers.{heard_remote}

-- s: S changed; r: the remote mode changed; e: the two now agree
with_notice : (s e : Bool) → ((s || true) && not (true && not s && e)) ≡ not (not s && e)
with_notice true e = refl
with_notice false e = refl

without_notice : (s e : Bool) → ((s || false) && not (false && not s && e)) ≡ s
without_notice true e = refl
without_notice false e = refl

due_with : (l n : Modes) → remote_changed l n ≡ true → indication_due l n ≡ not (was_answer l n)
due_with l n h = rw h (with_notice (local_changed l n) (eqb n.local n.remote))

due_without : (l n : Modes) → remote_changed l n ≡ false → indication_due l n ≡ local_changed l n
due_without l n h = rw h (without_notice (local_changed l n) (eqb n.local n.remote))

module _ (l : Modes) (k time : ℕ) (e : verdict (hear_tests l k time) ≡ Ok tt) where
  noticed : remote_changed l (after l (hear k time)) ≡ notice l k
  unfolding hear_step
  noticed =
      settled_took (λ (o : Step Heard). remote_changed l o.modes ≡ notice l k) (verdict (hear_tests l k time)) _ e
      (ap (λ (n : ℕ). not (eqb n l.remote)) (heard_remote l k time))

  -- where a notice is to be sent C.5.3.1 asks for an SSE too, but for its exception
  pub notice_but_for_answers : notice l k ≡ true → indication_due l (after l (hear k time)) ≡ not (was_answer l (after l (hear k time)))
  notice_but_for_answers h = due_with l (after l (hear k time)) (noticed ∙ h)

  -- where none is, C.5.3.1 asks for one exactly if S changed all the same
  pub no_notice : notice l k ≡ false → indication_due l (after l (hear k time)) ≡ local_changed l (after l (hear k time))
  no_notice h = due_without l (after l (hear k time)) (noticed ∙ h)

-- after a request C.5.3.1 asks for an SSE exactly if S changed
pub request_due : (l : Modes) (k time : ℕ) → verdict (ask_tests l k time) ≡ Ok tt → indication_due l (after l (ask k time)) ≡ not (eqb k l.local)
unfolding ask_step moved
request_due l k time e =
    settled_took (λ (o : Step ℕ). indication_due l o.modes ≡ not (eqb k l.local)) (verdict (ask_tests l k time)) _ e
    (rw (eq-eqb l.remote l.remote refl) (without_notice (not (eqb k l.local)) (eqb k l.remote)))
