-- "The difference is timed from the event that began it and goes on while they differ, even if either changes."
-- Assumes nothing.
use Prim.Native.Nat.{ℕ}
use mathlib.Core.Path.{◌≡◌, refl, ◌∙◌}
use mathlib.Core.List.{List, [], ◌∷◌}
use borrow.Author.Tests.{eq-eqb, ne_eqb}
use Rattle.mode.specs.declared.Modes.{Modes}
use Rattle.mode.specs.Moved.{timed, moved, trying}
use Rattle.mode.specs.Acts.{Act, after, run, time_of, Agree, Differ, Apart}
use Rattle.mode.proofs.Steps.{moves_by}

-- what `since` says after a move, in the four cases
module _ (l : Modes) (s r time : ℕ) where
  began_now : Agree l → (s ≡ r → ⊥) → timed l s r time ≡ time
  unfolding timed
  began_now a d = rw (eq-eqb l.local l.remote a, ne_eqb s r d)

  goes_on : Differ l → (s ≡ r → ⊥) → timed l s r time ≡ l.since
  unfolding timed
  goes_on a d = rw (ne_eqb l.local l.remote a, ne_eqb s r d)

  over_now : Differ l → s ≡ r → timed l s r time ≡ 0
  unfolding timed
  over_now a d = rw (ne_eqb l.local l.remote a, eq-eqb s r d)

  untouched : Agree l → s ≡ r → timed l s r time ≡ l.since
  unfolding timed
  untouched a d = rw (eq-eqb l.local l.remote a, eq-eqb s r d)

-- a call that makes the modes differ times the difference from itself
pub begins : (l : Modes) → Agree l → (act : Act) → Differ (after l act) → (after l act).since ≡ time_of act
unfolding moved trying
begins l a act d =
    moves_by (λ n. Differ n → n.since ≡ time_of act) l (λ h. absurd (h a)) act
    (λ s r h. began_now l s r _ a h) (λ s r n t h. began_now l s r _ a h) d

-- a call after which they still differ keeps that time, whatever it changed
pub goes_on_step : (l : Modes) → Differ l → (act : Act) → Differ (after l act) → (after l act).since ≡ l.since
unfolding moved trying
goes_on_step l a act d =
    moves_by (λ n. Differ n → n.since ≡ l.since) l (λ h. refl) act
    (λ s r h. goes_on l s r _ a h) (λ s r n t h. goes_on l s r _ a h) d

-- a call that ends the difference sets the time back
pub ends : (l : Modes) → Differ l → (act : Act) → Agree (after l act) → (after l act).since ≡ 0
unfolding moved trying
ends l a act d =
    moves_by (λ n. Agree n → n.since ≡ 0) l (λ h. absurd (a h)) act
    (λ s r h. over_now l s r _ a h) (λ s r n t h. over_now l s r _ a h) d

-- and where they agree before and after, it is untouched
pub untouched_step : (l : Modes) → Agree l → (act : Act) → Agree (after l act) → (after l act).since ≡ l.since
unfolding moved trying
untouched_step l a act d =
    moves_by (λ n. Agree n → n.since ≡ l.since) l (λ h. refl) act
    (λ s r h. untouched l s r _ a h) (λ s r n t h. untouched l s r _ a h) d

pub goes_on_run : (l : Modes) → Differ l → (acts : List Act) → Apart l acts → (run l acts).since ≡ l.since
unfolding run
goes_on_run l d [] a = refl
goes_on_run l d (act ∷ acts) a = goes_on_run (after l act) a.0 acts a.1 ∙ goes_on_step l d act a.0

-- THE PROMISE: the time of the difference is that of the call that began it, after any calls that keep the modes differing
pub timed_from_its_event : (l : Modes) → Agree l → (act : Act) (acts : List Act) → Apart l (act ∷ acts) → (run (after l act) acts).since ≡ time_of act
timed_from_its_event l a act acts d = goes_on_run (after l act) d.0 acts d.1 ∙ begins l a act d.0
