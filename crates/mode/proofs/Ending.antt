-- A line that recovery has ended stays ended: every mode call is refused or, where it is a tick, changes the time alone.
-- Assumes nothing.
use Prim.Native.Nat.{ℕ, ◌≤◌, ◌<◌}
use mathlib.Core.Path.{◌≡◌, refl, ap, ◌∙◌}
use mathlib.Core.List.{List}
use native.Mathlib.Omega.{arith}
use borrow.Author.Tests.{ne_eqb, lt-ltb, le-leb}
use Rattle.ground.specs.declared.Refusal.TheVariants.{RECOVERY}
use Rattle.mode.specs.declared.Modes.{Modes}
use Rattle.mode.specs.declared.Channels.TheVariants.{Stay}
use Rattle.mode.specs.Moved.{stayed}
use Rattle.mode.specs.Indication.{hear_step}
use Rattle.mode.specs.Request.{ask_step}
use Rattle.ground.specs.Answer.{refused}
use Rattle.mode.specs.Acts.{Act, hear, ask, outcome, after, run}
use Rattle.mode.proofs.Steps.{hears, asks, moved_same, after_by, run_keeps, ticked_by}

-- "request or indication once ended" is RECOVERY, whatever mode it names, and changes nothing
module _ (l : Modes) (k time : ℕ) (t : l.last ≤ time) (over : 5 < l.tries) where
  pub indication_refused : outcome l (hear k time) ≡ record { said = refused RECOVERY; modes = l; channels = Stay }
  unfolding hear_step
  indication_refused = rw (le-leb l.last time t, lt-ltb 5 l.tries over)

  pub request_refused : outcome l (ask k time) ≡ record { said = refused RECOVERY; modes = l; channels = Stay }
  unfolding ask_step
  request_refused = rw (le-leb l.last time t, ne_eqb l.tries 0 (λ z. omega arith))

-- nothing but the time differs from what l was
Frozen : Modes → Modes → Type 0
Frozen l n = n ≡ stayed l n.last

frozen_tries : (l n : Modes) → Frozen l n → n.tries ≡ l.tries
unfolding Frozen stayed
frozen_tries l n f = ap (λ (m : Modes). m.tries) f

frozen_step : (l : Modes) → 5 < l.tries → (act : Act) → Frozen l (after l act)
unfolding Frozen stayed
frozen_step l over =
    after_by (Frozen l) l refl
    (λ k time e. let h = hears l k time e in absurd (omega arith))
    (λ k time e. let a = asks l k time e in absurd (omega arith))
    (λ time e. ticked_by (Frozen l) l time (rw (moved_same l time)) (λ a b c. absurd (omega arith)) (λ a b c. absurd (omega arith)) (λ a b. absurd (omega arith)))

-- THE PROMISE: after any mode calls an ended line is as it was, but for its last time
pub ended_stays : (l : Modes) → 5 < l.tries → (acts : List Act) → run l acts ≡ stayed l (run l acts).last
unfolding Frozen stayed
ended_stays l over =
    run_keeps (Frozen l)
    (λ n f act.
    let still : 5 < n.tries = omega (arith, frozen_tries l n f) in
    frozen_step n still act ∙ ap (λ (m : Modes). stayed m (after n act).last) f)
    l refl
