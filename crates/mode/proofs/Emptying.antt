-- "Entering m starts both channels fresh. Leaving m, for any cause, .. empties its stores": what an outcome says of the channels.
-- Assumes nothing.
use Prim.Native.Nat.{ℕ}
use mathlib.Core.Path.{◌≡◌, refl, sym}
use native.Mathlib.Omega.{arith}
use lib.Dec.{eqb}
use borrow.Author.Tests.{eqb-true, eqb-false}
use Rattle.ground.specs.Refusal.{verdict}
use Rattle.ground.proofs.Either.{by_test}
use Rattle.ground.proofs.Settled.{settled_by}
use Rattle.mode.specs.declared.Modes.{Modes}
use Rattle.mode.specs.declared.Channels.{Channels}
use Rattle.mode.specs.declared.Channels.TheVariants.{Stay, Fresh, Emptied}
use Rattle.mode.specs.declared.Heard.{Heard}
use Rattle.mode.specs.declared.Step.{Step}
use Rattle.mode.specs.declared.Due.{Due}
use Rattle.mode.specs.Given.{modem}
use Rattle.mode.specs.Moved.{channels_for, moved, trying}
use Rattle.mode.specs.Indication.{hear_tests, heard_mode, hear_step}
use Rattle.mode.specs.Request.{ask_tests, ask_step}
use Rattle.mode.specs.Recovery.{tick_tests, tick_step}
use Rattle.mode.specs.Acts.{Act, hear, ask, tick, outcome, after}
use Rattle.mode.proofs.Steps.{heard_by}

-- the four cases, by whether the local mode was m and is m
pub channels_by : (P : Channels → Type 0) (s s' : ℕ) →
    ((s ≡ modem → ⊥) → s' ≡ modem → P Fresh) →
    (s ≡ modem → (s' ≡ modem → ⊥) → P Emptied) →
    (s ≡ modem → s' ≡ modem → P Stay) →
    ((s ≡ modem → ⊥) → (s' ≡ modem → ⊥) → P Stay) →
    P (channels_for s s')
unfolding channels_for
channels_by P s s' entered left inside outside =
    by_test (eqb s modem)
    (λ a.
    by_test (eqb s' modem)
    (λ b. rw (a, b) (inside (eqb-true s modem a) (eqb-true s' modem b)))
    (λ b. rw (a, b) (left (eqb-true s modem a) (eqb-false s' modem b))))
    (λ a.
    by_test (eqb s' modem)
    (λ b. rw (a, b) (entered (eqb-false s modem a) (eqb-true s' modem b)))
    (λ b. rw (a, b) (outside (eqb-false s modem a) (eqb-false s' modem b))))

-- a mode that stays leaves the channels alone
pub same_stays : (s : ℕ) → channels_for s s ≡ Stay
same_stays s = channels_by (λ c. c ≡ Stay) s s (λ a b. absurd (a b)) (λ a b. absurd (b a)) (λ a b. refl) (λ a b. refl)

module _ (s s' : ℕ) where
  -- fresh exactly if the local mode became m from another
  pub fresh_only : channels_for s s' ≡ Fresh → (s ≡ modem → ⊥) × (s' ≡ modem)
  fresh_only =
      channels_by (λ c. c ≡ Fresh → (s ≡ modem → ⊥) × (s' ≡ modem)) s s'
      (λ a b e. (a, b)) (λ a b e. absurd (let z : ◌≡◌ {A = ℕ} 0 1 = cc in omega arith)) (λ a b e. absurd (let z : ◌≡◌ {A = ℕ} 0 1 = cc in omega arith)) (λ a b e. absurd (let z : ◌≡◌ {A = ℕ} 0 1 = cc in omega arith))

  pub fresh_if : (s ≡ modem → ⊥) → s' ≡ modem → channels_for s s' ≡ Fresh
  fresh_if a b = channels_by (λ c. c ≡ Fresh) s s' (λ x y. refl) (λ x y. absurd (a x)) (λ x y. absurd (a x)) (λ x y. absurd (y b))

  -- emptied exactly if it left m for another
  pub emptied_only : channels_for s s' ≡ Emptied → (s ≡ modem) × (s' ≡ modem → ⊥)
  emptied_only =
      channels_by (λ c. c ≡ Emptied → (s ≡ modem) × (s' ≡ modem → ⊥)) s s'
      (λ a b e. absurd (let z : ◌≡◌ {A = ℕ} 0 1 = cc in omega arith)) (λ a b e. (a, b)) (λ a b e. absurd (let z : ◌≡◌ {A = ℕ} 0 1 = cc in omega arith)) (λ a b e. absurd (let z : ◌≡◌ {A = ℕ} 0 1 = cc in omega arith))

  pub emptied_if : s ≡ modem → (s' ≡ modem → ⊥) → channels_for s s' ≡ Emptied
  emptied_if a b = channels_by (λ c. c ≡ Emptied) s s' (λ x y. absurd (x a)) (λ x y. refl) (λ x y. absurd (b y)) (λ x y. absurd (x a))

-- THE PROMISE: every call's word on the channels goes by the local mode before and after it, and by nothing else
pub by_local : (l : Modes) (act : Act) → (outcome l act).channels ≡ channels_for l.local (after l act).local
unfolding hear_step ask_step tick_step moved trying
by_local l (hear k time) =
    settled_by (λ (o : Step Heard). o.channels ≡ channels_for l.local o.modes.local) (verdict (hear_tests l k time))
    (λ r e. sym (same_stays l.local))
    (λ e. heard_by (λ n. channels_for l.local (heard_mode l k) ≡ channels_for l.local n.local) l k time (λ a b. refl) (λ a. refl))
by_local l (ask k time) =
    settled_by (λ (o : Step ℕ). o.channels ≡ channels_for l.local o.modes.local) (verdict (ask_tests l k time))
    (λ r e. sym (same_stays l.local))
    (λ e. refl)
by_local l (tick time) =
    settled_by (λ (o : Step Due). o.channels ≡ channels_for l.local o.modes.local) (verdict (tick_tests l time))
    (λ r e. sym (same_stays l.local))
    (λ e. refl)
