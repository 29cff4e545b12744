-- A line that does not offer relay is never in m, and its channels stay: what a gateway of a and v alone rests on.
-- Assumes nothing.
use Prim.Native.Nat.{ℕ}
use mathlib.Core.Path.{◌≡◌, refl, sym, ◌∙◌}
use mathlib.Core.Bool.{Bool, true, false}
use mathlib.Core.List.{List}
use Rattle.ground.proofs.Picks.{clash}
use Rattle.mode.specs.declared.Modes.{Modes}
use Rattle.mode.specs.declared.Channels.TheVariants.{Stay}
use Rattle.mode.specs.Given.{modem, offers_relay}
use Rattle.mode.specs.Moved.{opened_modes, moved, trying}
use Rattle.mode.specs.Fit.{modes_fit}
use Rattle.mode.specs.Acts.{Act, outcome, after, run}
use Rattle.mode.proofs.Emptying.{channels_by, by_local}
use Rattle.mode.proofs.Fits.{fit_facts, opened_fits, call_keeps}
use Rattle.mode.proofs.Steps.{moves_by, run_keeps}

-- modes that BOOK lets pass, and relay is not offered
pub record Plain (l : Modes) : Type 0 where
  pub fits : modes_fit l ≡ true
  pub without : offers_relay l ≡ false

-- S is not m, as m is not offered
pub not_modem : (l : Modes) → Plain l → l.local ≡ modem → ⊥
not_modem l p e = clash (sym p.without ∙ (fit_facts l p.fits).relays e)

-- no call changes what is offered
pub relay_stays : (l : Modes) (act : Act) → offers_relay (after l act) ≡ offers_relay l
unfolding moved trying
relay_stays l act = moves_by (λ n. offers_relay n ≡ offers_relay l) l refl act (λ s r. refl) (λ s r n t. refl)

pub plain_stays : (l : Modes) → Plain l → (act : Act) → Plain (after l act)
plain_stays l p act = record { fits = call_keeps l p.fits act; without = relay_stays l act ∙ p.without }

-- THE PROMISE: without relay offered S is never m, whatever mode calls come
pub never_modem : (l : Modes) → Plain l → (acts : List Act) → (run l acts).local ≡ modem → ⊥
never_modem l p acts = not_modem (run l acts) (run_keeps Plain plain_stays l p acts)

-- and no call says anything of the channels but that they stay
pub channels_stay : (l : Modes) → Plain l → (act : Act) → (outcome l act).channels ≡ Stay
channels_stay l p act =
    by_local l act
    ∙ channels_by (λ c. c ≡ Stay) l.local (after l act).local
    (λ a b. absurd (not_modem (after l act) (plain_stays l p act) b))
    (λ a b. absurd (not_modem l p a))
    (λ a b. refl)
    (λ a b. refl)

-- such are the modes of a line just opened without relay
pub opened_plain : (vbd : Bool) (time : ℕ) → Plain (opened_modes vbd false time)
opened_plain vbd time = record { fits = opened_fits vbd false time; without = refl }
