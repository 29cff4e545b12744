-- What an indication can give, each with what leads to it.
-- Assumes nothing.
use Prim.Native.Nat.{ℕ}
use mathlib.Core.Path.{◌≡◌}
use mathlib.Core.Bool.{true}
use lib.Dec.{eqb}
use borrow.Author.Tests.{eqb-true, eqb-false}
use Rattle.ground.proofs.Picks.{pick_by}
use Rattle.mode.specs.declared.Modes.{Modes}
use Rattle.mode.specs.Given.{audio, voiceband, modem, offers_vbd, may_relay, as_voiceband, fax_or_text, given}

voiceband_by : (P : ℕ → Type 0) (l : Modes) → P audio → (offers_vbd l ≡ true → P voiceband) → P (as_voiceband l)
voiceband_by P l a v = pick_by P (offers_vbd l) v (λ e. a)

-- whatever is chosen for fax and text, it is a, or v where v is offered
fax_or_text_by : (P : ℕ → Type 0) (l : Modes) → P audio → (offers_vbd l ≡ true → P voiceband) → P (fax_or_text l)
unfolding fax_or_text
fax_or_text_by = voiceband_by

-- a may always come; v where it is offered and a was not heard; m where m was heard, is offered, and was not left or is the mode now
pub given_by : (P : ℕ → Type 0) (l : Modes) (k : ℕ) →
    P audio →
    ((k ≡ audio → ⊥) → offers_vbd l ≡ true → P voiceband) →
    (k ≡ modem → may_relay l ≡ true → P modem) →
    P (given l k)
unfolding given
given_by P l k a v m =
    pick_by P (eqb k audio) (λ e. a)
    (λ e.
    let other = eqb-false k audio e in
    pick_by P (eqb k voiceband) (λ f. voiceband_by P l a (v other))
    (λ f.
    pick_by P (eqb k modem)
    (λ g. pick_by P (may_relay l) (m (eqb-true k modem g)) (λ h. voiceband_by P l a (v other)))
    (λ g. fax_or_text_by P l a (v other))))
