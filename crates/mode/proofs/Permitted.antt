-- "of the choices that Table C.2 permits": every local mode that an indication leads to is one that the table permits.
-- Assumes nothing.
use Prim.Native.Nat.{ℕ, zero, suc, ◌≤◌}
use mathlib.Core.Path.{◌≡◌, refl}
use mathlib.Core.Bool.{true}
use native.Mathlib.Omega.{arith}
use lib.Dec.{eqb}
use Rattle.std.specs.Prelude.{Ok}
use Rattle.ground.specs.Refusal.{verdict}
use Rattle.ground.proofs.Picks.{pick_by}
use Rattle.mode.specs.declared.Modes.{Modes}
use Rattle.mode.specs.Given.{audio, voiceband, given}
use Rattle.mode.specs.Moved.{moved, trying}
use Rattle.mode.specs.Indication.{hear_tests, heard_mode, hear_step}
use Rattle.mode.specs.TableC2.{permitted}
use Rattle.mode.proofs.Givens.{given_by}
use Rattle.mode.proofs.Steps.{hears, heard_by}

-- a number from 1 to 5 is one of the five
five : (P : ℕ → Type 0) → P 1 → P 2 → P 3 → P 4 → P 5 → (k : ℕ) → 1 ≤ k → k ≤ 5 → P k
five P a b c d e zero l h = absurd (omega arith)
five P a b c d e (suc zero) l h = a
five P a b c d e (suc (suc zero)) l h = b
five P a b c d e (suc (suc (suc zero))) l h = c
five P a b c d e (suc (suc (suc (suc zero)))) l h = d
five P a b c d e (suc (suc (suc (suc (suc zero))))) l h = e
five P a b c d e (suc (suc (suc (suc (suc (suc k)))))) l h = absurd (omega arith)

-- every rule permits a, and every rule but the first permits v
audio_permitted : (k : ℕ) → 1 ≤ k → k ≤ 5 → permitted k audio ≡ true
audio_permitted = five (λ k. permitted k audio ≡ true) refl refl refl refl refl

voiceband_permitted : (k : ℕ) → 1 ≤ k → k ≤ 5 → (k ≡ audio → ⊥) → permitted k voiceband ≡ true
voiceband_permitted =
    five (λ k. (k ≡ audio → ⊥) → permitted k voiceband ≡ true) (λ h. absurd (h refl)) (λ h. refl) (λ h. refl) (λ h. refl) (λ h. refl)

-- what the table of document 01 gives, Table C.2 permits
pub given_permitted : (l : Modes) (k : ℕ) → 1 ≤ k → k ≤ 5 → permitted k (given l k) ≡ true
given_permitted l k a b =
    given_by (λ s. permitted k s ≡ true) l k (audio_permitted k a b) (λ h v. voiceband_permitted k a b h) (λ e h. rw e)

-- so is S after an indication, in recovery too
pub heard_permitted : (l : Modes) (k : ℕ) → 1 ≤ k → k ≤ 5 → permitted k (heard_mode l k) ≡ true
unfolding heard_mode
heard_permitted l k a b = pick_by (λ s. permitted k s ≡ true) (eqb l.tries 0) (λ e. given_permitted l k a b) (λ e. audio_permitted k a b)

-- THE PROMISE: where an indication is accepted, Table C.2 permits the local mode that it leaves the line in
pub indication_permitted : (l : Modes) (k time : ℕ) → verdict (hear_tests l k time) ≡ Ok tt → permitted k (hear_step l k time).modes.local ≡ true
unfolding hear_step moved trying
indication_permitted l k time e =
    let h = hears l k time e in
    rw e (heard_by (λ n. permitted k n.local ≡ true) l k time (λ t a. heard_permitted l k h.known h.served) (λ t. heard_permitted l k h.known h.served))
