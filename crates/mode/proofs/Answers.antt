-- What the answers say: S after the call, the notice exactly if the remote mode changed, and that naming the present mode
-- changes only the time.
-- Assumes nothing.
use Prim.Native.Nat.{ℕ}
use mathlib.Core.Path.{◌≡◌, refl, sym}
use mathlib.Core.Bool.{not}
use mathlib.Core.List.{[], ◌∷◌}
use lib.Dec.{eqb}
use Rattle.std.specs.Prelude.{Ok}
use Rattle.ground.specs.Refusal.{verdict}
use Rattle.ground.proofs.Settled.{settled_took}
use Rattle.mode.specs.declared.Modes.{Modes}
use Rattle.mode.specs.declared.Heard.{Heard}
use Rattle.mode.specs.declared.Step.{Step}
use Rattle.mode.specs.declared.Channels.TheVariants.{Stay}
use Rattle.mode.specs.Moved.{moved, trying, stayed}
use Rattle.mode.specs.Indication.{hear_tests, heard_mode, heard_modes, hear_step}
use Rattle.mode.specs.Request.{ask_tests, ask_step}
use Rattle.ground.specs.Pick.{bit}
use Rattle.ground.specs.Answer.{accepted}
use Rattle.mode.specs.Says.{hear_says, ask_says}
use Rattle.mode.specs.Acts.{hear, ask, outcome, after}
use Rattle.mode.proofs.Emptying.{same_stays}
use Rattle.mode.proofs.Steps.{heard_by, moved_same}

-- S and the remote mode after an indication
heard_local : (l : Modes) (k time : ℕ) → (heard_modes l k time).local ≡ heard_mode l k
unfolding moved trying
heard_local l k time = heard_by (λ n. n.local ≡ heard_mode l k) l k time (λ a b. refl) (λ a. refl)

pub heard_remote : (l : Modes) (k time : ℕ) → (heard_modes l k time).remote ≡ k
unfolding moved trying
heard_remote l k time = heard_by (λ n. n.remote ≡ k) l k time (λ a b. refl) (λ a. refl)

-- "The answer says S, and that a P' notice is to be sent exactly if the remote mode changed"
pub heard_says : (l : Modes) (k time : ℕ) → verdict (hear_tests l k time) ≡ Ok tt →
    let n = after l (hear k time) in
    (outcome l (hear k time)).said ≡ accepted (n.local ∷ bit (not (eqb n.remote l.remote)) ∷ [])
unfolding hear_step
heard_says l k time e =
    settled_took (λ (o : Step Heard). hear_says o.answer ≡ accepted (o.modes.local ∷ bit (not (eqb o.modes.remote l.remote)) ∷ []))
    (verdict (hear_tests l k time)) _ e
    (λ i. accepted (sym (heard_local l k time) i ∷ bit (not (eqb (sym (heard_remote l k time) i) l.remote)) ∷ []))

-- a request is answered S, which is the mode it named
pub asked_says : (l : Modes) (k time : ℕ) → verdict (ask_tests l k time) ≡ Ok tt →
    ((outcome l (ask k time)).said ≡ accepted ((after l (ask k time)).local ∷ [])) × ((after l (ask k time)).local ≡ k)
unfolding ask_step moved
asked_says l k time e =
    settled_took (λ (o : Step ℕ). (ask_says o.answer ≡ accepted (o.modes.local ∷ [])) × (o.modes.local ≡ k))
    (verdict (ask_tests l k time)) _ e (refl, refl)

-- "naming the present mode changes only the time"
pub present_mode : (l : Modes) (time : ℕ) → verdict (ask_tests l l.local time) ≡ Ok tt →
    outcome l (ask l.local time) ≡ record { said = accepted (l.local ∷ []); modes = stayed l time; channels = Stay }
unfolding ask_step
present_mode l time e =
    rw e (λ i. record { said = accepted (l.local ∷ []); modes = moved_same l time i; channels = same_stays l.local i })
