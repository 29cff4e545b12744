-- "Each refusal returns its number alone and changes neither book nor any octet"; "every accepted mode call set[s] the line's last time".
-- Assumes nothing.
use Prim.Native.Nat.{ℕ, ◌<◌}
use mathlib.Core.Path.{◌≡◌, refl, sym, ap}
use mathlib.Core.List.{[]}
use native.Mathlib.Omega.{arith}
use Rattle.std.specs.Prelude.{Ok, Err}
use Rattle.ground.specs.Refusal.{Verdict, number_of, verdict}
use Rattle.ground.specs.Answer.{Answer, accepted, refused}
use Rattle.ground.specs.declared.Refusal.{Refusal}
use Rattle.ground.proofs.Numbers.{number_some}
use Rattle.ground.proofs.Settled.{settled_took}
use Rattle.mode.specs.declared.Modes.{Modes}
use Rattle.mode.specs.declared.Channels.TheVariants.{Stay}
use Rattle.mode.specs.declared.Heard.{Heard}
use Rattle.mode.specs.declared.Step.{Step}
use Rattle.mode.specs.declared.Due.{Due}
use Rattle.mode.specs.Moved.{moved, trying}
use Rattle.mode.specs.Indication.{hear_tests, heard_modes, hear_step}
use Rattle.mode.specs.Request.{ask_tests, ask_step}
use Rattle.mode.specs.Recovery.{tick_tests, ticked_modes, tick_step}
use Rattle.mode.specs.Acts.{Act, hear, ask, tick, act_tests, Outcome, outcome, after, time_of}
use Rattle.mode.proofs.Steps.{heard_by, ticked_by}
use Rattle.mode.proofs.Tries.{answer_says}

-- a refused call gave back the modes as they were, left the channels alone and said its number alone
pub record Unchanged (l : Modes) (o : Outcome) : Type 0 where
  pub modes : o.modes ≡ l
  pub channels : o.channels ≡ Stay
  pub alone : o.said.values ≡ []

heard_last : (l : Modes) (k time : ℕ) → (heard_modes l k time).last ≡ time
unfolding moved trying
heard_last l k time = heard_by (λ n. n.last ≡ time) l k time (λ a b. refl) (λ a. refl)

ticked_last : (l : Modes) (time : ℕ) → (ticked_modes l time).last ≡ time
unfolding moved trying
ticked_last l time = ticked_by (λ n. n.last ≡ time) l time refl (λ a b c. refl) (λ a b c. refl) (λ a b. refl)

-- What a mode call does by its verdict: its values and the call's time, or a refusal and nothing changed.
pub record Settles (l : Modes) (act : Act) (v : Verdict) : Type 0 where
  pub taken : v ≡ Ok tt → (outcome l act).said ≡ accepted (outcome l act).said.values
  pub timed : v ≡ Ok tt → (after l act).last ≡ time_of act
  pub refuses : (r : Refusal) → v ≡ Err r → outcome l act ≡ record { said = refused r; modes = l; channels = Stay }

pub settles : (l : Modes) (act : Act) → Settles l act (verdict (act_tests l act))
unfolding hear_step ask_step tick_step moved
settles l (hear k time) =
    record {
      taken = λ e. rw e;
      timed = λ e. settled_took (λ (o : Step Heard). o.modes.last ≡ time) (verdict (hear_tests l k time)) _ e (heard_last l k time);
      refuses = λ r e. rw e;
    }
settles l (ask k time) =
    record {
      taken = λ e. rw e;
      timed = λ e. settled_took (λ (o : Step ℕ). o.modes.last ≡ time) (verdict (ask_tests l k time)) _ e refl;
      refuses = λ r e. rw e;
    }
settles l (tick time) =
    record {
      taken = λ e. rw (e, answer_says l time);
      timed = λ e. settled_took (λ (o : Step Due). o.modes.last ≡ time) (verdict (tick_tests l time)) _ e (ticked_last l time);
      refuses = λ r e. rw e;
    }

-- by its number an answer says which of the two it is
module _ (l : Modes) (act : Act) where
  by_number : (P : Type 0) (v : Verdict) → v ≡ verdict (act_tests l act) →
      (verdict (act_tests l act) ≡ Ok tt → (outcome l act).said.number ≡ 0 → P) →
      ((r : Refusal) → outcome l act ≡ record { said = refused r; modes = l; channels = Stay } → 0 < (outcome l act).said.number → P) → P
  by_number P (Ok tt) e taken refuses = taken (sym e) (ap (λ (a : Answer). a.number) ((settles l act).taken (sym e)))
  by_number P (Err r) e taken refuses =
      let o = (settles l act).refuses r (sym e) in
      let n : (outcome l act).said.number ≡ number_of r = ap (λ (x : Outcome). x.said.number) o in
      refuses r o (omega (arith, n, number_some r))

  -- THE PROMISE: a refusal changes nothing and says its number alone
  pub refusal_changes_nothing : 0 < (outcome l act).said.number → Unchanged l (outcome l act)
  refusal_changes_nothing some =
      by_number (Unchanged l (outcome l act)) _ refl (λ p z. absurd (omega arith))
      (λ r o n. record { modes = ap (λ (x : Outcome). x.modes) o; channels = ap (λ (x : Outcome). x.channels) o; alone = ap (λ (x : Outcome). x.said.values) o })

  -- every accepted call sets the line's last time
  pub accepted_sets_time : (outcome l act).said.number ≡ 0 → (after l act).last ≡ time_of act
  accepted_sets_time none = by_number ((after l act).last ≡ time_of act) _ refl (λ p z. (settles l act).timed p) (λ r o n. absurd (omega arith))
