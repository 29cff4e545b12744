-- The cases of a mode call, each with what leads to it: what every promise about one call or several goes by.
-- Assumes nothing.
use Prim.Native.Nat.{ℕ, ◌≤◌, ◌<◌, ◌+◌, ◌-◌}
use mathlib.Core.Path.{◌≡◌, refl, sym, subst}
use mathlib.Core.Bool.{Bool, true, false, ◌&&◌, not}
use mathlib.Core.List.{List, [], ◌∷◌}
use native.Mathlib.Omega.{arith}
use borrow.Author.Tests.{eqb-true, eqb-false, ltb-true, ltb-false, leb-true, not-true, lt-ltb, eq-eqb, ne_eqb}
use lib.Dec.{eqb, ltb}
use Rattle.std.specs.Prelude.{Result, Ok}
use Rattle.ground.specs.Pick.{pick}
use Rattle.ground.specs.Refusal.{verdict}
use Rattle.ground.proofs.Either.{by_test}
use Rattle.ground.proofs.Picks.{pick_by, both_true, clash}
use Rattle.ground.proofs.Settled.{settled_by}
use Rattle.ground.proofs.Verdicts.{passed}
use Rattle.mode.specs.declared.Modes.{Modes}
use Rattle.mode.specs.declared.Heard.{Heard}
use Rattle.mode.specs.declared.Step.{Step}
use Rattle.mode.specs.declared.Due.{Due}
use Rattle.mode.specs.Given.{unknown, audio, modem, text, has_left, offered}
use Rattle.mode.specs.Moved.{timed, moved, trying, stayed, ended}
use Rattle.mode.specs.Indication.{hear_tests, heard_mode, heard_modes, hear_step}
use Rattle.mode.specs.Request.{ask_tests, ask_step}
use Rattle.mode.specs.Recovery.{tick_tests, due, ticked_modes, ticked_answer, tick_step}
use Rattle.mode.proofs.Tries.{ended_rests, due_first, due_next}
use Rattle.mode.specs.Acts.{Act, hear, ask, tick, after, run, time_of}
use Rattle.mode.specs.declared.Due.TheVariants.{Quiet, Audio, Ended}
use Rattle.ground.specs.declared.Refusal.{Refusal}

-- what an accepted indication, request or tick has shown
pub record Indicated (l : Modes) (k time : ℕ) : Type 0 where
  pub in_time : l.last ≤ time
  pub running : l.tries ≤ 5
  pub known : audio ≤ k
  pub served : k ≤ text

pub record Asked (l : Modes) (k time : ℕ) : Type 0 where
  pub in_time : l.last ≤ time
  pub calm : l.tries ≡ 0
  pub offers : offered l k ≡ true
  pub fresh : (eqb k modem && has_left l) ≡ false

pub hears : (l : Modes) (k time : ℕ) → verdict (hear_tests l k time) ≡ Ok tt → Indicated l k time
hears l k time e =
    let h = passed (hear_tests l k time) e in
    let b = both_true _ _ h.1.1.0 in
    record {
      in_time = leb-true _ _ h.0;
      running = ltb-false _ _ (not-true _ h.1.0);
      known = leb-true _ _ b.0;
      served = leb-true _ _ b.1;
    }

pub asks : (l : Modes) (k time : ℕ) → verdict (ask_tests l k time) ≡ Ok tt → Asked l k time
asks l k time e =
    let h = passed (ask_tests l k time) e in
    record {
      in_time = leb-true _ _ h.0;
      calm = eqb-true _ _ h.1.0;
      offers = h.1.1.0;
      fresh = not-true _ h.1.1.1.0;
    }

pub ticks : (l : Modes) (time : ℕ) → verdict (tick_tests l time) ≡ Ok tt → l.last ≤ time
ticks l time e = leb-true _ _ (passed (tick_tests l time) e).0

same_left : (t : Bool) (left : ℕ) → pick (t && not t) 1 left ≡ left
same_left true left = refl
same_left false left = refl

same_since : (t : Bool) (since time : ℕ) → pick t (pick t since time) (pick t 0 since) ≡ since
same_since true since time = refl
same_since false since time = refl

-- moving to the modes that are there already changes the time alone
pub moved_same : (l : Modes) (time : ℕ) → moved l l.local l.remote time ≡ stayed l time
unfolding moved timed stayed
moved_same l time =
    let left = same_left (eqb l.local modem) l.left in
    let since = same_since (eqb l.local l.remote) l.since time in
    λ i. record {
      vbd = l.vbd;
      relay = l.relay;
      local = l.local;
      remote = l.remote;
      left = left i;
      tries = l.tries;
      since = since i;
      tried = l.tried;
      last = time;
    }

-- what holds of the record as it was, and of what a call makes of it once its tests pass, holds after the call
module _ (P : Modes → Type 0) (l : Modes) (same : P l) where
  pub hear_by : (k time : ℕ) → (verdict (hear_tests l k time) ≡ Ok tt → P (heard_modes l k time)) → P (hear_step l k time).modes
  unfolding hear_step
  hear_by k time heard = settled_by (λ (o : Step Heard). P o.modes) (verdict (hear_tests l k time)) (λ r e. same) heard

  pub ask_by : (k time : ℕ) → (verdict (ask_tests l k time) ≡ Ok tt → P (moved l k l.remote time)) → P (ask_step l k time).modes
  unfolding ask_step
  ask_by k time asked = settled_by (λ (o : Step ℕ). P o.modes) (verdict (ask_tests l k time)) (λ r e. same) asked

  pub tick_by : (time : ℕ) → (verdict (tick_tests l time) ≡ Ok tt → P (ticked_modes l time)) → P (tick_step l time).modes
  unfolding tick_step
  tick_by time ticked = settled_by (λ (o : Step Due). P o.modes) (verdict (tick_tests l time)) (λ r e. same) ticked

  pub after_by :
      ((k time : ℕ) → verdict (hear_tests l k time) ≡ Ok tt → P (heard_modes l k time)) →
      ((k time : ℕ) → verdict (ask_tests l k time) ≡ Ok tt → P (moved l k l.remote time)) →
      ((time : ℕ) → verdict (tick_tests l time) ≡ Ok tt → P (ticked_modes l time)) →
      (act : Act) → P (after l act)
  after_by heard asked ticked (hear k time) = hear_by k time (heard k time)
  after_by heard asked ticked (ask k time) = ask_by k time (asked k time)
  after_by heard asked ticked (tick time) = tick_by time (ticked time)

-- what each call keeps, a run of them keeps
pub run_keeps : (P : Modes → Type 0) → ((l : Modes) → P l → (act : Act) → P (after l act)) → (l : Modes) → P l → (acts : List Act) → P (run l acts)
unfolding run
run_keeps P step l p [] = p
run_keeps P step l p (act ∷ acts) = run_keeps P step (after l act) (step l p act) acts

-- an indication either ends recovery, or is only recorded
pub heard_by : (P : Modes → Type 0) (l : Modes) (k time : ℕ) →
    (0 < l.tries → k ≡ audio → P (trying (moved l (heard_mode l k) k time) 0 0)) →
    ((0 < l.tries → k ≡ audio → ⊥) → P (moved l (heard_mode l k) k time)) →
    P (heard_modes l k time)
unfolding heard_modes
heard_by P l k time ends stays =
    pick_by P (ltb 0 l.tries && eqb k audio)
    (λ t. let b = both_true _ _ t in ends (ltb-true _ _ b.0) (eqb-true _ _ b.1))
    (λ t. stays (λ h e. clash (sym (rw (lt-ltb 0 l.tries h, eq-eqb k audio e) at t))))

-- a tick does nothing, says that the line has ended, begins recovery, tries once more, or ends the line; each with its answer
module _ (P : Due → Modes → Type 0) (l : Modes) (time : ℕ)
    (quiet : due l time ≡ false → l.tries ≤ 5 → P Quiet (moved l l.local l.remote time))
    (over : 5 < l.tries → P Ended (moved l l.local l.remote time))
    (first : l.tries ≡ 0 → (l.local ≡ l.remote → ⊥) → 1000 < time - l.since → P (Audio 1) (trying (moved l audio unknown time) 1 time))
    (more : 0 < l.tries → l.tries < 5 → 1000 ≤ time - l.tried → P (Audio (l.tries + 1)) (trying (moved l l.local l.remote time) (l.tries + 1) time))
    (last : l.tries ≡ 5 → 1000 ≤ time - l.tried → P Ended (trying (moved l l.local l.remote time) 6 l.tried))
  where
    pub tick_cases : P (ticked_answer l time) (ticked_modes l time)
    unfolding ticked_modes ticked_answer
    tick_cases =
        rw (sym (moved_same l time))
        (by_test (ended l)
        (λ o. rw (o, ended_rests l time o) (over (ltb-true 5 l.tries o)))
        (λ o.
        let running : l.tries ≤ 5 = ltb-false 5 l.tries o in
        by_test (due l time)
        (λ d.
        by_test (eqb l.tries 0)
        (λ z.
        let none : l.tries ≡ 0 = eqb-true l.tries 0 z in
        let w = due_first l time d none in
        let one : 1 ≡ l.tries + 1 = omega arith in
        rw (o, d, z, ne_eqb l.tries 5 (λ f. omega arith))
        (subst (λ (n : ℕ). P (Audio n) (trying (moved l audio unknown time) 1 time)) one (first none w.0 w.1)))
        (λ z.
        let some : l.tries ≡ 0 → ⊥ = eqb-false l.tries 0 z in
        by_test (eqb l.tries 5)
        (λ f. rw (o, d, z, f) (last (eqb-true l.tries 5 f) (due_next l time d some)))
        (λ f.
        let below : l.tries ≡ 5 → ⊥ = eqb-false l.tries 5 f in
        rw (o, d, z, f) (more (omega arith) (omega arith) (due_next l time d some)))))
        (λ d. rw (o, d) (quiet d running))))

-- the same where only the modes matter
pub ticked_by : (P : Modes → Type 0) (l : Modes) (time : ℕ) →
    P (moved l l.local l.remote time) →
    (l.tries ≡ 0 → (l.local ≡ l.remote → ⊥) → 1000 < time - l.since → P (trying (moved l audio unknown time) 1 time)) →
    (0 < l.tries → l.tries < 5 → 1000 ≤ time - l.tried → P (trying (moved l l.local l.remote time) (l.tries + 1) time)) →
    (l.tries ≡ 5 → 1000 ≤ time - l.tried → P (trying (moved l l.local l.remote time) 6 l.tried)) →
    P (ticked_modes l time)
ticked_by P l time stays first more last = tick_cases (λ t n. P n) l time (λ d r. stays) (λ o. stays) first more last

-- what holds after every move at a time, whatever the tries, holds after every call that names that time
module _ (P : Modes → Type 0) (l : Modes) (same : P l) where
  pub moves_by : (act : Act) →
      ((s r : ℕ) → P (moved l s r (time_of act))) →
      ((s r n tried : ℕ) → P (trying (moved l s r (time_of act)) n tried)) →
      P (after l act)
  moves_by (hear k time) m t = hear_by P l same k time (λ e. heard_by P l k time (λ a b. t _ _ 0 0) (λ a. m _ _))
  moves_by (ask k time) m t = ask_by P l same k time (λ e. m k l.remote)
  moves_by (tick time) m t = tick_by P l same time (λ e. ticked_by P l time (m _ _) (λ a b c. t _ _ 1 time) (λ a b c. t _ _ _ time) (λ a b. t _ _ 6 _))
