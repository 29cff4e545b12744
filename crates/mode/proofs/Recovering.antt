-- Recovery (document 01, "Recovery"; V.150.1, C.5.4.1): what each tick does, and what an indication does meanwhile.
-- Assumes nothing.
use Prim.Native.Nat.{ℕ, ◌≤◌, ◌<◌, ◌+◌, ◌-◌}
use mathlib.Core.Path.{◌≡◌, refl, ap, ◌∙◌}
use mathlib.Core.Bool.{Bool, true, false, ◌&&◌, not}
use mathlib.Core.List.{[], ◌∷◌}
use native.Mathlib.Omega.{arith}
use lib.Dec.{eqb, lit≤}
use borrow.Author.Tests.{eq-eqb, ne_eqb, lt-ltb, le-ltb, le-leb, lt-leb}
use Rattle.mode.specs.declared.Modes.{Modes}
use Rattle.mode.specs.declared.Channels.{Channels}
use Rattle.mode.specs.declared.Channels.TheVariants.{Stay}
use Rattle.mode.specs.Given.{unknown, audio, text}
use Rattle.mode.specs.Moved.{channels_for, moved, trying, stayed, ended}
use Rattle.mode.specs.Indication.{heard_mode, heard_modes, notice, hear_step}
use Rattle.mode.specs.Recovery.{due, differed_long, tried_long, ticked_modes, try_due, tick_step}
use Rattle.ground.specs.Pick.{bit}
use Rattle.ground.specs.Answer.{accepted}
use Rattle.mode.specs.Acts.{hear, ask, tick, Outcome, outcome, after}
use Rattle.mode.proofs.Emptying.{same_stays}
use Rattle.mode.proofs.Tries.{answer_says, ended_rests}
use Rattle.mode.proofs.Steps.{hear_by, ask_by, heard_by}

-- what a tick that is not too early gives: the try it makes in numbers, the modes, and the channels' fate
abbrev gives : ℕ → Modes → Channels → Outcome
gives n next channels = record { said = accepted (n ∷ []); modes = next; channels = channels }

and_false : (t : Bool) → (not t && false) ≡ false
and_false true = refl
and_false false = refl

module _ (l : Modes) (time : ℕ) (t : l.last ≤ time) where
  ticked : outcome l (tick time) ≡ gives (try_due l time) (ticked_modes l time) (channels_for l.local (ticked_modes l time).local)
  unfolding tick_step
  ticked = rw (le-leb l.last time t) (λ i. record { said = answer_says l time i; modes = ticked_modes l time; channels = channels_for l.local (ticked_modes l time).local })

  -- what a tick gives once its try and its modes are known; where S does not move, the channels stay
  comes_to : (n : ℕ) (next : Modes) → try_due l time ≡ n → ticked_modes l time ≡ next → outcome l (tick time) ≡ gives n next (channels_for l.local next.local)
  comes_to n next a b = ticked ∙ (λ i. gives (a i) (b i) (channels_for l.local (b i).local))

  rests : (n : ℕ) (next : Modes) → try_due l time ≡ n → ticked_modes l time ≡ next → next.local ≡ l.local → outcome l (tick time) ≡ gives n next Stay
  rests n next a b c = comes_to n next a b ∙ (λ i. gives n next ((ap (channels_for l.local) c ∙ same_stays l.local) i))

  -- nothing is due: only the time changes
  quiet : l.tries ≤ 5 → due l time ≡ false → outcome l (tick time) ≡ gives 0 (stayed l time) Stay
  unfolding ticked_modes stayed
  quiet r d = rests 0 (stayed l time) (rw (le-ltb 5 l.tries r, d)) (rw d) refl

  -- outside recovery
  module _ (none : l.tries ≡ 0) where
    calm : due l time ≡ differed_long l time
    unfolding due
    calm = rw none

    -- "a tick finds S and the remote mode to have differed for more than 1,000 ms. Then S is a, the remote mode i, and an audio
    -- indication is due at once: try 1"
    pub recovery_begins : (l.local ≡ l.remote → ⊥) → 1000 < time - l.since →
        outcome l (tick time) ≡ gives 1 (trying (moved l audio unknown time) 1 time) (channels_for l.local audio)
    unfolding ticked_modes trying moved
    recovery_begins d w =
        let now : due l time ≡ true = calm ∙ rw (ne_eqb l.local l.remote d, lt-ltb 1000 (time - l.since) w) in
        comes_to 1 (trying (moved l audio unknown time) 1 time)
        (rw (le-ltb 5 l.tries (omega arith), now) (omega arith))
        (rw (now, eq-eqb l.tries 0 none))

    -- not where they agree, nor where they have differed for 1,000 ms or less
    pub modes_agree : l.local ≡ l.remote → outcome l (tick time) ≡ gives 0 (stayed l time) Stay
    modes_agree a = quiet (omega arith) (calm ∙ rw (eq-eqb l.local l.remote a))

    pub not_yet : time - l.since ≤ 1000 → outcome l (tick time) ≡ gives 0 (stayed l time) Stay
    not_yet w = quiet (omega arith) (calm ∙ rw (le-ltb 1000 (time - l.since) w) (and_false (eqb l.local l.remote)))

  -- in recovery
  module _ (some : 0 < l.tries) where
    trial : l.tries ≤ 5 → due l time ≡ tried_long l time
    unfolding due
    trial r = rw (le-ltb 5 l.tries r, ne_eqb l.tries 0 (λ z. omega arith))

    -- "a tick 1,000 ms or more after the last try sends one more, at most one per tick"
    pub one_more : l.tries < 5 → 1000 ≤ time - l.tried →
        outcome l (tick time) ≡ gives (l.tries + 1) (trying (stayed l time) (l.tries + 1) time) Stay
    unfolding ticked_modes trying stayed
    one_more r w =
        let now : due l time ≡ true = trial (omega arith) ∙ rw (le-leb 1000 (time - l.tried) w) in
        rests (l.tries + 1) (trying (stayed l time) (l.tries + 1) time)
        (rw (le-ltb 5 l.tries (omega arith), now))
        (rw (now, ne_eqb l.tries 0 (λ z. omega arith), ne_eqb l.tries 5 (λ z. omega arith)))
        refl

    -- "After try 5 the next one due ends the line instead"
    pub line_ends : l.tries ≡ 5 → 1000 ≤ time - l.tried → outcome l (tick time) ≡ gives 6 (trying (stayed l time) 6 l.tried) Stay
    unfolding ticked_modes trying stayed
    line_ends r w =
        let now : due l time ≡ true = trial (omega arith) ∙ rw (le-leb 1000 (time - l.tried) w) in
        rests 6 (trying (stayed l time) 6 l.tried)
        (rw (le-ltb 5 l.tries (omega arith), now) (omega arith))
        (rw (now, ne_eqb l.tries 0 (λ z. omega arith), eq-eqb l.tries 5 r))
        refl

    -- and before 1,000 ms are over nothing is sent
    pub waits : l.tries ≤ 5 → time - l.tried < 1000 → outcome l (tick time) ≡ gives 0 (stayed l time) Stay
    waits r w = quiet r (trial r ∙ rw (lt-leb 1000 (time - l.tried) w))

  -- "A tick on an ended line says ended again", and changes the time alone
  pub ended_again : 5 < l.tries → outcome l (tick time) ≡ gives 6 (stayed l time) Stay
  unfolding ticked_modes stayed
  ended_again o =
      let over : ended l ≡ true = lt-ltb 5 l.tries o in
      rests 6 (stayed l time) (rw over) (rw (ended_rests l time over)) refl

-- only ticks begin recovery: an indication or a request outside it leaves the count of tries at 0
pub hearing_begins_none : (l : Modes) (k time : ℕ) → l.tries ≡ 0 → (after l (hear k time)).tries ≡ 0
unfolding moved trying
hearing_begins_none l k time none = hear_by (λ n. n.tries ≡ 0) l none k time (λ e. heard_by (λ n. n.tries ≡ 0) l k time (λ a b. refl) (λ a. none))

pub asking_begins_none : (l : Modes) (k time : ℕ) → l.tries ≡ 0 → (after l (ask k time)).tries ≡ 0
unfolding moved
asking_begins_none l k time none = ask_by (λ n. n.tries ≡ 0) l none k time (λ e. none)

-- an indication heard in recovery: S stays a, and the notice goes by the remote mode as ever
module _ (l : Modes) (time : ℕ) (t : l.last ≤ time) (some : 0 < l.tries) (running : l.tries ≤ 5) where
  stays_audio : (k : ℕ) → heard_mode l k ≡ audio
  unfolding heard_mode
  stays_audio k = rw (ne_eqb l.tries 0 (λ z. omega arith))

  recorded : (k : ℕ) (next : Modes) → audio ≤ k → k ≤ text → heard_modes l k time ≡ next →
      outcome l (hear k time) ≡ record { said = accepted (audio ∷ bit (notice l k) ∷ []); modes = next; channels = channels_for l.local audio }
  unfolding hear_step
  recorded k next a b m =
      rw (le-leb l.last time t, le-ltb 5 l.tries running, le-leb audio k a, le-leb k text b)
      (λ i. record { said = accepted (stays_audio k i ∷ bit (notice l k) ∷ []); modes = m i; channels = channels_for l.local (stays_audio k i) })

  -- "Hearing a ends recovery": both modes are a, and no try is counted any more
  pub audio_ends_recovery : outcome l (hear audio time) ≡
      record { said = accepted (audio ∷ bit (notice l audio) ∷ []); modes = trying (moved l audio audio time) 0 0; channels = channels_for l.local audio }
  unfolding heard_modes
  audio_ends_recovery = recorded audio (trying (moved l audio audio time) 0 0) (lit≤ tt) (lit≤ tt) (rw (lt-ltb 0 l.tries some, stays_audio audio))

  -- "During recovery an indication other than a is recorded as the remote mode and S stays a"
  pub other_is_recorded : (k : ℕ) → audio < k → k ≤ text → outcome l (hear k time) ≡
      record { said = accepted (audio ∷ bit (notice l k) ∷ []); modes = moved l audio k time; channels = channels_for l.local audio }
  unfolding heard_modes
  other_is_recorded k a b =
      recorded k (moved l audio k time) (omega arith) b (rw (lt-ltb 0 l.tries some, ne_eqb k audio (λ e. omega arith), stays_audio k))
