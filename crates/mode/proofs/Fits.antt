-- BOOK's part of the modes as facts, and that every mode call keeps it.
-- Assumes nothing.
use Prim.Native.Nat.{ℕ, ◌≤◌}
use mathlib.Core.Path.{◌≡◌, refl}
use mathlib.Core.Bool.{Bool, true, false, ◌&&◌, ◌||◌, not}
use mathlib.Core.List.{List}
use mathlib.Core.Logic.{⊎_elim}
use native.Mathlib.Omega.{arith}
use lib.Dec.{eqb, leb, lit≤}
use borrow.Author.Tests.{eq-eqb, ne_eqb, le-leb, leb-true, eqb-true, eqb-false, not-false}
use Rattle.std.specs.Prelude.{Ok}
use Rattle.ground.specs.Pick.{bit}
use Rattle.ground.specs.Refusal.{verdict}
use Rattle.ground.proofs.Either.{or_second, or_either, or_cases}
use Rattle.ground.proofs.Picks.{pick_by, both_true, each, together}
use Rattle.mode.specs.declared.Modes.{Modes}
use Rattle.mode.specs.Given.{unknown, audio, voiceband, modem, text, offers_vbd, offers_relay, offered}
use Rattle.mode.specs.Moved.{opened_modes, leaves, moved, trying, timed}
use Rattle.mode.specs.Fit.{fit_tests, modes_fit}
use Rattle.mode.specs.Indication.{hear_tests, heard_mode, heard_modes}
use Rattle.mode.specs.Request.{ask_tests}
use Rattle.mode.specs.Recovery.{tick_tests, ticked_modes}
use Rattle.mode.specs.Acts.{Act, after, run}
use Rattle.mode.proofs.Givens.{given_by}
use Rattle.mode.proofs.Steps.{hears, asks, ticks, after_by, run_keeps, heard_by, ticked_by}

-- flags and modes are within their spans, S is offered, S is a in recovery and once ended, and no time is after the line's last
pub record Fit (l : Modes) : Type 0 where
  pub vbd : l.vbd ≤ 1
  pub relay : l.relay ≤ 1
  pub left : l.left ≤ 1
  pub low : audio ≤ l.local
  pub high : l.local ≤ modem
  pub far : l.remote ≤ text
  pub span : l.tries ≤ 6
  pub voice : l.local ≡ voiceband → offers_vbd l ≡ true
  pub relays : l.local ≡ modem → offers_relay l ≡ true
  pub ground : (l.tries ≡ 0 → ⊥) → l.local ≡ audio
  pub begun : (l.local ≡ l.remote → ⊥) → l.since ≤ l.last
  pub sent : (l.tries ≡ 0 → ⊥) → l.tried ≤ l.last

-- the test decides the facts
pub fit_facts : (l : Modes) → modes_fit l ≡ true → Fit l
unfolding modes_fit
fit_facts l e =
    let h = each (fit_tests l) e in
    let k = h.1.1.1 in
    record {
      vbd = leb-true _ _ h.0;
      relay = leb-true _ _ h.1.0;
      left = leb-true _ _ h.1.1.0;
      low = leb-true _ _ k.0;
      high = leb-true _ _ k.1.0;
      far = leb-true _ _ k.1.1.0;
      span = leb-true _ _ k.1.1.1.0;
      voice = λ v. or_second (not (eqb l.local voiceband)) _ k.1.1.1.1.0 (rw (eq-eqb _ _ v));
      relays = λ m. or_second (not (eqb l.local modem)) _ k.1.1.1.1.1.0 (rw (eq-eqb _ _ m));
      ground = λ n. eqb-true _ _ (or_second (eqb l.tries 0) _ k.1.1.1.1.1.1.0 (ne_eqb _ _ n));
      begun = λ d. leb-true _ _ (or_second (eqb l.local l.remote) _ k.1.1.1.1.1.1.1.0 (ne_eqb _ _ d));
      sent = λ n. leb-true _ _ (or_second (eqb l.tries 0) _ k.1.1.1.1.1.1.1.1.0 (ne_eqb _ _ n));
    }

pub facts_fit : (l : Modes) → Fit l → modes_fit l ≡ true
unfolding modes_fit
facts_fit l f =
    let voice = or_either (not (eqb l.local voiceband)) (offers_vbd l) (λ e. f.voice (eqb-true _ _ (not-false _ e))) in
    let relays = or_either (not (eqb l.local modem)) (offers_relay l) (λ e. f.relays (eqb-true _ _ (not-false _ e))) in
    let ground = or_either (eqb l.tries 0) (eqb l.local audio) (λ e. eq-eqb _ _ (f.ground (eqb-false _ _ e))) in
    let begun = or_either (eqb l.local l.remote) (leb l.since l.last) (λ e. le-leb _ _ (f.begun (eqb-false _ _ e))) in
    let sent = or_either (eqb l.tries 0) (leb l.tried l.last) (λ e. le-leb _ _ (f.sent (eqb-false _ _ e))) in
    together (fit_tests l) (
      le-leb _ _ f.vbd,
      (
        le-leb _ _ f.relay,
        (
          le-leb _ _ f.left,
          (le-leb _ _ f.low, (le-leb _ _ f.high, (le-leb _ _ f.far, (le-leb _ _ f.span, (voice, (relays, (ground, (begun, (sent, tt))))))))),
        ),
      ),
    )

bit_flag : (b : Bool) → bit b ≤ 1
bit_flag true = lit≤ tt
bit_flag false = lit≤ tt

-- the modes of a line just opened fit
pub opened_fits : (vbd relay : Bool) (time : ℕ) → modes_fit (opened_modes vbd relay time) ≡ true
opened_fits vbd relay time =
    facts_fit (opened_modes vbd relay time) (record {
      vbd = bit_flag vbd;
      relay = bit_flag relay;
      left = lit≤ tt;
      low = lit≤ tt;
      high = lit≤ tt;
      far = lit≤ tt;
      span = lit≤ tt;
      voice = λ e. absurd (omega arith);
      relays = λ e. absurd (omega arith);
      ground = λ n. refl;
      begun = λ d. absurd (d refl);
      sent = λ n. absurd (n refl);
    })

-- a local mode that the line may be in
record Serves (l : Modes) (s : ℕ) : Type 0 where
  pub low : audio ≤ s
  pub high : s ≤ modem
  pub voice : s ≡ voiceband → offers_vbd l ≡ true
  pub relays : s ≡ modem → offers_relay l ≡ true

audio_serves : (l : Modes) → Serves l audio
audio_serves l = record { low = lit≤ tt; high = lit≤ tt; voice = λ e. absurd (omega arith); relays = λ e. absurd (omega arith) }

voiceband_serves : (l : Modes) → offers_vbd l ≡ true → Serves l voiceband
voiceband_serves l v = record { low = lit≤ tt; high = lit≤ tt; voice = λ e. v; relays = λ e. absurd (omega arith) }

modem_serves : (l : Modes) → offers_relay l ≡ true → Serves l modem
modem_serves l m = record { low = lit≤ tt; high = lit≤ tt; voice = λ e. absurd (omega arith); relays = λ e. m }

-- what an indication gives is served, and so is what may be requested
heard_serves : (l : Modes) (k : ℕ) → Serves l (heard_mode l k)
unfolding heard_mode
heard_serves l k =
    pick_by (Serves l) (eqb l.tries 0)
    (λ t. given_by (Serves l) l k (audio_serves l) (λ h v. voiceband_serves l v) (λ e h. modem_serves l (both_true (offers_relay l) _ h).0))
    (λ t. audio_serves l)

offered_serves : (l : Modes) (k : ℕ) → offered l k ≡ true → Serves l k
offered_serves l k o =
    ⊎_elim
    (λ w.
    ⊎_elim
    (λ a. rw (eqb-true k audio a) (audio_serves l))
    (λ v.
    let b = both_true (eqb k voiceband) (offers_vbd l) v in
    rw (eqb-true k voiceband b.0) (voiceband_serves l b.1))
    (or_cases (eqb k audio) (eqb k voiceband && offers_vbd l) w))
    (λ m.
    let b = both_true (eqb k modem) (offers_relay l) m in
    rw (eqb-true k modem b.0) (modem_serves l b.1))
    (or_cases (eqb k audio || (eqb k voiceband && offers_vbd l)) (eqb k modem && offers_relay l) o)

same_serves : (l : Modes) → Fit l → Serves l l.local
same_serves l f = record { low = f.low; high = f.high; voice = f.voice; relays = f.relays }

-- a difference is never timed after the call that finds it
timed_within : (l : Modes) (s r time : ℕ) → Fit l → l.last ≤ time → (s ≡ r → ⊥) → timed l s r time ≤ time
unfolding timed
timed_within l s r time f t d =
    pick_by (λ n. n ≤ time) (eqb l.local l.remote)
    (λ a. pick_by (λ n. n ≤ time) (eqb s r) (λ e. absurd (d (eqb-true s r e))) (λ e. omega arith))
    (λ a.
    pick_by (λ n. n ≤ time) (eqb s r)
    (λ e. absurd (d (eqb-true s r e)))
    (λ e. omega (arith, f.begun (eqb-false _ _ a))))

moved_fits : (l : Modes) (s r time : ℕ) → Fit l → Serves l s → r ≤ text → ((l.tries ≡ 0 → ⊥) → s ≡ audio) → l.last ≤ time → Fit (moved l s r time)
unfolding moved
moved_fits l s r time f v far g t =
    record {
      vbd = f.vbd;
      relay = f.relay;
      left = pick_by (λ n. n ≤ 1) (leaves l.local s) (λ e. lit≤ tt) (λ e. f.left);
      low = v.low;
      high = v.high;
      far = far;
      span = f.span;
      voice = v.voice;
      relays = v.relays;
      ground = g;
      begun = timed_within l s r time f t;
      sent = λ n. omega (arith, f.sent n);
    }

trying_fits : (l : Modes) (n time : ℕ) → Fit l → n ≤ 6 → ((n ≡ 0 → ⊥) → l.local ≡ audio) → ((n ≡ 0 → ⊥) → time ≤ l.last) → Fit (trying l n time)
unfolding trying
trying_fits l n time f b g t =
    record {
      vbd = f.vbd;
      relay = f.relay;
      left = f.left;
      low = f.low;
      high = f.high;
      far = f.far;
      span = b;
      voice = f.voice;
      relays = f.relays;
      ground = g;
      begun = f.begun;
      sent = t;
    }

-- in recovery S stays a, whatever is heard
heard_ground : (l : Modes) (k : ℕ) → (l.tries ≡ 0 → ⊥) → heard_mode l k ≡ audio
unfolding heard_mode
heard_ground l k n = rw (ne_eqb l.tries 0 n)

heard_fits : (l : Modes) (k time : ℕ) → Fit l → verdict (hear_tests l k time) ≡ Ok tt → Fit (heard_modes l k time)
heard_fits l k time f e =
    let h = hears l k time e in
    let m = moved_fits l (heard_mode l k) k time f (heard_serves l k) h.served (heard_ground l k) h.in_time in
    heard_by Fit l k time (λ t a. trying_fits _ 0 0 m (lit≤ tt) (λ n. absurd (n refl)) (λ n. absurd (n refl))) (λ t. m)

asked_fits : (l : Modes) (k time : ℕ) → Fit l → verdict (ask_tests l k time) ≡ Ok tt → Fit (moved l k l.remote time)
asked_fits l k time f e =
    let a = asks l k time e in
    moved_fits l k l.remote time f (offered_serves l k a.offers) f.far (λ n. absurd (n a.calm)) a.in_time

ticked_fits : (l : Modes) (time : ℕ) → Fit l → verdict (tick_tests l time) ≡ Ok tt → Fit (ticked_modes l time)
unfolding moved
ticked_fits l time f e =
    let t = ticks l time e in
    let same = moved_fits l l.local l.remote time f (same_serves l f) f.far f.ground t in
    ticked_by Fit l time
    same
    (λ a b c.
    trying_fits _ 1 time (moved_fits l audio unknown time f (audio_serves l) (lit≤ tt) (λ n. refl) t) (lit≤ tt) (λ n. refl) (λ n. omega arith))
    (λ a b c. trying_fits _ _ time same (omega arith) (λ n. f.ground (λ z. omega arith)) (λ n. omega arith))
    (λ a b. trying_fits _ 6 _ same (lit≤ tt) (λ n. f.ground (λ z. omega arith)) (λ n. omega (arith, f.sent (λ z. omega arith))))

-- THE PROMISE: every mode call keeps what BOOK asks of the modes, and so does any sequence of them
pub call_keeps : (l : Modes) → modes_fit l ≡ true → (act : Act) → modes_fit (after l act) ≡ true
call_keeps l e act =
    let f = fit_facts l e in
    facts_fit (after l act) (after_by Fit l f (λ k time. heard_fits l k time f) (λ k time. asked_fits l k time f) (λ time. ticked_fits l time f) act)

pub run_fits : (l : Modes) → modes_fit l ≡ true → (acts : List Act) → modes_fit (run l acts) ≡ true
run_fits = run_keeps (λ l. modes_fit l ≡ true) call_keeps
