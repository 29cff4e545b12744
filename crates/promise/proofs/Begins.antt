-- A fresh gateway opens a line that offers modem relay, and a request brings the line there.
-- Assumes nothing.
use Rattle.book.specs.Parts.{store_length}
use Rattle.book.specs.Parts.{part_start}
use Prim.Native.Nat.{ℕ, ◌≤◌, ◌<◌}
use mathlib.Core.Path.{◌≡◌, refl, sym, ap, subst, ◌∙◌}
use mathlib.Core.Bool.{true, not}
use mathlib.Core.List.{List, ◌∷◌}
use native.Mathlib.Omega.{arith}
use lib.ListN.{length}
use borrow.Author.Tests.{le-leb}
use Rattle.std.specs.Prelude.{Ok}
use Rattle.ground.specs.Refusal.{verdict}
use Rattle.ground.proofs.Verdicts.{passes}
use Rattle.mode.specs.Given.{modem}
use Rattle.mode.specs.Moved.{moved}
use Rattle.mode.specs.Request.{ask_tests, ask_step}
use Rattle.mode.specs.Acts.{ask, outcome}
use Rattle.mode.specs.declared.Modes.{Modes}
use Rattle.owed.specs.Owed.{member}
use Rattle.line.specs.Fit.{settings_fit}
use Rattle.line.specs.Line.{is_open, closed_line, opened_line}
use Rattle.line.specs.declared.Line.{Line}
use Rattle.line.specs.declared.Settings.{Settings}
use Rattle.book.specs.Book.{fresh_book, open_in}
use Rattle.book.proofs.RestingTurns.{get_or_alike}
use Rattle.calls.specs.Call.{Call}
use Rattle.calls.specs.Call as call
use Rattle.calls.specs.Order.{line_for}
use Rattle.calls.specs.Stages.{tests, fit_book, line_number, open_tests, mode_tests}
use Rattle.calls.specs.Result.{result_of, effect}
use Rattle.promise.specs.Past.{nothing_yet, just_opened}
use Rattle.promise.specs.Run.{Gateway, fresh_with, line_at}
use Rattle.promise.specs.Ours.{after}
use Rattle.promise.specs.Demand3.{Begins}
use Rattle.promise.proofs.Fresh.{Unused, opened_unused}
use Rattle.promise.proofs.Phases.{Open, Sound, unused, sound_after}
use Rattle.promise.proofs.OwnLine.{Passes, call_accepted, line_left}
use Rattle.promise.proofs.LineStays.{stepped_open, stepped_modes}
use Rattle.promise.proofs.StepsKeep.{fresh_sound}

-- a request for m that is not refused
asked_modem : (m : Modes) (time : ℕ) → verdict (ask_tests m modem time) ≡ Ok tt → (outcome m (ask modem time)).modes.local ≡ modem
unfolding ask_step moved
asked_modem m time e = rw e refl

module _ (store : List ℕ) (long : store_length fresh_book ≤ length store) (i : ℕ) (small : i < 4) (s : Settings) (fit : settings_fit s ≡ true) (relay : s.relay ≡ true)
    (time then : ℕ) (later : time ≤ then) (out : List ℕ) where
  abbrev g : Gateway
  g = fresh_with store

  abbrev opening : Call
  opening = call.opening i s time

  abbrev asks : Call
  asks = call.mode i (ask modem then)

  abbrev h : Gateway
  h = after g opening out

  fresh : Sound i s.identifier s.kind g nothing_yet
  fresh = fresh_sound i s.identifier s.kind store small long

  numbered : (line_number i).holds ≡ true
  numbered = le-leb i 3 (omega arith)

  open_passes : Passes g opening out
  unfolding tests open_tests open_in member
  open_passes =
      passes (fit_book fresh_book ∷ line_number i ∷ open_tests fresh_book i s)
      (fresh.fits, (numbered, (ap (λ (l : Line). not (is_open l)) (get_or_alike 4 i closed_line), (fit, (refl, tt)))))

  opened : line_at h i ≡ opened_line s time
  unfolding line_for effect
  opened = line_left fresh opening out refl open_passes

  its : Open s.identifier s.kind (line_at h i)
  its = subst (Open s.identifier s.kind) (sym opened) (record { opened = refl; named = refl; typed = refl })

  sound : Sound i s.identifier s.kind h just_opened
  sound = sound_after fresh opening out (unused its (subst Unused (sym opened) (opened_unused s time)))

  asked : verdict (ask_tests (line_at h i).modes modem then) ≡ Ok tt
  asked = subst (λ (l : Line). verdict (ask_tests l.modes modem then) ≡ Ok tt) (sym opened) (rw (le-leb time then later, relay) refl)

  ask_passes : Passes h asks out
  unfolding tests mode_tests
  ask_passes = rw (sound.fits, numbered, its.opened) asked

  line : line_at (after h asks out) i ≡ (effect asks i (line_at h i) (part_start h.book i) h.store out).line
  unfolding line_for
  line = line_left sound asks out refl ask_passes

  pub begins : Begins result_of g i s time then out
  unfolding effect
  begins =
      let l = line_at h i in
      let o = outcome l.modes (ask modem then) in
      record {
        accepted = call_accepted g opening out open_passes;
        there = record {
          accepted = call_accepted h asks out ask_passes;
          opened = ap is_open line ∙ (stepped_open l o.modes o.channels its).opened;
          inside = ap (λ (x : Line). x.modes.local) line ∙ ap (λ (m : Modes). m.local) (stepped_modes l o.modes o.channels) ∙ asked_modem l.modes then asked;
        };
      }
