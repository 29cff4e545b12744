-- Bodies and slips: every one that may be written is written and reads back.
-- Assumes nothing.
use Prim.Native.Nat.{ℕ, ◌≤◌}
use mathlib.Core.Path.{◌≡◌, refl, ap, ◌∙◌}
use mathlib.Core.List.{List, [], ◌∷◌}
use mathlib.Core.Bool.{true}
use native.Mathlib.Omega.{arith}
use lib.ListN.{length, drop}
use lib.Seq.{take-append_seam}
use borrow.Author.Tests.{le-leb}
use Rattle.std.specs.Prelude.{Ok, Err}
use Rattle.ground.specs.Answer.{Answer, accepted}
use Rattle.ground.specs.Pick.{bit}
use Rattle.ground.specs.Refusal.{Verdict, verdict, settle}
use Rattle.ground.proofs.Verdicts.{passes}
use Rattle.connect.specs.Read.{connect_at}
use Rattle.connect.specs.Read as connect
use Rattle.connect.specs.Write.{connect_octets}
use Rattle.connect.specs.Write as body
use Rattle.connect.specs.declared.Connect.{Connect}
use Rattle.roundtrip.proofs.Connects as connect_back
use Rattle.breaks.specs.Break.{break_at, break_octets}
use Rattle.breaks.specs.Break as breaks
use Rattle.breaks.specs.declared.Break.{Break}
use Rattle.roundtrip.proofs.Breaks as break_back
use Rattle.slip.specs.Slip.{slip_octets}
use Rattle.slip.specs.Slip as slip
use Rattle.roundtrip.proofs.Slips as slip_back
use Rattle.mode.specs.Moved.{ended}
use Rattle.line.specs.declared.Line.{Line}
use Rattle.book.proofs.Facts.{line_fits_lem}
use Rattle.calls.specs.Call as call
use Rattle.calls.specs.Order.{line_for}
use Rattle.calls.specs.Stages.{tests, fit_book, line_number, close_tests}
use Rattle.calls.specs.Result.{effect, slip_of}
use Rattle.gateway.proofs.Slips.{slip_passes}
use Rattle.promise.specs.Build.{left_by, our_bodies}
use Rattle.promise.specs.Past.{nothing_yet}
use Rattle.promise.specs.Run.{Gateway, accepts, given, line_at}
use Rattle.promise.specs.Ours.{does}
use Rattle.promise.specs.Demand2.{Back, Ready}
use Rattle.promise.proofs.Phases.{Sound, closed}
use Rattle.promise.proofs.OwnLine.{Passes, call_accepted, octets_given}

-- what is written into an output is its first octets
left_back : (v : Verdict) (octets out : List ℕ) (read : List ℕ → Answer) {says : Answer} → v ≡ Ok tt → read octets ≡ says → Back (left_by v octets out) octets read says
left_back (Ok tt) octets out read ok e =
    let s = take-append_seam octets (drop (length octets) out) in
    record { written = refl; stands = s; reads = ap read s ∙ e }
left_back (Err r) octets out read ok e = absurd (let z : ◌≡◌ {A = ℕ} 0 1 = cc in omega arith)

pub connect_written : (c : Connect) (out : List ℕ) → verdict (body.write_tests c (length out)) ≡ Ok tt
    → Back (our_bodies.connect_write c out) (connect_octets c) our_bodies.connect_read (connect.answer_of (Ok c))
connect_written c out ok =
    left_back (verdict (body.write_tests c (length out))) (connect_octets c) out our_bodies.connect_read ok (ap connect.answer_of (connect_back.round c (length out) ok))

pub connect_read_lem : (s : List ℕ) → verdict (connect.read_tests s) ≡ Ok tt → our_bodies.connect_read s ≡ connect.answer_of (Ok (connect_at s))
connect_read_lem s ok = ap (λ (v : Verdict). connect.answer_of (settle v Err (Ok (connect_at s)))) ok

pub break_written : (c : Break) (out : List ℕ) → verdict (breaks.write_tests c (length out)) ≡ Ok tt
    → Back (our_bodies.break_write c out) (break_octets c) our_bodies.break_read (breaks.answer_of (Ok c))
break_written c out ok =
    left_back (verdict (breaks.write_tests c (length out))) (break_octets c) out our_bodies.break_read ok (ap breaks.answer_of (break_back.round c (length out) ok))

pub break_read_lem : (s : List ℕ) → verdict (breaks.read_tests s) ≡ Ok tt → our_bodies.break_read s ≡ breaks.answer_of (Ok (break_at s))
break_read_lem s ok = ap (λ (v : Verdict). breaks.answer_of (settle v Err (Ok (break_at s)))) ok

pub slip_read_lem : (s : List ℕ) → verdict (slip.read_tests s) ≡ Ok tt → our_bodies.slip_read s ≡ slip.answer_of (Ok (slip.slip_at s))
slip_read_lem s ok = ap (λ (v : Verdict). slip.answer_of (settle v Err (Ok (slip.slip_at s)))) ok

-- any line of a book that BOOK lets pass
pub ready_sound : {g : Gateway} {i : ℕ} → Ready g i → Sound i 0 0 g nothing_yet
ready_sound r = record { fits = r.fits; shaped = r.shaped; long = r.long; small = r.small; phase = closed }

-- "Closing writes a slip"
module _ {g : Gateway} {i : ℕ} (r : Ready g i) (out : List ℕ) (space : slip.slip_length ≤ length out) where
  abbrev l : Line
  l = line_at g i

  close_passes : Passes g (call.closing i) out
  unfolding tests close_tests
  close_passes = passes (fit_book g.book ∷ line_number i ∷ close_tests l (length out)) (r.fits, (le-leb i 3 (omega (arith, r.small)), (r.opened, (le-leb slip.slip_length (length out) space, tt))))

  fitting : verdict (slip.write_tests (slip_of l) (length out)) ≡ Ok tt
  unfolding close_tests
  fitting = slip_passes l (length out) (line_fits_lem g.book r.fits i) (passes (close_tests l (length out)) (r.opened, (le-leb slip.slip_length (length out) space, tt)))

  written : given (does g (call.closing i) out) ≡ slip_octets (slip_of l)
  unfolding line_for effect
  written = octets_given (ready_sound r) (call.closing i) out refl close_passes (slip_octets (slip_of l)) refl refl

  pub slip_written : (accepts (does g (call.closing i) out) ≡ true)
      × (given (does g (call.closing i) out) ≡ slip_octets (slip_of l))
      × (our_bodies.slip_read (given (does g (call.closing i) out)) ≡ accepted (l.identifier ∷ l.kind ∷ l.receiving.one.next ∷ l.receiving.two.next ∷ bit (ended l.modes) ∷ []))
  unfolding slip_of
  slip_written = (call_accepted g (call.closing i) out close_passes, written, ap our_bodies.slip_read written ∙ ap slip.answer_of (slip_back.round (slip_of l) (length out) fitting))
