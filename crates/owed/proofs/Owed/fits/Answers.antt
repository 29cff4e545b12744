use Rattle.std.proofs.Common.{◌≡◌, ◌<◌, refl, sym, ap, ◌∙◌, true, false, ℕ, List, length, take, get_or, replicate, arith, length-set}
use Rattle.std.proofs.lemmas.List.{take_all}
use Rattle.owed.specs.Owed.{member, all_spans, no_twice, mark_of}
use Rattle.owed.proofs.Lists.{found, spans_on, once_on, spans_lost, twice_lost}
use Rattle.owed.proofs.Marks.{unmarked_new, marked_none, marked_on}
use Rattle.owed.proofs.Steps.{owed_fits_lem, fits_many, fits_span, fits_twice}
use Rattle.owed.proofs.Owed.fits.Goals as goal
use Rattle.owed.proofs.Owed.fits.Goals.{else-marks-at-via-then-marks-at+else-contains, else-marks-at-via-else-marks-at}

none : (l : List ℕ) → (all_spans (take 0 l) ≡ true) × (no_twice (take 0 l) ≡ true)
unfolding all_spans no_twice
none l = (refl, refl)

pub returns-then-self-gt-MOST : goal.returns-then-self-gt-MOST
returns-then-self-gt-MOST c = sym (fits_many c.args.self (omega arith))

pub returns-then-self-eq0 : goal.returns-then-self-eq0
returns-then-self-eq0 c =
    let o = c.args.self in
    let e : o.count ≡ 0 = omega arith in
    sym (owed_fits_lem o (record { few = omega arith; spans = rw e (none o.numbers).0; once = rw e (none o.numbers).1 }))

pub loop-i-init : goal.loop-i-init
loop-i-init c =
    let l = c.entries-entries.result.now in
    record { many = refl; spans = (none l).0; once = (none l).1; marked = marked_none (replicate 128 false) l }

pub returns-then-not-served : goal.returns-then-not-served
returns-then-not-served c =
    let l = c.entries-entries.result.now in
    let lost = spans_lost l c.loop-i.i (omega arith) (sym c.served.ensures ∙ c.if-not-served.true) in
    sym (fits_span c.args.self (sym (ap all_spans c.entries-entries.ensures) ∙ lost))

pub returns-then-contains : goal.returns-then-contains
returns-then-contains c =
    let l = c.entries-entries.result.now in
    let i = c.loop-i.i in
    let there = found (get_or l i 0) (take i l) _ _ refl c.contains.ensures.value ∙ c.if-contains.true in
    sym (fits_twice c.args.self (sym (ap no_twice c.entries-entries.ensures) ∙ twice_lost l i (omega arith) there))

pub loop-i-preserved : goal.loop-i-preserved
loop-i-preserved c =
    let l = c.entries-entries.result.now in
    let i = c.loop-i.i in
    let w : ℕ = get_or l i 0 in
    let before = c.loop-i.invariant in
    let at : c.mark-at.result ≡ mark_of w = c.mark-at.ensures.0 in
    let room : mark_of w < length c.loop-i.marks = omega arith in
    let new : member w (take i l) ≡ false = elim c.else-marks-at.branch [
      | else-marks-at-via-then-marks-at+else-contains v ↦ found w (take i l) _ _ refl v.contains.ensures.value ∙ v.if-contains.false
      | else-marks-at-via-else-marks-at v ↦ unmarked_new c.loop-i.marks (take i l) w before.marked (rw at at v.if-marks-at.false)
    ] in
    record {
      many = length-set _ _ _ ∙ before.many;
      spans = spans_on l i (omega arith) before.spans (sym c.served.ensures ∙ c.if-not-served.false);
      once = once_on l i (omega arith) before.once new;
      marked = rw at (marked_on c.loop-i.marks l i (omega arith) room before.marked);
    }

pub returns : goal.returns
returns c =
    let o = c.args.self in
    let l = c.loop-i in
    let e = take_all l.i c.entries-entries.result.now (omega arith) ∙ c.entries-entries.ensures in
    sym (owed_fits_lem o (record {
      few = omega arith;
      spans = sym (ap all_spans e) ∙ l.invariant.spans;
      once = sym (ap no_twice e) ∙ l.invariant.once;
    }))
