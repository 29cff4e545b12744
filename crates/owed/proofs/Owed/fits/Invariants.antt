use Rattle.std.proofs.Common.{◌≡◌, true, length, take}
use Rattle.owed.specs.Owed.{all_spans, no_twice}
use Rattle.owed.proofs.Marks.{Marked}
use Rattle.owed.proofs.Owed.fits.Given as goal

abbrev pub invariant-loop-i : goal.invariant-loop-i
invariant-loop-i l = record {
  many : length l.marks ≡ 128;
  spans : all_spans (take l.i l.entries) ≡ true;
  once : no_twice (take l.i l.entries) ≡ true;
  marked : Marked l.marks (take l.i l.entries);
}
