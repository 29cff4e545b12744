-- A packet written leaves a line that BOOK lets pass, with its settings and its modes as they were.
-- Assumes nothing.
use mathlib.Core.Path.{◌≡◌}
use mathlib.Core.Bool.{true}
use Rattle.mode.specs.Given.{modem}
use Rattle.owed.specs.Owed.{without_three}
use Rattle.owed.proofs.Steps.{leave_keeps}
use Rattle.line.specs.Line.{is_open}
use Rattle.line.specs.Fit.{line_fits}
use Rattle.line.specs.Shape.{Shaped}
use Rattle.line.specs.declared.Line.{Line}
use Rattle.line.proofs.Keeps.{line_ok, ok_line}
use Rattle.line.proofs.Same.{SameSettings, with_owed_same}
use Rattle.writing.specs.Write.{wrote_line}

pub wrote_line_same : (l : Line) → SameSettings l (wrote_line l)
unfolding wrote_line
wrote_line_same l = with_owed_same l (without_three l.owed)

-- in modem relay what BOOK asks is kept, and so are the lengths of the line's arrays
pub wrote_line_keeps : (l : Line) → is_open l ≡ true → line_fits l ≡ true → l.modes.local ≡ modem → Shaped l
    → (line_fits (wrote_line l) ≡ true) × Shaped (wrote_line l)
unfolding wrote_line
wrote_line_keeps l opened fits inside shaped =
    let k = line_ok l opened fits in (
      ok_line (wrote_line l) (record {
        flag = k.flag;
        settings = k.settings;
        modes = k.modes;
        sending1 = k.sending1;
        sending2 = k.sending2;
        receiving1 = k.receiving1;
        receiving2 = k.receiving2;
        owed = leave_keeps l.owed k.owed;
        quiet = λ n. absurd (n inside);
      }),
      record { sending1 = shaped.sending1; sending2 = shaped.sending2; receiving1 = shaped.receiving1; receiving2 = shaped.receiving2 },
    )
