-- A verdict worked out in two parts, as every call with a book does: where the earlier tests refuse, the call stops at their refusal, and
-- where they pass, those after them decide.
-- Assumes nothing.
use mathlib.Core.Path.{◌≡◌, sym, ap, ◌∙◌}
use mathlib.Core.List.{List, ◌++◌}
use Rattle.std.specs.Prelude.{Ok, Err}
use Rattle.ground.specs.Refusal.{Verdict, Test, verdict}
use Rattle.ground.specs.declared.Refusal.{Refusal}
use Rattle.ground.proofs.Verdicts.{verdict_on, verdict_stop}

module _ (earlier behind : List Test) {whole : List Test} (parts : whole ≡ earlier ++ behind) {v : Verdict} (asked : v ≡ verdict earlier) where
  pub stops : {r : Refusal} → v ≡ Err r → Err r ≡ verdict whole
  stops p = sym (ap verdict parts ∙ verdict_stop earlier behind (sym asked ∙ p))

  pub goes_on : {w : Verdict} → v ≡ Ok tt → w ≡ verdict behind → w ≡ verdict whole
  goes_on p q = q ∙ sym (ap verdict parts ∙ verdict_on earlier behind (sym asked ∙ p))
