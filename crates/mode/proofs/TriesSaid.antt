-- Every tick's answer that has a try has one of 1 to 5.
-- Assumes nothing.
use Prim.Native.Nat.{ℕ}
use native.Mathlib.Omega.{arith}
use lib.Dec.{eqb}
use borrow.Author.Tests.{eqb-false}
use Rattle.std.specs.Prelude.{Ok}
use Rattle.ground.specs.Refusal.{verdict}
use Rattle.ground.proofs.Picks.{pick_by}
use Rattle.ground.proofs.Settled.{settled_by}
use Rattle.mode.specs.Recovery.{tick_tests, due, ticked_answer, tick_step}
use Rattle.mode.specs.Moved.{ended}
use Rattle.mode.specs.declared.Modes.{Modes}
use Rattle.mode.specs.declared.Due.{Due}
use Rattle.mode.specs.declared.Step.{Step}
use Rattle.mode.proofs.Tries.{due_tries}
use Rattle.mode.specs.Tries.{Tries}

pub tick_tries : (m : Modes) (time : ℕ) → Tries (tick_step m time).answer
unfolding tick_step ticked_answer
tick_tries m time =
    settled_by (λ (t : Step Due). Tries t.answer) (verdict (tick_tests m time))
    (λ r e. tt)
    (λ _.
    pick_by (λ (d : Due). Tries (Ok d)) (ended m) (λ _. tt)
    (λ _.
    pick_by (λ (d : Due). Tries (Ok d)) (due m time)
    (λ d. pick_by (λ (d : Due). Tries (Ok d)) (eqb m.tries 5) (λ _. tt) (λ n. (omega arith, omega (arith, due_tries m time d, eqb-false m.tries 5 n))))
    (λ _. tt)))
