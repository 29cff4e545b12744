-- What follows where a try is due, and what a tick's answer says in numbers.
-- Assumes nothing.
use Prim.Native.Nat.{ℕ, ◌≤◌, ◌<◌, ◌+◌, ◌-◌}
use mathlib.Core.Path.{◌≡◌, refl}
use mathlib.Core.Bool.{Bool, true, false, not}
use mathlib.Core.List.{[], ◌∷◌}
use lib.Dec.{eqb}
use borrow.Author.Tests.{eqb-true, eqb-false, ltb-true, ltb-false, leb-true, not-true, eq-eqb, ne_eqb}
use Rattle.std.specs.Prelude.{Ok}
use Rattle.ground.specs.Pick.{pick}
use Rattle.ground.proofs.Picks.{both_true, pick_by}
use Rattle.mode.specs.declared.Modes.{Modes}
use Rattle.mode.specs.Moved.{ended}
use Rattle.mode.specs.Recovery.{due, differed_long, tried_long, ticked_answer, try_due}
use Rattle.ground.specs.Answer.{accepted}
use Rattle.mode.specs.Says.{tick_says}
use Rattle.mode.specs.declared.Due.TheVariants.{Quiet, Audio, Ended}

-- a line where a try, or the end, is due has not ended: its count of tries can go up by one
pub due_tries : (l : Modes) (time : ℕ) → due l time ≡ true → l.tries ≤ 5
unfolding due
due_tries l time e = ltb-false 5 l.tries (not-true _ (both_true _ _ e).0)

-- on a line that has ended nothing is due
pub ended_rests : (l : Modes) (time : ℕ) → ended l ≡ true → due l time ≡ false
unfolding due
ended_rests l time e = rw e

waited : (l : Modes) (time : ℕ) → due l time ≡ true → pick (eqb l.tries 0) (differed_long l time) (tried_long l time) ≡ true
unfolding due
waited l time e = (both_true (not (ended l)) _ e).1

-- try 1 is due only where the modes differ, and have for more than 1,000 ms
pub due_first : (l : Modes) (time : ℕ) → due l time ≡ true → l.tries ≡ 0 → (l.local ≡ l.remote → ⊥) × (1000 < time - l.since)
due_first l time e z =
    let w : differed_long l time ≡ true = rw (eq-eqb l.tries 0 z) at (waited l time e) in
    let b = both_true _ _ w in
    (eqb-false _ _ (not-true _ b.0), ltb-true _ _ b.1)

-- a later one only 1,000 ms or more after the last
pub due_next : (l : Modes) (time : ℕ) → due l time ≡ true → (l.tries ≡ 0 → ⊥) → 1000 ≤ time - l.tried
due_next l time e n =
    let w : tried_long l time ≡ true = rw (ne_eqb l.tries 0 n) at (waited l time e) in
    leb-true _ _ w

-- what follows try 5 is said as 6
last_says : (n : ℕ) → tick_says (Ok (pick (eqb n 5) Ended (Audio (n + 1)))) ≡ accepted ((n + 1) ∷ [])
last_says n = pick_by (λ t. tick_says (Ok t) ≡ accepted ((n + 1) ∷ [])) (eqb n 5) (λ e. rw (eqb-true n 5 e)) (λ e. refl)

by_tests : (over more : Bool) (n : ℕ) → tick_says (Ok (pick over Ended (pick more (pick (eqb n 5) Ended (Audio (n + 1))) Quiet))) ≡ accepted (pick over 6 (pick more (n + 1) 0) ∷ [])
by_tests true more n = refl
by_tests false true n = last_says n
by_tests false false n = refl

-- a tick's answer in numbers
pub answer_says : (l : Modes) (time : ℕ) → tick_says (Ok (ticked_answer l time)) ≡ accepted (try_due l time ∷ [])
unfolding ticked_answer
answer_says l time = by_tests (ended l) (due l time) l.tries
