-- "Leaving m, for any cause, ends relay for that opening": a line that left m never enters it again, whatever mode calls come.
-- Assumes nothing.
use Prim.Native.Nat.{ℕ}
use mathlib.Core.Path.{◌≡◌, refl, sym}
use mathlib.Core.Bool.{true, false, ◌&&◌}
use mathlib.Core.List.{List}
use native.Mathlib.Omega.{arith}
use lib.Dec.{eqb}
use borrow.Author.Tests.{eq-eqb, ne_eqb}
use Rattle.ground.proofs.Picks.{pick_by, both_true, clash}
use Rattle.mode.specs.declared.Modes.{Modes}
use Rattle.mode.specs.Given.{audio, modem, offers_relay, has_left}
use Rattle.mode.specs.Moved.{leaves, moved, trying}
use Rattle.mode.specs.Indication.{heard_mode}
use Rattle.mode.specs.Acts.{Act, after, run}
use Rattle.mode.proofs.Givens.{given_by}
use Rattle.mode.proofs.Steps.{asks, after_by, run_keeps, heard_by, ticked_by}

-- modem relay was left, and is not the mode now
pub record Gone (l : Modes) : Type 0 where
  pub left : has_left l ≡ true
  pub away : l.local ≡ modem → ⊥

-- a line that left m is given something else by every indication
heard_away : (l : Modes) (k : ℕ) → Gone l → heard_mode l k ≡ modem → ⊥
unfolding heard_mode
heard_away l k g =
    pick_by (λ s. s ≡ modem → ⊥) (eqb l.tries 0)
    (λ t. given_by (λ s. s ≡ modem → ⊥) l k (λ e. omega arith) (λ h v e. omega arith) (λ e h. clash (rw (g.left, ne_eqb l.local modem g.away) at (both_true (offers_relay l) _ h).1)))
    (λ t e. omega arith)

moved_gone : (l : Modes) (s r time : ℕ) → Gone l → (s ≡ modem → ⊥) → Gone (moved l s r time)
unfolding moved
moved_gone l s r time g h = record { left = pick_by (λ (n : ℕ). eqb n 1 ≡ true) (leaves l.local s) (λ e. refl) (λ e. g.left); away = h }

trying_gone : (l : Modes) (n time : ℕ) → Gone l → Gone (trying l n time)
unfolding trying
trying_gone l n time g = record { left = g.left; away = g.away }

asked_away : (l : Modes) (k : ℕ) → Gone l → (eqb k modem && has_left l) ≡ false → k ≡ modem → ⊥
asked_away l k g f e = clash (sym (rw (eq-eqb k modem e, g.left) at f))

-- one call keeps m away
pub gone_stays : (l : Modes) → Gone l → (act : Act) → Gone (after l act)
gone_stays l g =
    after_by Gone l g
    (λ k time e.
    let m = moved_gone l (heard_mode l k) k time g (heard_away l k g) in
    heard_by Gone l k time (λ t a. trying_gone _ 0 0 m) (λ t. m))
    (λ k time e. moved_gone l k l.remote time g (asked_away l k g (asks l k time e).fresh))
    (λ time e.
    let same = moved_gone l l.local l.remote time g g.away in
    ticked_by Gone l time
    same
    (λ a b c. trying_gone _ 1 time (moved_gone l audio 0 time g (λ x. omega arith)))
    (λ a b c. trying_gone _ _ time same)
    (λ a b. trying_gone _ 6 _ same))

-- THE PROMISE: a line that left m and is not in it never enters it again, whatever mode calls come
pub left_for_good : (l : Modes) → Gone l → (acts : List Act) → (run l acts).local ≡ modem → ⊥
left_for_good l g acts = (run_keeps Gone gone_stays l g acts).away

-- whatever takes S out of m is marked
LeftMarked : Modes → Type 0
LeftMarked l = (l.local ≡ modem → ⊥) → has_left l ≡ true

moved_marked : (l : Modes) (s r time : ℕ) → l.local ≡ modem → LeftMarked (moved l s r time)
unfolding moved LeftMarked
moved_marked l s r time e h = rw (eq-eqb l.local modem e, ne_eqb s modem h)

trying_marked : (l : Modes) (n time : ℕ) → LeftMarked l → LeftMarked (trying l n time)
unfolding trying LeftMarked
trying_marked l n time m = m

-- a call that takes S out of m, a request, an indication or recovery, leaves the mark
pub leaving_marks : (l : Modes) → l.local ≡ modem → (act : Act) → ((after l act).local ≡ modem → ⊥) → Gone (after l act)
unfolding LeftMarked
leaving_marks l e act h =
    let m : LeftMarked (after l act) =
    after_by LeftMarked l (λ f. absurd (f e))
    (λ k time p.
    let n = moved_marked l (heard_mode l k) k time e in
    heard_by LeftMarked l k time (λ t a. trying_marked _ 0 0 n) (λ t. n))
    (λ k time p. moved_marked l k l.remote time e)
    (λ time p.
    let same = moved_marked l l.local l.remote time e in
    ticked_by LeftMarked l time
    same
    (λ a b c. trying_marked _ 1 time (moved_marked l audio 0 time e))
    (λ a b c. trying_marked _ _ time same)
    (λ a b. trying_marked _ 6 _ same))
    act
    in
    record { left = m h; away = h }

-- so once a call has taken S out of m, no later call of that opening brings it back
pub never_again : (l : Modes) → l.local ≡ modem → (act : Act) → ((after l act).local ≡ modem → ⊥) → (acts : List Act) → (run (after l act) acts).local ≡ modem → ⊥
never_again l e act h acts = left_for_good (after l act) (leaving_marks l e act h) acts
