-- Which audio indications are called for: the tries 1 to 5 in order, each once, and no other.
-- Assumes nothing.
use Prim.Native.Nat.{ℕ, zero, suc, ◌<◌, ◌+◌}
use mathlib.Core.Path.{◌≡◌, refl, sym, ap, ◌∙◌}
use mathlib.Core.List.{List, [], ◌∷◌, ◌++◌, append-nil, append_assoc}
use native.Mathlib.Omega.{arith}
use lib.ListN.{take}
use lib.Seq.{take_all}
use Rattle.std.specs.Prelude.{Ok}
use Rattle.ground.specs.Refusal.{verdict}
use Rattle.ground.proofs.Settled.{settled_by}
use Rattle.mode.specs.declared.Modes.{Modes}
use Rattle.mode.specs.declared.Due.{Due}
use Rattle.mode.specs.declared.Step.{Step}
use Rattle.mode.specs.Moved.{moved, trying}
use Rattle.mode.specs.Recovery.{tick_tests, tick_step}
use Rattle.mode.specs.Acts.{Act, hear, ask, tick, after, run, called_by, called, called_in, NoAudio, NoneAudio}
use Rattle.mode.proofs.Steps.{hear_by, ask_by, heard_by, tick_cases}

-- the tries of a recovery
abbrev pub five : List ℕ
five = 1 ∷ 2 ∷ 3 ∷ 4 ∷ 5 ∷ []

-- below five, one more try is the next number
next_try : (n : ℕ) → n < 5 → take n five ++ ((n + 1) ∷ []) ≡ take (n + 1) five
next_try zero b = refl
next_try (suc zero) b = refl
next_try (suc (suc zero)) b = refl
next_try (suc (suc (suc zero))) b = refl
next_try (suc (suc (suc (suc zero)))) b = refl
next_try (suc (suc (suc (suc (suc n))))) b = absurd (omega arith)

-- the tries made before, with those that are called for, are the tries made after
abbrev Counts : ℕ → List ℕ → ℕ → Type 0
Counts n xs m = take n five ++ xs ≡ take m five

none_called : (n : ℕ) → Counts n [] n
none_called n = append-nil (take n five)

ticked_counts : (l : Modes) (time : ℕ) → Counts l.tries (called_by (tick_step l time).answer) (tick_step l time).modes.tries
unfolding tick_step moved trying
ticked_counts l time =
    settled_by (λ (o : Step Due). Counts l.tries (called_by o.answer) o.modes.tries) (verdict (tick_tests l time))
    (λ r e. none_called l.tries)
    (λ e.
    tick_cases (λ t n. Counts l.tries (called_by (Ok t)) n.tries) l time
    (λ d r. none_called l.tries)
    (λ o. none_called l.tries)
    (λ z d w. rw z)
    (λ a b c. next_try l.tries b)
    (λ f w. rw f))

call_counts : (l : Modes) (act : Act) → NoAudio act → Counts l.tries (called l act) (after l act).tries
unfolding moved trying
call_counts l (hear k time) h =
    let same = none_called l.tries in
    let P : Modes → Type 0 = λ n. Counts l.tries [] n.tries in
    hear_by P l same k time (λ e. heard_by P l k time (λ a b. absurd (h b)) (λ a. same))
call_counts l (ask k time) h =
    let same = none_called l.tries in
    ask_by (λ n. Counts l.tries [] n.tries) l same k time (λ e. same)
call_counts l (tick time) h = ticked_counts l time

-- THE PROMISE: over any calls without an indication of a, the tries called for go on from those made, in order and each once
pub tries_in_order : (l : Modes) (acts : List Act) → NoneAudio acts → take l.tries five ++ called_in l acts ≡ take (run l acts).tries five
unfolding run called_in
tries_in_order l [] q = append-nil (take l.tries five)
tries_in_order l (act ∷ acts) q =
    sym (append_assoc (take l.tries five) (called l act) (called_in (after l act) acts))
    ∙ ap (λ (xs : List ℕ). xs ++ called_in (after l act) acts) (call_counts l act q.0)
    ∙ tries_in_order (after l act) acts q.1

-- so a line that recovery has ended was sent exactly the five
pub five_in_all : (l : Modes) (acts : List Act) → NoneAudio acts → l.tries ≡ 0 → 5 < (run l acts).tries → called_in l acts ≡ five
five_in_all l acts q z o =
    let all : take (run l acts).tries five ≡ five = take_all (run l acts).tries five (omega arith) in
    ap (λ (n : ℕ). take n five ++ called_in l acts) (sym z) ∙ tries_in_order l acts q ∙ all
