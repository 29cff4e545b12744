-- Which identifiers rest is changed by closings alone.
-- Assumes nothing.
use Prim.Native.Nat.{ℕ}
use mathlib.Core.Path.{◌≡◌, refl, sym, ap}
use mathlib.Core.Bool.{Bool, false}
use mathlib.Core.List.{List}
use lib.ListN.{length}
use Rattle.ground.specs.Pick.{pick}
use Rattle.ground.specs.Refusal.{verdict}
use Rattle.ground.proofs.Picks.{clash}
use Rattle.ground.proofs.Settled.{settled_by}
use Rattle.line.specs.declared.Line.{Line}
use Rattle.book.specs.Book.{line_of, with_line, resting_of}
use Rattle.book.specs.Closing.{closed_at}
use Rattle.book.specs.Parts.{part_start}
use Rattle.calls.specs.Call.{Call}
use Rattle.calls.specs.Call as call
use Rattle.calls.specs.Order.{order, line_for}
use Rattle.calls.specs.Result.{CallResult, result_of, accepted_result, effect}
use Rattle.laws.specs.Reached.{is_closing}
use Rattle.promise.specs.Run.{Gateway}
use Rattle.promise.specs.Ours.{after}

-- a call that is no closing puts no identifier to rest
none_rests : (c : Call) (i : ℕ) (l : Line) (start : ℕ) (store out : List ℕ) → is_closing c ≡ false → (effect c i l start store out).rests ≡ false
unfolding effect
none_rests (call.opening j s time) i l start store out e = refl
none_rests (call.closing j) i l start store out e = clash (sym e)
none_rests (call.mode j a) i l start store out e = refl
none_rests (call.taking j channel message) i l start store out e = refl
none_rests (call.sending j channel rank) i l start store out e = refl
none_rests (call.empty j channel) i l start store out e = refl
none_rests (call.arrival s) i l start store out e = refl
none_rests (call.hand_out j channel) i l start store out e = refl
none_rests (call.report j channel) i l start store out e = refl

pub resting_stays : (g : Gateway) (c : Call) → is_closing c ≡ false → (out : List ℕ) → resting_of (after g c out).book ≡ resting_of g.book
unfolding result_of accepted_result
resting_stays g c e out =
    let b = g.book in
    let i = line_for c b in
    let its = effect c i (line_of b i) (part_start b i) g.store out in
    settled_by (λ (d : CallResult). resting_of d.book ≡ resting_of b) (verdict (order c b (length g.store) (length out)))
    (λ r q. refl)
    (λ q. ap (λ (t : Bool). resting_of (pick t (closed_at b i) (with_line b i its.line))) (none_rests c i (line_of b i) (part_start b i) g.store out e))
