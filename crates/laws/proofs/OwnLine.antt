-- What a call leaves of its own line, of what is lent and of its answer, once its verdict is known; and the verdict, once the answer is known.
-- Assumes nothing.
use Prim.Native.Nat.{ℕ}
use mathlib.Core.Path.{◌≡◌, refl, sym, ap, subst, ◌∙◌}
use mathlib.Core.Bool.{true}
use mathlib.Core.List.{List}
use native.Mathlib.Omega.{arith}
use lib.ListN.{length}
use Rattle.std.specs.Prelude.{Ok}
use Rattle.ground.specs.Pick.{pick}
use Rattle.ground.specs.Answer.{accepted}
use Rattle.ground.specs.Refusal.{Verdict, verdict}
use Rattle.ground.proofs.Numbers.{number_some}
use Rattle.ground.proofs.Picks.{pick_by, clash}
use Rattle.ground.proofs.Settled.{settled_by}
use Rattle.line.specs.Line.{closed_line}
use Rattle.line.specs.declared.Line.{Line}
use Rattle.book.specs.Book.{line_of, with_line}
use Rattle.book.specs.Closing.{closed_at}
use Rattle.book.specs.Shape.{BookShaped}
use Rattle.book.specs.Parts.{part_start}
use Rattle.book.specs.declared.Book.{Book}
use Rattle.book.proofs.OtherLines.{line_same, closed_same}
use Rattle.calls.specs.Call.{Call}
use Rattle.calls.specs.Call as call
use Rattle.calls.specs.Order.{order, line_for}
use Rattle.calls.specs.Stages.{tests}
use Rattle.calls.specs.Result.{CallResult, Effect, result_of, accepted_result, effect}
use Rattle.calls.proofs.OrderStages.{in_stages}
use Rattle.calls.proofs.Results.{result_accepted}
use Rattle.laws.proofs.LineFor.{line_number_lem}

-- a call that puts an identifier to rest leaves a closed line
rests_closed : (c : Call) (i : ℕ) (l : Line) (start : ℕ) (store out : List ℕ) → (effect c i l start store out).rests ≡ true → closed_line ≡ (effect c i l start store out).line
unfolding effect
rests_closed (call.opening j s time) i l start store out e = clash e
rests_closed (call.closing j) i l start store out e = refl
rests_closed (call.mode j a) i l start store out e = clash e
rests_closed (call.taking j channel message) i l start store out e = clash e
rests_closed (call.sending j channel rank) i l start store out e = clash e
rests_closed (call.empty j channel) i l start store out e = clash e
rests_closed (call.arrival s) i l start store out e = clash e
rests_closed (call.hand_out j channel) i l start store out e = clash e
rests_closed (call.report j channel) i l start store out e = clash e

module _ (c : Call) (b : Book) (store out : List ℕ) where
  abbrev its : Verdict
  its = verdict (tests c b (length store) (length out))

  -- what the call does to the line that it is for
  abbrev pub own : Effect
  own = effect c (line_for c b) (line_of b (line_for c b)) (part_start b (line_for c b)) store out

  -- the answer's number is 0 exactly if all tests pass
  pub accepted_passes : (result_of c b store out).answer.number ≡ 0 → its ≡ Ok tt
  unfolding result_of
  accepted_passes = settled_by (λ (d : CallResult). d.answer.number ≡ 0 → its ≡ Ok tt) (verdict (order c b (length store) (length out))) (λ r e z. absurd (omega (arith, number_some r))) (λ e z. sym (in_stages c b (length store) (length out)) ∙ e)

  module _ (pass : its ≡ Ok tt) where
    abbrev is_done : result_of c b store out ≡ accepted_result c b store out
    is_done = result_accepted c b store out (in_stages c b (length store) (length out) ∙ pass)

    pub passes_accepted : (result_of c b store out).answer.number ≡ 0
    unfolding accepted_result
    passes_accepted = ap (λ (d : CallResult). d.answer.number) is_done

    pub own_values : (result_of c b store out).answer.values ≡ own.values
    unfolding accepted_result
    own_values = ap (λ (d : CallResult). d.answer.values) is_done

    pub own_store : (result_of c b store out).store ≡ own.store
    unfolding accepted_result
    own_store = ap (λ (d : CallResult). d.store) is_done

    pub own_out : (result_of c b store out).out ≡ own.out
    unfolding accepted_result
    own_out = ap (λ (d : CallResult). d.out) is_done

    pub own_book : (result_of c b store out).book ≡ pick own.rests (closed_at b (line_for c b)) (with_line b (line_for c b) own.line)
    unfolding accepted_result
    own_book = ap (λ (d : CallResult). d.book) is_done

    pub own_line : BookShaped b → line_of (result_of c b store out).book (line_for c b) ≡ own.line
    own_line k =
        let i = line_for c b in
        ap (λ (a : Book). line_of a i) own_book
        ∙ pick_by (λ (a : Book). line_of a i ≡ own.line) own.rests
        (λ e. closed_same b i ∙ rests_closed c i (line_of b i) (part_start b i) store out e)
        (λ e. line_same b k i (line_number_lem c b store out pass k) own.line)

-- What a call leaves of line i, which it is for, once all its tests pass.
pub record Leaves (c : Call) (b : Book) (s o : List ℕ) (i : ℕ) : Type 0 where
  pub answer : (result_of c b s o).answer ≡ accepted (effect c i (line_of b i) (part_start b i) s o).values
  pub line : line_of (result_of c b s o).book i ≡ (effect c i (line_of b i) (part_start b i) s o).line
  pub store : (result_of c b s o).store ≡ (effect c i (line_of b i) (part_start b i) s o).store
  pub out : (result_of c b s o).out ≡ (effect c i (line_of b i) (part_start b i) s o).out

pub leaves_at : (c : Call) (b : Book) (store out : List ℕ) {i : ℕ} → line_for c b ≡ i → verdict (tests c b (length store) (length out)) ≡ Ok tt → BookShaped b → Leaves c b store out i
unfolding accepted_result
leaves_at c b store out mine pass k =
    subst (Leaves c b store out) mine (record {
      answer = ap (λ (d : CallResult). d.answer) (is_done c b store out pass);
      line = own_line c b store out pass k;
      store = own_store c b store out pass;
      out = own_out c b store out pass;
    })
