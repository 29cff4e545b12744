-- OURS MEETS DEMAND 1: what a call comes to is settled by its tests, by definition.
-- Assumes nothing.
use Prim.Native.Nat.{ℕ}
use mathlib.Core.List.{List}
use mathlib.Core.Path.{◌∙◌, ◌≡◌, ap, refl}
use lib.ListN.{length}
use Rattle.std.specs.Prelude.{Ok, Err}
use Rattle.calls.specs.Order.{order}
use Rattle.calls.specs.Result.{CallResult, accepted_result, result_of, result_with}
use Rattle.ground.specs.Answer.{refused}
use Rattle.ground.specs.Refusal.{Verdict, Test, settle, verdict}
use Rattle.ground.specs.declared.Refusal.{Refusal}
use Rattle.promise.specs.Build.{left_by, ours}
use Rattle.promise.specs.Demand1.{Demand1, Settled, unwritten}
use Rattle.connect.specs.Read as connect
use Rattle.connect.specs.Write as body
use Rattle.breaks.specs.Break as breaks
use Rattle.slip.specs.Slip as slip

-- whatever is made of a verdict is settled by it
by_verdict : {A : Type 0} (ts : List Test) (unchanged : Refusal → A) (number : A → ℕ) (of : Verdict → A)
    → ((r : Refusal) → of (Err r) ≡ unchanged r) → number (of (Ok tt)) ≡ 0 → Settled ts unchanged number (of (verdict ts))
by_verdict ts unchanged number of refused taken =
    record {
      refuses = λ r e. ap of e ∙ refused r;
      accepts = λ e. ap (λ (v : Verdict). number (of v)) e ∙ taken;
    }

pub ours_demand1 : Demand1 ours
unfolding result_of accepted_result
ours_demand1 =
    record {
      calls = λ c book store out.
          by_verdict (order c book (length store) (length out)) (λ r. result_with (refused r) book store out) (λ (d : CallResult). d.answer.number)
          (λ v. settle v (λ r. result_with (refused r) book store out) (accepted_result c book store out)) (λ r. refl) refl;
      connect_reads = λ s. by_verdict (connect.read_tests s) refused (λ a. a.number) (λ v. connect.answer_of (settle v Err (Ok (connect.connect_at s)))) (λ r. refl) refl;
      connect_writes = λ c out. by_verdict (body.write_tests c (length out)) (unwritten out) (λ w. w.answer.number) (λ v. left_by v (body.connect_octets c) out) (λ r. refl) refl;
      break_reads = λ s. by_verdict (breaks.read_tests s) refused (λ a. a.number) (λ v. breaks.answer_of (settle v Err (Ok (breaks.break_at s)))) (λ r. refl) refl;
      break_writes = λ c out. by_verdict (breaks.write_tests c (length out)) (unwritten out) (λ w. w.answer.number) (λ v. left_by v (breaks.break_octets c) out) (λ r. refl) refl;
      slip_reads = λ s. by_verdict (slip.read_tests s) refused (λ a. a.number) (λ v. slip.answer_of (settle v Err (Ok (slip.slip_at s)))) (λ r. refl) refl;
    }
