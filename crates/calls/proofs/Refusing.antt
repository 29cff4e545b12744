-- "A refusal changes no stored state and no lent octet", for every call at once.
-- Assumes nothing.
use Prim.Native.Nat.{ℕ, ◌<◌}
use mathlib.Core.Path.{◌≡◌, refl}
use mathlib.Core.List.{List, []}
use native.Mathlib.Omega.{arith}
use lib.ListN.{length}
use Rattle.ground.specs.Refusal.{verdict}
use Rattle.ground.proofs.Settled.{settled_by}
use Rattle.book.specs.declared.Book.{Book}
use Rattle.calls.specs.Call.{Call}
use Rattle.calls.specs.Order.{order}
use Rattle.calls.specs.Result.{CallResult, result_of, accepted_result}

-- nothing but a number was answered, and book, store and output are what they were
pub record Unchanged (b : Book) (s o : List ℕ) (d : CallResult) : Type 0 where
  pub alone : d.answer.values ≡ []
  pub book : d.book ≡ b
  pub store : d.store ≡ s
  pub out : d.out ≡ o

pub refusal_changes_nothing : (c : Call) (b : Book) (store out : List ℕ) → 0 < (result_of c b store out).answer.number → Unchanged b store out (result_of c b store out)
unfolding result_of accepted_result
refusal_changes_nothing c b store out =
    settled_by (λ (d : CallResult). 0 < d.answer.number → Unchanged b store out d) (verdict (order c b (length store) (length out)))
    (λ r e n. record { alone = refl; book = refl; store = refl; out = refl })
    (λ e n. absurd (omega arith))
