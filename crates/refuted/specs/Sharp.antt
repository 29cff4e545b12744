-- NO HIGHER FIGURE THAN 16,352 WOULD DO: what it is for our own build to break the promise, with runs within another number.
-- Assumes nothing.
use Rattle.std.specs.Prelude.{ℕ}
use Rattle.calls.specs.Result.{result_of}
use Rattle.promise.specs.Past.{Past}
use Rattle.promise.specs.Run.{Gateway, Run}
use Rattle.promise.specs.Promise.{Promised}

-- there is a run of ours within the number after which the promise does not hold
pub record Breaks (within : ℕ) : Type 0 where
  pub i : ℕ
  pub j : ℕ
  pub identifier : ℕ
  pub kind : ℕ
  pub here : Gateway
  pub mine : Past
  pub there : Gateway
  pub yours : Past
  pub run : Run result_of within i j identifier kind here mine there yours
  pub broken : Promised here i mine there j yours → ⊥
