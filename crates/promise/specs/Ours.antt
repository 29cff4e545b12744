-- The calls, the runs and the continuations of our own build: what the calls do is `result_of`, and of what arrives fewer than 16,352 were taken after it.
-- Assumes nothing.
use Rattle.std.specs.Prelude.{ℕ, List}
use Rattle.calls.specs.Call.{Call}
use Rattle.calls.specs.Result.{CallResult, result_of}
use Rattle.flow.specs.Flow.{Message}
use Rattle.promise.specs.Past.{Mark, Packet, Past}
use Rattle.promise.specs.Run.{Gateway, bound}
use Rattle.promise.specs.Run as run
use Rattle.promise.specs.Promise as promise
use Rattle.promise.specs.GoesOn as goes

abbrev pub does : Gateway → Call → List ℕ → CallResult
does = run.does result_of

abbrev pub after : Gateway → Call → List ℕ → Gateway
after = run.after result_of

abbrev pub Recent : (ℕ → List Message) → Mark → Type 0
Recent = run.Recent bound

abbrev pub Honest : Past → Past → List ℕ → Packet → Type 0
Honest = run.Honest bound

abbrev pub Provided : ℕ → Gateway → Past → Past → List ℕ → Call → Type 0
Provided = run.Provided result_of bound

abbrev pub Adds : ℕ → Gateway → Past → Past → List ℕ → Call → Past → Type 0
Adds = run.Adds result_of bound

abbrev pub Step : ℕ → ℕ → ℕ → Past → Gateway → Past → Gateway → Past → Type 0
Step = run.Step result_of bound

abbrev pub Goes : ℕ → ℕ → ℕ → ℕ → Gateway → Past → Gateway → Past → Gateway → Past → Gateway → Past → Type 0
Goes = run.Goes result_of bound

abbrev pub Run : ℕ → ℕ → ℕ → ℕ → Gateway → Past → Gateway → Past → Type 0
Run = run.Run result_of bound

abbrev pub report_by : Gateway → ℕ → ℕ → ℕ
report_by = promise.report_by result_of

abbrev pub HandsOut : ℕ → ℕ → (ℕ → List ℕ) → Gateway → Past → Gateway → Past → Type 0
HandsOut = promise.HandsOut result_of

abbrev pub AllOut : ℕ → ℕ → Past → Gateway → Past → (ℕ → List ℕ) → Type 0
AllOut = promise.AllOut result_of

abbrev pub BothOut : ℕ → ℕ → ℕ → ℕ → Gateway → Past → Gateway → Past → Type 0
BothOut = promise.BothOut result_of bound

abbrev pub Settles : ℕ → ℕ → ℕ → ℕ → Gateway → Past → Gateway → Past → Type 0
Settles = goes.Settles result_of bound

abbrev pub TakesMore : ℕ → ℕ → ℕ → ℕ → Gateway → Past → Gateway → Past → ℕ → Message → Type 0
TakesMore = goes.TakesMore result_of bound
