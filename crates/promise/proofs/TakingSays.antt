-- The number that a taking answers.
-- Assumes nothing.
use Prim.Native.Nat.{ℕ, ◌%◌}
use mathlib.Core.Path.{◌≡◌, sym, ap, ◌∙◌}
use mathlib.Core.Bool.{Bool, true}
use mathlib.Core.List.{List, [], ◌∷◌}
use lib.ListN.{length}
use Rattle.ground.specs.Answer.{accepted}
use Rattle.ground.specs.Pick.{pick}
use Rattle.channel.specs.Channel.{modulus}
use Rattle.flow.specs.Flow.{Message}
use Rattle.line.specs.Line.{closed_line, sending_of}
use Rattle.calls.specs.Call as call
use Rattle.calls.specs.Order.{line_for}
use Rattle.calls.specs.Result.{CallResult, accepted_result, effect}
use Rattle.calls.proofs.OrderStages.{in_stages}
use Rattle.calls.proofs.Results.{result_accepted}
use Rattle.promise.specs.Past.{Past}
use Rattle.promise.specs.Run.{Gateway, accepts, line_at}
use Rattle.promise.specs.Promise.{sends_by}
use Rattle.promise.specs.Ours.{does}
use Rattle.promise.proofs.OwnLine.{call_passes}

-- a taking answers the number of its message
pub taking_says : (g : Gateway) (i : ℕ) (p : Past) → p.opened ≡ true → (channel : ℕ) (m : Message) (out : List ℕ) → accepts (does g (call.taking i channel m) out) ≡ true
    → (does g (call.taking i channel m) out).answer ≡ accepted ((sends_by g i p channel).S % modulus ∷ [])
unfolding accepted_result effect line_for
taking_says g i p o channel m out e =
    let c = call.taking i channel m in
    ap (λ (d : CallResult). d.answer) (result_accepted c g.book g.store out (in_stages c g.book (length g.store) (length out) ∙ call_passes g c out e))
    ∙ ap (λ (t : Bool). accepted ((sending_of (pick t (line_at g i) closed_line) channel).taken % modulus ∷ [])) (sym o)
