use Rattle.sending.specs.Sending.{emptied_sending}
use Rattle.sending.proofs.Sending.emptied.Goals as goal

-- src/sending.rt:140:5
pub returns : goal.returns
unfolding emptied_sending
returns c =
    let s = c.args.self in
    λ i. record { taken = s.taken; base = s.base; unacked = c.none-none.ensures i; origin = s.origin; sizes = s.sizes }
