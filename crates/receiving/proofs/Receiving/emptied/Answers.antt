use Rattle.receiving.specs.Receiving.{emptied_receiving}
use Rattle.receiving.proofs.Receiving.emptied.Goals as goal

-- src/receiving.rt:123:5
pub returns : goal.returns
unfolding emptied_receiving
returns c =
    let r = c.args.self in
    λ i. record { next = r.next; stored = c.none-none.ensures i; origin = r.origin; sizes = r.sizes }
