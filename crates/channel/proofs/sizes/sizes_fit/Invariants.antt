use Prim.Native.Nat.{ℕ, ◌≤◌, ◌<◌, ◌-◌, ◌/◌, ◌^◌}
use mathlib.Core.Bool.{true}
use mathlib.Core.Path.{◌≡◌}
use Rattle.places.specs.Places.{mask_of}
use Rattle.channel.specs.Sizes.{size_at}
use Rattle.channel.proofs.sizes.sizes_fit.Given as goal

abbrev pub invariant-loop-sizes : goal.invariant-loop-sizes
invariant-loop-sizes l = (l.i ≤ l.window) × (mask_of l.rest ≡ mask_of l.initial.rest / 2 ^ l.i) ×
    ((j : ℕ) → j < l.i → size_at l.window l.largest l.sizes (mask_of l.initial.rest) l.origin j ≡ true)

abbrev pub decreases-loop-sizes : goal.decreases-loop-sizes
decreases-loop-sizes l = l.window - l.i
