-- The windows of document 01, against the widest that a mask has room for.
-- Assumes nothing.
use Prim.Native.Nat.{ℕ, ◌≤◌}
use lib.Dec.{lit≤, eqb}
use Rattle.ground.proofs.Picks.{pick_by}
use Rattle.places.specs.Places.{widest}
use Rattle.channel.specs.Channel.{window_of}

-- a mask has room for either window
pub window_narrow : (channel : ℕ) → window_of channel ≤ widest
window_narrow channel = pick_by (λ (w : ℕ). w ≤ widest) (eqb channel 1) (λ _. lit≤ tt) (λ _. lit≤ tt)
