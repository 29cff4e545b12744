-- A side looks only at the 14 bits of a number that a packet carries.
-- Assumes nothing.
use Prim.Native.Nat.{ℕ, ◌%◌}
use mathlib.Core.Path.{◌≡◌, ap}
use mathlib.Core.Bool.{◌&&◌}
use lib.Dec.{ltb, leb}
use Rattle.ground.specs.Pick.{pick}
use Rattle.channel.specs.Channel.{modulus}
use Rattle.places.specs.Places.{mask_of, bit_of}
use Rattle.receiving.specs.Receiving.{arrival_of}
use Rattle.sending.specs.Sending.{under_way, moved_by, heard_base, dropped_at, acked_by}
use Rattle.receiving.specs.declared.Arrival.TheVariants.{Stored, There, Old}
use Rattle.receiving.specs.declared.Receiving.{Receiving}
use Rattle.sending.specs.declared.Sending.{Sending}
use Rattle.channel.proofs.Distances.{dist_field}

pub heard_field : (w : ℕ) (s : Sending) (b : ℕ) → heard_base w s (b % modulus) ≡ heard_base w s b
unfolding heard_base
heard_field w s b = ap (λ (d : ℕ). pick (ltb 0 d && leb d (under_way s)) (moved_by w s d) s) (dist_field b s.base)

pub acked_field : (s : Sending) (k : ℕ) → acked_by s (k % modulus) ≡ acked_by s k
unfolding acked_by
acked_field s k = ap (λ (d : ℕ). pick (ltb d (under_way s)) (dropped_at s d) s) (dist_field k s.base)

pub arrival_field : (w : ℕ) (r : Receiving) (n : ℕ) → arrival_of w r (n % modulus) ≡ arrival_of w r n
unfolding arrival_of
arrival_field w r n = ap (λ (d : ℕ). pick (ltb d w) (pick (bit_of (mask_of r.stored) d) There (Stored d)) Old) (dist_field n r.next)
