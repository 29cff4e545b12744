-- A list of one element over and over.
-- Assumes nothing.
use Prim.Native.Nat.{ℕ, zero, suc}
use mathlib.Core.Path.{◌≡◌, refl}
use lib.ListN.{replicate, get_or}

-- it has the element everywhere, where it stands for none too
pub get_or_alike {ℓ} : {A : Type ℓ} (n i : ℕ) (a : A) → get_or (replicate n a) i a ≡ a
get_or_alike zero i a = refl
get_or_alike (suc n) zero a = refl
get_or_alike (suc n) (suc i) a = get_or_alike n i a
