-- A number read digit by digit is what its digits say.
-- Assumes nothing.
use Rattle.std.proofs.Common.{◌≡◌, ℕ, suc, ◌+◌, ◌^◌, ◌<◌, ◌≤◌, List, [], ◌∷◌, length, get_or, drop, Some, arith, add-one, drop_of_length-le, drop-cons}
use Rattle.std.proofs.lemmas.Bool.Decides.{nat_tests}
use Rattle.std.specs.Prelude.{option_and_then}
use Rattle.words.specs.Digits.{all_digits, grown, value_from, says_from, longer_by}

-- digits behind a number make it no smaller
grows : (n : ℕ) (w : List ℕ) → n ≤ value_from n w
unfolding value_from
grows n [] = omega arith
grows n (d ∷ ds) = omega (arith, grows (grown n d) ds)

-- digits say what is said once the first of them is read
pub follows : (n d : ℕ) (ds : List ℕ) → says_from n (d ∷ ds) ≡ option_and_then (λ m. says_from m ds) (longer_by n d)
unfolding says_from longer_by all_digits value_from
follows n d ds = let g = grows (grown n d) ds in grind (arith, nat_tests)

-- the octets from i on, of which one is read
pub turn : (n : ℕ) (w : List ℕ) (i : ℕ) → i < length w → says_from n (drop i w) ≡ option_and_then (λ m. says_from m (drop (i + 1) w)) (longer_by n (get_or w i 0))
turn n w i h = rw (add-one, drop-cons w i 0 h) (follows n (get_or w i 0) (drop (suc i) w))

-- nothing is left from the end on
pub at_end : (n : ℕ) (w : List ℕ) (i : ℕ) → length w ≤ i → n < 2 ^ 64 → says_from n (drop i w) ≡ Some n
unfolding says_from all_digits value_from
at_end n w i h l = rw (drop_of_length-le w h) (grind (arith, nat_tests))
