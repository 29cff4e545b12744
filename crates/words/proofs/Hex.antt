-- Octets in hexadecimal: what is written of each, and that a digit written is read back.
-- Assumes nothing.
use Rattle.std.proofs.Common.{◌≡◌, ℕ, ◌+◌, ◌-◌, ◌^◌, ◌<◌, true, false, List, [], ◌∷◌, ◌++◌, length, get_or, take, Some, arith}
use Rattle.std.proofs.lemmas.Bool.Decides.{nat_tests}
use Rattle.std.proofs.lemmas.Fmt.{hex_byte}
use Rattle.std.proofs.lemmas.Grind.{flat_map-append}
use Rattle.std.proofs.lemmas.List.{take_more}
use Rattle.std.specs.Fmt.{digits, format_spec, padded_integral}
use Rattle.std.specs.List.{flat_map}
use Rattle.words.specs.Digits.{hex_digit, upper_digit, octet_digits}

-- a digit written is read back
pub digit_back : (v : ℕ) → v < 16 → hex_digit (upper_digit v) ≡ Some v
unfolding hex_digit upper_digit
digit_back v h = grind (arith, nat_tests)

-- what `{:02X}` writes of an octet
abbrev pub written : ℕ → List ℕ
written o = padded_integral (format_spec 32 0 4 2 (2 ^ 64 - 1)) false [] (digits 16 true o)

written_octet : (o : ℕ) → o < 256 → written o ≡ octet_digits o
unfolding upper_digit
written_octet o h = hex_byte true o h

-- the octets up to i, and the one there
pub turn : (os : List ℕ) (i : ℕ) → i < length os → get_or os i 0 < 256 → flat_map octet_digits (take i os) ++ written (get_or os i 0) ≡ flat_map octet_digits (take (i + 1) os)
turn os i h l = rw (written_octet (get_or os i 0) l, take_more os i 0 h, flat_map-append octet_digits (take i os) (get_or os i 0 ∷ [])) (λ _. flat_map octet_digits (take i os) ++ octet_digits (get_or os i 0))
