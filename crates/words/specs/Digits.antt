-- What decimal digits say as a number, and what a hexadecimal digit says.
-- Assumes nothing.
use Rattle.std.specs.Prelude.{ℕ, ◌+◌, ◌-◌, ◌*◌, ◌/◌, ◌%◌, ◌^◌, Bool, true, ◌&&◌, if◌then◌else◌, Option, Some, None, List, [], ◌∷◌, length, ◌==◌, nat_le, nat_lt}
use Rattle.std.specs.List.{flat_map}

-- an octet is one of `0` to `9`
abbrev pub is_digit : ℕ → Bool
is_digit d = nat_le 48 d && nat_le d 57

unfoldable pub all_digits : List ℕ → Bool
all_digits [] = true
all_digits (d ∷ ds) = is_digit d && all_digits ds

-- a number with one digit more
abbrev pub grown : ℕ → ℕ → ℕ
grown n d = n * 10 + (d - 48)

-- the value of decimal digits that follow digits of value n
unfoldable pub value_from : ℕ → List ℕ → ℕ
value_from n [] = n
value_from n (d ∷ ds) = value_from (grown n d) ds

-- what octets say that follow digits of value n: the value of all together, where all are digits and 64 bits hold it
unfoldable pub says_from : ℕ → List ℕ → Option ℕ
says_from n w = if all_digits w && nat_lt (value_from n w) (2 ^ 64) then Some (value_from n w) else None

-- "A number is decimal, with no sign; leading zeros are accepted."
unfoldable pub number_of : List ℕ → Option ℕ
number_of w = if length w == 0 then None else says_from 0 w

-- a number and one octet more
unfoldable pub longer_by : ℕ → ℕ → Option ℕ
longer_by n d = if is_digit d && nat_lt (grown n d) (2 ^ 64) then Some (grown n d) else None

-- the value of a hexadecimal digit of either case
unfoldable pub hex_digit : ℕ → Option ℕ
hex_digit d =
    if is_digit d then Some (d - 48) else (if nat_le 97 d && nat_le d 102 then Some (d - 87) else (if nat_le 65 d && nat_le d 70 then Some (d - 55) else None))

-- the upper-case digit of a value below 16
unfoldable pub upper_digit : ℕ → ℕ
upper_digit v = if nat_lt v 10 then 48 + v else 55 + v

-- an octet in two hexadecimal digits
abbrev pub octet_digits : ℕ → List ℕ
octet_digits o = upper_digit (o / 16) ∷ upper_digit (o % 16) ∷ []

-- octets in hexadecimal, `-` for none
unfoldable pub hexadecimal : List ℕ → List ℕ
hexadecimal os = if length os == 0 then 45 ∷ [] else flat_map octet_digits os
