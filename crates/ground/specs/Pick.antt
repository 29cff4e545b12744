-- One of two, by a test, and tests taken together.
-- Assumes nothing.
use Rattle.std.specs.Prelude.{ℕ, Bool, true, false, ◌&&◌, List, [], ◌∷◌}

-- the first if the test holds, else the second
abbrev pub pick {ℓ} : {A : Type ℓ} → Bool → A → A → A
pick true a b = a
pick false a b = b

-- all of the tests hold, after what held before
abbrev pub and_all : Bool → List Bool → Bool
and_all a [] = a
and_all a (b ∷ bs) = and_all (a && b) bs

-- all of the tests hold
abbrev pub all_hold : List Bool → Bool
all_hold bs = and_all true bs

-- a flag as a number
abbrev pub bit : Bool → ℕ
bit true = 1
bit false = 0
