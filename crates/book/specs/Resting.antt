-- The identifiers that rest, as a list, oldest first; and the array that holds them.
-- Assumes nothing.
use Rattle.std.specs.Prelude.{ℕ, ◌-◌, Bool, true, ◌&&◌, List, [], ◌∷◌, ◌++◌, leb, length, drop}

-- identifiers are 0 to 127 (RULES 15.24)
unfoldable pub all_span : List ℕ → Bool
all_span [] = true
all_span (x ∷ xs) = leb x 127 && all_span xs

-- "the last 16 closed" (RULES 7.6): of those that rest and the one that was closed now the last 16
abbrev pub last_sixteen : List ℕ → List ℕ
last_sixteen l = drop (length l - 16) l

abbrev pub rests : List ℕ → ℕ → List ℕ
rests l identifier = last_sixteen (l ++ (identifier ∷ []))

-- the array with another list at its front; after the list it holds what it held there
abbrev pub rested_in : List ℕ → List ℕ → List ℕ
rested_in resting l = l ++ drop (length l) resting
