-- A device of the proof: identifiers seen one after another and marked in 128 places. None comes twice exactly if each finds its
-- place without a mark, which is proved in proofs/Once.antt. What BOOK asks is said by `no_twice` and does not rest on them.
-- Assumes nothing.
use Rattle.std.specs.Prelude.{ℕ, Bool, true, ◌&&◌, List, [], ◌∷◌, eqb, get_or, set, replicate}

abbrev pub none : List ℕ
none = replicate 128 0

-- the marks once these are seen
unfoldable pub marked : List ℕ → List ℕ → List ℕ
marked m [] = m
marked m (x ∷ xs) = marked (set m x 1) xs

-- each of these finds no mark, its own and those of the ones before it counted
unfoldable pub new_in : List ℕ → List ℕ → Bool
new_in m [] = true
new_in m (x ∷ xs) = eqb (get_or m x 0) 0 && new_in (set m x 1) xs
