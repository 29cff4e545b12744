-- Where message octets lie in a line's part of the store (RULES 6.4), and what a part is of the whole.
-- Assumes nothing.
use Rattle.std.specs.Prelude.{ℕ, ◌+◌, ◌*◌, ◌≤◌, List, ◌++◌, eqb, take, drop}
use Rattle.ground.specs.Pick.{pick}
use Rattle.store.specs.declared.Region.{Region}

-- the slots of a channel among those of one way, which begin at `start`: channel 1 has `slots` of them, and channel 2 those after (RULES 6.4)
abbrev pub region_from : ℕ → ℕ → ℕ → ℕ → Region
region_from start slots size channel = record { start = pick (eqb channel 1) start (start + slots * size); size = size }

-- the octet that the slot of a place begins at (RULES 6.4)
abbrev pub slot_at : Region → ℕ → ℕ
slot_at g place = g.start + place * g.size

-- the slot of a place lies in the first n octets
pub record SlotIn (g : Region) (place n : ℕ) : Type 0 where
  pub inside : slot_at g place + g.size ≤ n

-- the first `size` octets in the slot of a place
abbrev pub octets_in : List ℕ → Region → ℕ → ℕ → List ℕ
octets_in part g place size = take size (drop (slot_at g place) part)

-- all the octets in the slot of a place
abbrev pub slot_octets : List ℕ → Region → ℕ → List ℕ
slot_octets part g place = octets_in part g place g.size

-- the n octets of a store from octet `start` on, and the store with others in their place
abbrev pub part_at : ℕ → ℕ → List ℕ → List ℕ
part_at start n store = take n (drop start store)

abbrev pub with_part_at : ℕ → ℕ → List ℕ → List ℕ → List ℕ
with_part_at start n store part = take start store ++ (part ++ drop n (drop start store))
