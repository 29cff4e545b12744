-- Where the lines' parts lie in the one lent store: in line order, each after the one before it (RULES 6.1, RULES 6.4).
-- Assumes nothing.
use Rattle.std.specs.Prelude.{ℕ, zero, suc, ◌+◌, List}
use Rattle.store.specs.Store.{part_at, with_part_at}
use Rattle.line.specs.Part.{part_length}
use Rattle.book.specs.Book.{line_of}
use Rattle.book.specs.declared.Book.{Book}

-- the octet that line i's part begins at
unfoldable pub part_start : Book → ℕ → ℕ
part_start b zero = 0
part_start b (suc i) = part_start b i + part_length (line_of b i)

-- how many octets a store has at the least, for all parts: "42,240 octets (4 lines, 2 ways, 40 messages of 132)" (RULES 6.1)
abbrev pub store_length : Book → ℕ
store_length b = part_start b 4

-- that number; proofs/Parts.antt has it equal to the sum
abbrev pub store_octets : ℕ
store_octets = 42240

-- line i's part of a store, and the store with another in its place
abbrev pub part_of : Book → ℕ → List ℕ → List ℕ
part_of b i store = part_at (part_start b i) (part_length (line_of b i)) store

abbrev pub with_part : Book → ℕ → List ℕ → List ℕ → List ℕ
with_part b i store part = with_part_at (part_start b i) (part_length (line_of b i)) store part
