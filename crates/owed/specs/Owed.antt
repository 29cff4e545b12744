-- The owed acknowledgements of a line as a list of words (RULES 4.11), oldest first (RULES 5.7).
-- Assumes nothing.
use Rattle.std.specs.Prelude.{ℕ, ◌+◌, ◌*◌, ◌/◌, ◌%◌, ◌^◌, min, Bool, true, false, not, ◌&&◌, ◌||◌, List, [], ◌∷◌, ◌++◌, eqb, leb, length, get_or, take, drop, replicate}
use Rattle.ground.specs.Pick.{pick}
use Rattle.field.specs.Word.{served}
use Rattle.owed.specs.declared.Owed.{Owed}
use Rattle.packet.specs.declared.Acks.{Acks}

-- the entries there are; what stands after them in the array is not read (RULES 15.26)
abbrev pub owed_of : Owed → List ℕ
owed_of o = take o.count o.numbers

-- nothing is owed (RULES 9.12)
abbrev pub fresh_owed : Owed
fresh_owed = record { numbers = replicate 64 0; count = 0 }

-- the same record with another list; after the list the array holds what it held there
abbrev pub with_list : Owed → List ℕ → Owed
with_list o l = record { numbers = l ++ drop (length l) o.numbers; count = length l }

-- the word is in the list
unfoldable pub member : ℕ → List ℕ → Bool
member word [] = false
member word (x ∷ l) = eqb x word || member word l

-- "the number enters the list of owed acknowledgements unless it is there already or the list has 64 entries" (RULES 4.10)
unfoldable pub enters : List ℕ → ℕ → List ℕ
enters l word = pick (leb 64 (length l) || member word l) l (l ++ (word ∷ []))

unfoldable pub entered : Owed → ℕ → Owed
entered o word = with_list o (enters (owed_of o) word)

-- "every packet written carries the first three, or all if fewer" (RULES 5.7)
unfoldable pub first_three : Owed → Acks
first_three o = record {
  count = min 3 (length (owed_of o));
  one = get_or (owed_of o) 0 0;
  two = get_or (owed_of o) 1 0;
  three = get_or (owed_of o) 2 0;
}

-- "and they leave the list" (RULES 5.7)
unfoldable pub without_three : Owed → Owed
without_three o = with_list o (drop 3 (owed_of o))

-- no word stands in the list twice
unfoldable pub no_twice : List ℕ → Bool
no_twice [] = true
no_twice (x ∷ l) = not (member x l) && no_twice l

-- every entry is of channel 1 or 2 (RULES 15.18)
unfoldable pub all_spans : List ℕ → Bool
all_spans [] = true
all_spans (x ∷ l) = served x && all_spans l

-- What BOOK asks: not "over 64 owed numbers" (RULES 15.16), "or one twice" (RULES 15.17), and each of channel 1 or 2 (RULES 15.18).
unfoldable pub owed_fits : Owed → Bool
owed_fits o = leb o.count 64 && (all_spans (owed_of o) && no_twice (owed_of o))

-- A device of the search for an entry that stands there twice: 128 marks, 64 for each channel, one for the low six bits of a number. What BOOK
-- asks does not rest on it.
abbrev pub mark_of : ℕ → ℕ
mark_of word = word / 2 ^ 15 * 64 + word % 64
