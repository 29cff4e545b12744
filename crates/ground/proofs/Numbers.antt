-- A refusal's number is never 0, which stands for an accepted call, and it is of one refusal only.
-- Assumes nothing.
use Prim.Native.Nat.{ℕ, ◌-◌, ◌<◌}
use mathlib.Core.Path.{◌≡◌, refl, sym, ap, ◌∙◌}
use mathlib.Core.List.{[], ◌∷◌}
use lib.Dec.{lit<}
use lib.ListN.{get_or}
use Rattle.ground.specs.Refusal.{number_of}
use Rattle.ground.specs.declared.Refusal.{Refusal}
use Rattle.ground.specs.declared.Refusal.TheVariants.{SHORT, FORM, TYPE, NOLINE, MODE, CHANNEL, SIZE, FULL, SPENT, NOTHING, ROOM, TAKEN, RANGE, CLOCK, RECOVERY, LENGTH, RESERVED, BOOK}

pub number_some : (r : Refusal) → 0 < number_of r
number_some SHORT = lit< tt
number_some FORM = lit< tt
number_some TYPE = lit< tt
number_some NOLINE = lit< tt
number_some MODE = lit< tt
number_some CHANNEL = lit< tt
number_some SIZE = lit< tt
number_some FULL = lit< tt
number_some SPENT = lit< tt
number_some NOTHING = lit< tt
number_some ROOM = lit< tt
number_some TAKEN = lit< tt
number_some RANGE = lit< tt
number_some CLOCK = lit< tt
number_some RECOVERY = lit< tt
number_some LENGTH = lit< tt
number_some RESERVED = lit< tt
number_some BOOK = lit< tt

-- Which refusal has a number: the table 'Refusal numbers' read the other way.
abbrev pub refusal_at : ℕ → Refusal
refusal_at n =
    get_or (SHORT ∷ FORM ∷ TYPE ∷ NOLINE ∷ MODE ∷ CHANNEL ∷ SIZE ∷ FULL ∷ SPENT ∷ NOTHING ∷ ROOM ∷ TAKEN ∷ RANGE ∷ CLOCK ∷ RECOVERY ∷ LENGTH ∷ RESERVED ∷ BOOK ∷ []) (n - 1) SHORT

pub refusal_back : (r : Refusal) → refusal_at (number_of r) ≡ r
refusal_back SHORT = refl
refusal_back FORM = refl
refusal_back TYPE = refl
refusal_back NOLINE = refl
refusal_back MODE = refl
refusal_back CHANNEL = refl
refusal_back SIZE = refl
refusal_back FULL = refl
refusal_back SPENT = refl
refusal_back NOTHING = refl
refusal_back ROOM = refl
refusal_back TAKEN = refl
refusal_back RANGE = refl
refusal_back CLOCK = refl
refusal_back RECOVERY = refl
refusal_back LENGTH = refl
refusal_back RESERVED = refl
refusal_back BOOK = refl

-- so no two refusals have one number
pub one_number : (r s : Refusal) → number_of r ≡ number_of s → r ≡ s
one_number r s e = sym (refusal_back r) ∙ ap refusal_at e ∙ refusal_back s
