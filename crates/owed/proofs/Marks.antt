-- The marks that entries leave: one that finds no mark is new among those that left theirs.
-- Assumes nothing.
use Rattle.std.proofs.Common.{inl, inr, ℕ, ◌+◌, ◌<◌, ◌≡◌, refl, sym, ap, ◌∙◌, Bool, true, false, List, length, get_or, set, take, eqb}
use Rattle.std.proofs.lemmas.Bool.{both_ways, cases_eq, or_cases, false_from_ne_true, eqb-true}
use Rattle.std.proofs.lemmas.List.{get_or-set_other, take_more}
use Rattle.std.proofs.lemmas.Grind.{get_or-set_at}
use Rattle.owed.specs.Owed.{member, mark_of}
use Rattle.owed.proofs.Lists.{member_last}

-- each entry of the list has left its mark
abbrev pub Marked : List Bool → List ℕ → Type 0
Marked marks l = (x : ℕ) → member x l ≡ true → get_or marks (mark_of x) false ≡ true

-- an entry that finds no mark is not in the list
pub unmarked_new : (marks : List Bool) (l : List ℕ) (x : ℕ) → Marked marks l → get_or marks (mark_of x) false ≡ false → member x l ≡ false
unmarked_new marks l x m f = false_from_ne_true (member x l) (λ t. both_ways _ f (m x t))

-- at first there is none
pub marked_none : (marks : List Bool) (l : List ℕ) → Marked marks (take 0 l)
unfolding member
marked_none marks l x t = absurd (both_ways _ refl t)

-- one entry more leaves its mark
pub marked_on : (marks : List Bool) (l : List ℕ) (i : ℕ) → i < length l → mark_of (get_or l i 0) < length marks → Marked marks (take i l)
    → Marked (set marks (mark_of (get_or l i 0)) true) (take (i + 1) l)
marked_on marks l i h k m x t =
    let w : ℕ = get_or l i 0 in
    let e = ap (member x) (take_more l i 0 h) ∙ member_last x w (take i l) in
    elim (or_cases (member x (take i l)) (eqb w x) (sym e ∙ t)) [
      | inl s ↦ stays (mark_of w) k (m x s)
      | inr s ↦ get_or-set_at marks (mark_of w) (mark_of x) true false (sym (ap mark_of (eqb-true w x s))) k
    ]
  where
    stays : (j : ℕ) → j < length marks → get_or marks (mark_of x) false ≡ true → get_or (set marks j true) (mark_of x) false ≡ true
    stays j l s = elim (cases_eq (mark_of x) j) [
      | inl q ↦ get_or-set_at marks j (mark_of x) true false q l
      | inr q ↦ get_or-set_other marks j (mark_of x) true false q ∙ s
    ]
