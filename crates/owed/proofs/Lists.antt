-- Laws of lists that the owed list's steps cite, and of what stands in one once or twice.
-- Assumes nothing.
use Rattle.std.proofs.Common.{ℕ, zero, suc, ◌+◌, ◌≤◌, ◌<◌, ◌≡◌, refl, sym, ap, ◌∙◌, Bool, true, false, not, ◌&&◌, ◌||◌, List, [], ◌∷◌, ◌++◌, length, get_or, set, take, drop, eqb, arith, zero-add, add-one, length-drop}
use mathlib.Core.Path.{ap₂}
use native.Mathlib.Nat.{add_comm}
use lib.ListN.{take-append-drop}
use lib.Seq.{paste, get_or-drop, take-take, take-suc}
use borrow.Author.Tests.{eqb-true, eqb-false, eq-eqb, ne_eqb}
use Rattle.std.specs.List.{list_any}
use Rattle.std.proofs.lemmas.List.{take_more}
use Rattle.std.proofs.lemmas.List.Edits.{paste_more}
use Rattle.std.proofs.lemmas.List.Recursion.{same_from_clauses, and_push, and_fails_at, or_push}
use Rattle.ground.proofs.Picks.{both_true, clash, and_false}
use Rattle.field.specs.Word.{served}
use Rattle.owed.specs.Owed.{member, no_twice, all_spans}

-- a turn of the loop that moves each element k places down
pub shift_step : (xs : List ℕ) (k i : ℕ) → i + k < length xs
    → set (paste xs 0 (drop k xs) i) i (get_or xs (i + k) 0) ≡ paste xs 0 (drop k xs) (i + 1)
shift_step xs k i h =
    let at : get_or (drop k xs) i 0 ≡ get_or xs (i + k) 0 = get_or-drop k xs i 0 ∙ ap (λ (j : ℕ). get_or xs j 0) (add_comm k i) in
    ap₂ (λ (j v : ℕ). set (paste xs 0 (drop k xs) i) j v) (sym (zero-add i)) (sym at)
    ∙ paste_more xs 0 (drop k xs) i 0 (omega arith) (omega (arith, length-drop k xs))

or_assoc : (a b c : Bool) → ((a || b) || c) ≡ (a || (b || c))
or_assoc true b c = refl
or_assoc false b c = refl

-- what stands in two lists together stands in one of them
pub member_append : (x : ℕ) (l m : List ℕ) → member x (l ++ m) ≡ (member x l || member x m)
unfolding member
member_append x [] m = refl
member_append x (y ∷ l) m = ap (λ (b : Bool). eqb y x || b) (member_append x l m) ∙ sym (or_assoc (eqb y x) (member x l) (member x m))

pub member_last : (x y : ℕ) (l : List ℕ) → member x (l ++ (y ∷ [])) ≡ (member x l || eqb y x)
unfolding member
member_last x y l = or_push (member x) (λ z. eqb z x) refl (λ _ _. refl) l y

-- what `contains` says of a list, or of one that equals it
pub found : (x : ℕ) (l m : List ℕ) (b : Bool) → l ≡ m → b ≡ list_any (λ y. eqb y x) l → member x m ≡ b
unfolding member
found x l m b e f =
    let same = same_from_clauses (list_any (λ y. eqb y x)) (member x) (λ y b. eqb y x || b) refl (λ _ _. refl) (λ _ _. refl) l in
    sym (ap (member x) e) ∙ sym same ∙ sym f

-- a test of two numbers is the same either way round
pub eqb_turn : (x y : ℕ) → eqb x y ≡ eqb y x
eqb_turn x y = go (eqb y x) refl
  where
    go : (b : Bool) → eqb y x ≡ b → eqb x y ≡ b
    go true e = eq-eqb x y (sym (eqb-true y x e))
    go false e = ne_eqb x y (λ q. eqb-false y x e (sym q))

-- one more at the end: nothing stands there twice if nothing did and it was not there
pub twice_last : (x : ℕ) (l : List ℕ) → no_twice (l ++ (x ∷ [])) ≡ (no_twice l && not (member x l))
unfolding no_twice member
twice_last x [] = refl
twice_last x (y ∷ l) =
    ap₂ (λ (a b : Bool). not a && b) (member_last y x l ∙ ap (λ (b : Bool). member y l || b) (eqb_turn x y)) (twice_last x l)
    ∙ turn (member y l) (no_twice l) (eqb y x) (member x l)
  where
    turn : (a b c d : Bool) → (not (a || c) && (b && not d)) ≡ ((not a && b) && not (c || d))
    turn true b c d = refl
    turn false true true d = refl
    turn false false true d = refl
    turn false b false d = refl

-- what stands twice at the front stands there twice
pub twice_front : (l m : List ℕ) → no_twice l ≡ false → no_twice (l ++ m) ≡ false
unfolding no_twice
twice_front [] m e = clash (sym e)
twice_front (x ∷ l) m e = go (member x l) refl (twice_front l m) e
  where
    go : (b : Bool) → member x l ≡ b → (no_twice l ≡ false → no_twice (l ++ m) ≡ false) → (not b && no_twice l) ≡ false
        → (not (member x (l ++ m)) && no_twice (l ++ m)) ≡ false
    go true q f e = rw (member_append x l m, q)
    go false q f e = rw (f e) (and_false (not (member x (l ++ m))))

-- one more at the end: each is served if each was and it is
pub spans_last : (x : ℕ) (l : List ℕ) → all_spans (l ++ (x ∷ [])) ≡ (all_spans l && served x)
unfolding all_spans
spans_last x l = and_push all_spans served refl (λ _ _. refl) l x

-- what holds of the whole holds of the rest once k are gone
pub once_rest : (k : ℕ) (l : List ℕ) → no_twice l ≡ true → no_twice (drop k l) ≡ true
unfolding no_twice
once_rest zero l t = t
once_rest (suc k) [] t = t
once_rest (suc k) (x ∷ l) t = once_rest k l (both_true (not (member x l)) (no_twice l) t).1

pub spans_rest : (k : ℕ) (l : List ℕ) → all_spans l ≡ true → all_spans (drop k l) ≡ true
unfolding all_spans
spans_rest zero l t = t
spans_rest (suc k) [] t = t
spans_rest (suc k) (x ∷ l) t = spans_rest k l (both_true (served x) (all_spans l) t).1

-- a list is its front and the rest
pub front : (i n : ℕ) (l : List ℕ) → i ≤ n → take n l ≡ take i l ++ drop i (take n l)
front i n l h = sym (take-append-drop i (take n l)) ∙ ap (λ (f : List ℕ). f ++ drop i (take n l)) (take-take i n l h)

-- A search through the first n elements of a list.
module _ (x : ℕ) (l : List ℕ) where
  -- one element more that is not x
  pub member_on : (i : ℕ) → i < length l → member x (take i l) ≡ false → (get_or l i 0 ≡ x → ⊥) → member x (take (i + 1) l) ≡ false
  member_on i h f d = rw (add-one i, take-suc l i 0 h, member_last x (get_or l i 0) (take i l), f, ne_eqb _ _ d)

  -- x itself
  pub member_at : (i n : ℕ) → i < n → i < length l → get_or l i 0 ≡ x → member x (take n l) ≡ true
  member_at i n h k e =
      rw (
        front (suc i) n l h,
        member_append x (take (suc i) l) (drop (suc i) (take n l)),
        take-suc l i 0 k,
        member_last x (get_or l i 0)
            (take i l),
        eq-eqb _ _ e,
      )
      (done (member x (take i l)) (member x (drop (suc i) (take n l))))
    where
      done : (a b : Bool) → ((a || true) || b) ≡ true
      done true b = refl
      done false b = refl

-- A test of the elements of a list, one after the other.
module _ (l : List ℕ) (i : ℕ) (k : i < length l) where
  pub spans_on : all_spans (take i l) ≡ true → served (get_or l i 0) ≡ true → all_spans (take (i + 1) l) ≡ true
  spans_on a b = rw (take_more l i 0 k, spans_last (get_or l i 0) (take i l), a, b)

  pub once_on : no_twice (take i l) ≡ true → member (get_or l i 0) (take i l) ≡ false → no_twice (take (i + 1) l) ≡ true
  once_on a b = rw (take_more l i 0 k, twice_last (get_or l i 0) (take i l), a, b)

  pub spans_lost : served (get_or l i 0) ≡ false → all_spans l ≡ false
  unfolding all_spans
  spans_lost e = and_fails_at all_spans served refl (λ _ _. refl) l i 0 k e

  pub twice_lost : member (get_or l i 0) (take i l) ≡ true → no_twice l ≡ false
  twice_lost e =
      rw (← take-append-drop (i + 1) l) (twice_front (take (i + 1) l) (drop (i + 1) l)
      (rw (take_more l i 0 k, twice_last (get_or l i 0) (take i l), e) (and_false (no_twice (take i l)))))
