-- Which line has a key: at most one. So of identifiers, of which none that is open rests.
-- Assumes nothing.
use Prim.Native.Nat.{ℕ, suc, ◌+◌, ◌<◌}
use mathlib.Core.Path.{◌≡◌, refl, sym, ap, subst, ◌∙◌}
use mathlib.Core.Bool.{Bool, true, false, ◌&&◌, ◌||◌}
use mathlib.Core.List.{List, [], ◌∷◌, ◌++◌}
use native.Mathlib.Omega.{arith}
use native.Mathlib.Decide.{ℕ_discrete}
use lib.Dec.{eqb}
use lib.ListN.{length, get_or, set, length-set}
use lib.Seq.{get_or-set_other, set-get_or}
use borrow.Author.Tests.{eqb-true, not-true}
use Rattle.std.specs.Prelude.{Option, Some, None, is_some}
use Rattle.ground.specs.Pick.{pick}
use Rattle.ground.proofs.Picks.{both_true, clash}
use Rattle.owed.specs.Owed.{member, no_twice}
use Rattle.owed.proofs.Lists.{member_append}
use Rattle.line.specs.Line.{is_open, closed_line}
use Rattle.line.specs.declared.Line.{Line}
use Rattle.book.specs.Book.{open_keys, owner_by, identifier_of, open_in, line_of, resting_of, book_fits, owner_from, owner_of, taken}
use Rattle.book.specs.Shape.{BookShaped}
use Rattle.book.specs.declared.Book.{Book}
use Rattle.book.proofs.Facts.{book_ok}
use Rattle.book.proofs.LineAnew.{open_member, once_open}

or_neither : (a b : Bool) → (a || b) ≡ false → (a ≡ false) × (b ≡ false)
or_neither true b e = clash (sym e)
or_neither false b e = (refl, e)

-- What is found is an open line that has the key.
record Found (key : Line → ℕ) (ls : List Line) (x k i : ℕ) : Type 0 where
  place : ℕ
  is : i ≡ k + place
  inside : place < length ls
  opened : is_open (get_or ls place closed_line) ≡ true
  has : key (get_or ls place closed_line) ≡ x

module _ (key : Line → ℕ) where
  -- a key is open exactly if a line has it
  pub open_somebody : (k : ℕ) (ls : List Line) (x : ℕ) → member x (open_keys key ls) ≡ is_some (owner_by key k ls x)
  unfolding member open_keys owner_by
  open_somebody k [] x = refl
  open_somebody k (l ∷ ls) x = go (is_open l) (eqb (key l) x) refl (open_somebody (suc k) ls x)
    where
      go : (t u : Bool) → eqb (key l) x ≡ u → member x (open_keys key ls) ≡ is_some (owner_by key (suc k) ls x)
          → member x (pick t (key l ∷ open_keys key ls) (open_keys key ls)) ≡ is_some (pick (t && u) (Some k) (owner_by key (suc k) ls x))
      go true true e h = rw e
      go true false e h = rw e h
      go false u e h = h

  from_at : (k : ℕ) (ls : List Line) (x i : ℕ) → owner_by key k ls x ≡ Some i → Found key ls x k i
  unfolding owner_by
  from_at k [] x i e = absurd (let z : ◌≡◌ {A = ℕ} 0 1 = cc in omega arith)
  from_at k (l ∷ ls) x i e = go (is_open l && eqb (key l) x) refl (from_at (suc k) ls x i) e
    where
      go : (t : Bool) → (is_open l && eqb (key l) x) ≡ t → (owner_by key (suc k) ls x ≡ Some i → Found key ls x (suc k) i) → pick t (Some k) (owner_by key (suc k) ls x) ≡ Some i → Found key (l ∷ ls) x k i
      go true q f e =
          let b = both_true (is_open l) (eqb (key l) x) q in
          let z : k ≡ i = cc in
          record { place = 0; is = omega arith; inside = omega arith; opened = b.0; has = eqb-true _ _ b.1 }
      go false q f e =
          let r = f e in
          record { place = suc r.place; is = omega (arith, r.is); inside = omega (arith, r.inside); opened = r.opened; has = r.has }

  module _ (ls : List Line) where
    pub owner_at : (x i : ℕ) → owner_by key 0 ls x ≡ Some i → (i < length ls) × (is_open (get_or ls i closed_line) ≡ true) × (key (get_or ls i closed_line) ≡ x)
    owner_at x i e =
        let r = from_at 0 ls x i e in
        let z : r.place ≡ i = omega (arith, r.is) in
        subst (λ (j : ℕ). (j < length ls) × (is_open (get_or ls j closed_line) ≡ true) × (key (get_or ls j closed_line) ≡ x)) z (r.inside, r.opened, r.has)

    -- where nothing is found no open line has it
    pub owner_nobody : (x : ℕ) → owner_by key 0 ls x ≡ None → (i : ℕ) → i < length ls → is_open (get_or ls i closed_line) ≡ true → key (get_or ls i closed_line) ≡ x → ⊥
    owner_nobody x e i h o q =
        let none : member x (open_keys key ls) ≡ false = open_somebody 0 ls x ∙ ap is_some e in
        let one : member (key (get_or ls i closed_line)) (open_keys key ls) ≡ true = open_member key ls i h o in
        clash (sym none ∙ ap (λ (y : ℕ). member y (open_keys key ls)) (sym q) ∙ one)

    -- Where no key is there twice, among the open lines and others that count, one key is on one line, and not among the others.
    module _ (r : List ℕ) (once : no_twice (open_keys key ls ++ r) ≡ true) (i : ℕ) (h : i < length ls) (o : is_open (get_or ls i closed_line) ≡ true) where
      alone : (member (key (get_or ls i closed_line)) (open_keys key (set ls i closed_line)) ≡ false) × (member (key (get_or ls i closed_line)) r ≡ false)
      alone =
          let l = get_or ls i closed_line in
          let others = open_keys key (set ls i closed_line) in
          let all : no_twice (open_keys key (set ls i l) ++ r) ≡ true = rw (set-get_or ls i closed_line) once in
          let e = (both_true _ _ (sym (once_open key ls r i l h o) ∙ all)).0 in
          or_neither (member (key l) others) (member (key l) r) (sym (member_append (key l) others r) ∙ not-true _ e)

      pub not_among : member (key (get_or ls i closed_line)) r ≡ false
      not_among = alone.1

      pub only_owner : (j : ℕ) → j < length ls → is_open (get_or ls j closed_line) ≡ true → key (get_or ls i closed_line) ≡ key (get_or ls j closed_line) → i ≡ j
      only_owner j g p q = go (ℕ_discrete j i)
        where
          go : Dec (j ≡ i) → i ≡ j
          go (yes e) = sym e
          go (no n) =
              let left = set ls i closed_line in
              let same : get_or left j closed_line ≡ get_or ls j closed_line = get_or-set_other ls i j closed_line closed_line n in
              let there = open_member key left j (omega (arith, length-set ls i closed_line)) (ap is_open same ∙ p) in
              clash (sym alone.0 ∙ ap (λ (y : ℕ). member y (open_keys key left)) (q ∙ ap key (sym same)) ∙ there)

      -- so an open line is found by its key
      pub owner_found : owner_by key 0 ls (key (get_or ls i closed_line)) ≡ Some i
      owner_found = go (owner_by key 0 ls (key (get_or ls i closed_line))) refl
        where
          go : (w : Option ℕ) → owner_by key 0 ls (key (get_or ls i closed_line)) ≡ w → w ≡ Some i
          go (Some j) e =
              let f = owner_at (key (get_or ls i closed_line)) j e in
              let z : i ≡ j = only_owner j f.0 f.1 (sym f.2) in
              ap Some (sym z)
          go None e = absurd (owner_nobody (key (get_or ls i closed_line)) e i h o refl)

-- By identifiers.
pub taken_is : (b : Book) (x : ℕ) → taken b x ≡ (is_some (owner_of b x) || member x (resting_of b))
unfolding open_in owner_from
taken_is b x = member_append x (open_in b.lines) (resting_of b) ∙ ap (λ (t : Bool). t || member x (resting_of b)) (open_somebody identifier_of 0 b.lines x)

pub whose_at : (b : Book) (x i : ℕ) → owner_of b x ≡ Some i → (i < length b.lines) × (is_open (line_of b i) ≡ true) × ((line_of b i).identifier ≡ x)
unfolding owner_from
whose_at b = owner_at identifier_of b.lines

pub whose_nobody : (b : Book) (x : ℕ) → owner_of b x ≡ None → (i : ℕ) → i < length b.lines → is_open (line_of b i) ≡ true → (line_of b i).identifier ≡ x → ⊥
unfolding owner_from
whose_nobody b = owner_nobody identifier_of b.lines

module _ (b : Book) (f : book_fits b ≡ true) (k : BookShaped b) (i : ℕ) (h : i < 4) (o : is_open (line_of b i) ≡ true) where
  -- an identifier that is open does not rest
  pub never_resting : member (line_of b i).identifier (resting_of b) ≡ false
  unfolding open_in
  never_resting = not_among identifier_of b.lines (resting_of b) (book_ok b f).once i (omega (arith, k.lines)) o

  pub one_owner : (j : ℕ) → j < 4 → is_open (line_of b j) ≡ true → (line_of b i).identifier ≡ (line_of b j).identifier → i ≡ j
  unfolding open_in
  one_owner j g = only_owner identifier_of b.lines (resting_of b) (book_ok b f).once i (omega (arith, k.lines)) o j (omega (arith, k.lines))

  pub whose_found : owner_of b (line_of b i).identifier ≡ Some i
  unfolding open_in owner_from
  whose_found = owner_found identifier_of b.lines (resting_of b) (book_ok b f).once i (omega (arith, k.lines)) o
