-- The owed list with full numbers goes as the line's own list of words goes: a number that is there already keeps its word when it is renewed.
-- Assumes nothing.
use Prim.Native.Nat.{ℕ, suc, ◌%◌, ◌≤◌}
use mathlib.Core.Path.{◌≡◌, refl, sym, ap, ap₂, ◌∙◌}
use mathlib.Core.Bool.{Bool, true, false, ◌||◌}
use mathlib.Core.List.{List, [], ◌∷◌, ◌++◌, map}
use native.Mathlib.Omega.{arith}
use lib.Dec.{eqb, leb}
use lib.ListN.{length, length-append, length-map}
use borrow.Author.Tests.{eqb-true, eq-eqb, ne_eqb}
use Rattle.ground.specs.Pick.{pick}
use Rattle.ground.proofs.Picks.{pick_by, both_true, clash}
use Rattle.channel.specs.Channel.{modulus}
use Rattle.owed.specs.Owed.{member, enters}
use Rattle.promise.specs.Past.{Mark, alike, there, renewed, enter}
use Rattle.promise.specs.Run.{Each, none, also}
use Rattle.promise.proofs.Lists.{each_append}
use Rattle.promise.specs.Notes.{mark_word}

-- two words are one where channel and 14 bits are
words_alike : (x m : Mark) → eqb (mark_word x) (mark_word m) ≡ alike x m
words_alike x m = go (alike x m) refl
  where
    go : (t : Bool) → alike x m ≡ t → eqb (mark_word x) (mark_word m) ≡ t
    go true e =
        let b = both_true (eqb x.channel m.channel) _ e in
        let c : x.channel ≡ m.channel = eqb-true _ _ b.0 in
        let n : x.number % modulus ≡ m.number % modulus = eqb-true _ _ b.1 in
        eq-eqb (mark_word x) (mark_word m) (omega arith)
    go false e = ne_eqb (mark_word x) (mark_word m) (λ q. clash (sym e ∙ both q))
      where
        both : mark_word x ≡ mark_word m → alike x m ≡ true
        both q =
            let c : x.channel ≡ m.channel = omega arith in
            let n : x.number % modulus ≡ m.number % modulus = omega arith in
            rw (eq-eqb _ _ c, eq-eqb _ _ n)

alike_word : (x m : Mark) → alike x m ≡ true → mark_word m ≡ mark_word x
alike_word x m e = sym (eqb-true _ _ (words_alike x m ∙ e))

member_there : (m : Mark) (l : List Mark) → member (mark_word m) (map mark_word l) ≡ there m l
unfolding member there
member_there m [] = refl
member_there m (x ∷ l) = ap₂ (λ (a b : Bool). a || b) (words_alike x m) (member_there m l)

renewed_words : (m : Mark) (l : List Mark) → map mark_word (renewed m l) ≡ map mark_word l
unfolding renewed
renewed_words m [] = refl
renewed_words m (x ∷ l) =
    pick_by (λ (k : List Mark). map mark_word k ≡ mark_word x ∷ map mark_word l) (alike x m)
    (λ e. ap (λ (w : ℕ). w ∷ map mark_word l) (alike_word x m e))
    (λ e. ap (λ (k : List ℕ). mark_word x ∷ k) (renewed_words m l))

map_last : (l : List Mark) (m : Mark) → map mark_word (l ++ (m ∷ [])) ≡ map mark_word l ++ (mark_word m ∷ [])
map_last [] m = refl
map_last (x ∷ l) m = ap (λ (k : List ℕ). mark_word x ∷ k) (map_last l m)

-- "the number enters the list of owed acknowledgements unless it is there already or the list has 64 entries"
pub enter_words : (l : List Mark) (m : Mark) → enters (map mark_word l) (mark_word m) ≡ map mark_word (enter l m)
unfolding enters enter
enter_words l m =
    ap₂ (λ (a b : Bool). pick (a || b) (map mark_word l) (map mark_word l ++ (mark_word m ∷ []))) (ap (leb 64) (length-map l mark_word)) (member_there m l)
    ∙ go (leb 64 (length l)) (there m l)
  where
    go : (a b : Bool) → pick (a || b) (map mark_word l) (map mark_word l ++ (mark_word m ∷ [])) ≡ map mark_word (pick b (renewed m l) (pick a l (l ++ (m ∷ []))))
    go true true = sym (renewed_words m l)
    go true false = refl
    go false true = sym (renewed_words m l)
    go false false = sym (map_last l m)

-- it has at most one entry more then
renewed_length : (m : Mark) (l : List Mark) → length (renewed m l) ≡ length l
unfolding renewed
renewed_length m [] = refl
renewed_length m (x ∷ l) = pick_by (λ (k : List Mark). length k ≡ suc (length l)) (alike x m) (λ _. refl) (λ _. ap suc (renewed_length m l))

pub enter_length : (l : List Mark) (m : Mark) → length (enter l m) ≤ suc (length l)
unfolding enter
enter_length l m =
    pick_by (λ (k : List Mark). length k ≤ suc (length l)) (there m l) (λ _. omega (arith, renewed_length m l))
    (λ _. pick_by (λ (k : List Mark). length k ≤ suc (length l)) (leb 64 (length l)) (λ _. omega arith) (λ _. omega (arith, length-append l (m ∷ []))))

-- what holds of each of the list, and of what enters, holds of each then
module _ {P : Mark → Type 0} (m : Mark) (p : P m) where
  each_renewed : {l : List Mark} → Each P l → Each P (renewed m l)
  unfolding renewed
  each_renewed none = none
  each_renewed (also {a = x} {l = l} q h) = pick_by (Each P) (alike x m) (λ _. also p h) (λ _. also q (each_renewed h))

  pub each_enter : {l : List Mark} → Each P l → Each P (enter l m)
  unfolding enter
  each_enter {l} h =
      pick_by (Each P) (there m l) (λ _. each_renewed h) (λ _. pick_by (Each P) (leb 64 (length l)) (λ _. h) (λ _. each_append h (also p none)))
