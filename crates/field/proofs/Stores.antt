-- Runs of stores: past the end, cut in two, and as loops make them.
-- Assumes nothing.
use mathlib.Core.Path.{◌≡◌, refl, sym, ap, ◌∙◌}
use mathlib.Core.List.{List, [], ◌∷◌, ◌++◌}
use mathlib.Core.Bool.{Bool, true, false}
use Prim.Native.Nat.{ℕ, suc, ◌+◌, ◌-◌, ◌*◌, ◌≤◌, ◌<◌, min}
use native.Mathlib.Nat.{add-zero, zero-add, add-suc, suc-add, le_of_lt}
use native.Mathlib.Numerals.{add-one}
use native.Mathlib.Omega.{arith}
use lib.Dec.{leb}
use lib.ListN.{length, set, get_or, take, drop, take-append-drop}
use lib.Seq.{sets, sets-eq, length-sets, set_out, take-suc, take-length, length-take-le}
use borrow.Author.Tests.{leb-true, leb-false}
use Rattle.std.specs.Prelude.{Ok}
use Rattle.ground.specs.Refusal.{Verdict, Test, verdict}
use Rattle.ground.specs.Answer.{Writes}
use Rattle.ground.proofs.Verdicts.{writes}
use Rattle.field.specs.Layout.{octets, word_octets}

-- past the end nothing is stored
pub sets_out : (l : List ℕ) (i : ℕ) (vs : List ℕ) → length l ≤ i → sets l i vs ≡ l
sets_out l i [] h = refl
sets_out l i (a ∷ vs) h = rw (set_out l i a h) (sets_out l (suc i) vs (omega arith))

-- a run of stores, cut in two
pub sets_append : (u v l : List ℕ) (i : ℕ) → sets l i (u ++ v) ≡ sets (sets l i u) (i + length u) v
sets_append [] v l i = ap (λ (k : ℕ). sets l k v) (sym (add-zero i))
sets_append (a ∷ u) v l i =
    sets_append u v (set l i a) (suc i)
    ∙ ap (λ (k : ℕ). sets (sets (set l i a) (suc i) u) k v) (suc-add i (length u) ∙ sym (add-suc i (length u)))

-- a run of stores, longer by one octet
pub octets_on : (l : List ℕ) (i : ℕ) (vs : List ℕ) (k : ℕ) → k < length vs → set (sets l i (take k vs)) (i + k) (get_or vs k 0) ≡ sets l i (take (k + 1) vs)
octets_on l i vs k h =
    sym (rw (add-one k, take-suc vs k 0 h)
    (sets_append (take k vs) (get_or vs k 0 ∷ []) l i ∙ ap (λ (n : ℕ). set (sets l i (take k vs)) (i + n) (get_or vs k 0)) (length-take-le k vs (le_of_lt h))))

-- what has no place is not stored: a run may be cut to the n that have one
pub sets_cut : (l : List ℕ) (i n : ℕ) (vs : List ℕ) → i ≤ length l → n ≡ min (length vs) (length l - i) → sets l i (take n vs) ≡ sets l i vs
sets_cut l i n vs h e = go (leb (length vs) n) refl
  where
    go : (b : Bool) → leb (length vs) n ≡ b → sets l i (take n vs) ≡ sets l i vs
    go true t =
        let k : length vs ≤ n = leb-true _ _ t in
        let q : n ≡ length vs = omega arith in
        ap (λ (m : ℕ). sets l i (take m vs)) q ∙ ap (sets l i) (take-length vs)
    go false f =
        let k : n < length vs = leb-false _ _ f in
        let m : length (take n vs) ≡ n = length-take-le n vs (le_of_lt k) in
        let r : length (sets l i (take n vs)) ≤ i + length (take n vs) = omega (arith, length-sets l i (take n vs)) in
        sym (sets_out (sets l i (take n vs)) (i + length (take n vs)) (drop n vs) r) ∙ sym (sets_append (take n vs) (drop n vs) l i)
        ∙ ap (sets l i) (take-append-drop n vs)

-- the same where the n reach to the end
pub sets_filled : (l : List ℕ) (i n : ℕ) (vs : List ℕ) → i + n ≡ length l → n ≤ length vs → sets l i (take n vs) ≡ sets l i vs
sets_filled l i n vs h k = sets_cut l i n vs (omega arith) (omega arith)

-- where a run is stored whole, where it is cut, and where it has no place
pub ruleset placed = (sets-eq, sets_filled, sets_out)

-- words one after the other
words_append : (u v : List ℕ) → word_octets (u ++ v) ≡ word_octets u ++ word_octets v
words_append [] v = refl
words_append (w ∷ u) v = ap (λ (l : List ℕ). octets 2 w ++ l) (words_append u v)

pub length_words : (ws : List ℕ) → length (word_octets ws) ≡ 2 * length ws
length_words [] = refl
length_words (w ∷ ws) = ap (λ (n : ℕ). suc (suc n)) (length_words ws) ∙ omega arith

-- a turn of the loop that stores words
pub words_on : (l ws : List ℕ) (k : ℕ) → k < length ws
    → sets (sets l 0 (word_octets (take k ws))) (2 * k) (octets 2 (get_or ws k 0)) ≡ sets l 0 (word_octets (take (k + 1) ws))
words_on l ws k h =
    let u : List ℕ = take k ws in
    let w : ℕ = get_or ws k 0 in
    let e : 0 + length (word_octets u) ≡ 2 * k = zero-add (length (word_octets u)) ∙ length_words u ∙ ap (λ (n : ℕ). 2 * n) (length-take-le k ws (le_of_lt h)) in
    sym (rw (add-one k, take-suc ws k 0 h, words_append u (w ∷ []))
    (sets_append (word_octets u) (word_octets (w ∷ [])) l 0 ∙ ap (λ (n : ℕ). sets (sets l 0 (word_octets u)) n (octets 2 w)) e))

-- octets stored from the front on stand before what was there
pub sets_front : (vs l : List ℕ) → length vs ≤ length l → sets l 0 vs ≡ vs ++ drop (length vs) l
sets_front vs l h = sets-eq vs l 0 (omega arith) ∙ ap (λ (n : ℕ). vs ++ drop n l) (zero-add (length vs))

-- a call whose tests all pass, and that stores its octets from the front on, keeps its promise
pub stored_writes : (ts : List Test) (octets l : List ℕ) {v : Verdict} {after : List ℕ} {n : ℕ} → v ≡ verdict ts → v ≡ Ok tt
    → length octets ≤ length l → n ≡ length octets → after ≡ sets l 0 octets → Writes ts octets l after (Ok n)
stored_writes ts octets l e k r p q = writes ts octets l e k p (q ∙ sets_front octets l r ∙ ap (λ (m : ℕ). octets ++ drop m l) (sym p))
