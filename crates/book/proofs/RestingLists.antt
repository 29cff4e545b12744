-- What the array of those that rest becomes, case by case: while fewer than 16 rest, and once 16 do.
-- Assumes nothing.
use Prim.Native.Nat.{ℕ, suc, ◌+◌, ◌-◌, ◌≤◌, ◌<◌, min}
use mathlib.Core.Path.{◌≡◌, sym, ap, ◌∙◌}
use mathlib.Core.List.{List, [], ◌∷◌, ◌++◌, append_assoc}
use native.Mathlib.Numerals.{add-one}
use native.Mathlib.Omega.{arith}
use lib.ListN.{length, get_or, set, take, drop, length-append, length-drop, drop_of_length-le}
use lib.Seq.{set_split, take_all, take-suc, length-take-le, drop-append-le}
use Rattle.std.proofs.lemmas.List.{set_at}
use Rattle.book.specs.Resting.{rests, rested_in}

module _ (l : List ℕ) (x : ℕ) where
  pub rests_few : length l < 16 → rests l x ≡ l ++ (x ∷ [])
  rests_few h =
      let e : length (l ++ (x ∷ [])) - 16 ≡ 0 = omega (arith, length-append l (x ∷ [])) in
      ap (λ (n : ℕ). drop n (l ++ (x ∷ []))) e

  pub rests_full : length l ≡ 16 → rests l x ≡ drop 1 l ++ (x ∷ [])
  rests_full h =
      let e : length (l ++ (x ∷ [])) - 16 ≡ 1 = omega (arith, length-append l (x ∷ [])) in
      ap (λ (n : ℕ). drop n (l ++ (x ∷ []))) e ∙ drop-append-le 1 l (x ∷ []) (omega arith)

  -- how many rest then: never more than 16
  pub rests_most : length (rests l x) ≤ 16
  rests_most = let m = l ++ (x ∷ []) in omega (arith, length-drop (length m - 16) m)

  pub rests_count : length l ≤ 16 → length (rests l x) ≡ min 16 (length l + 1)
  rests_count h = let m = l ++ (x ∷ []) in omega (arith, length-drop (length m - 16) m, length-append l (x ∷ []))

-- the identifier goes behind those that rest
pub rested_few : (r : List ℕ) (n x : ℕ) → n < 16 → n < length r → rested_in r (rests (take n r) x) ≡ set r n x
rested_few r n x h k =
    let len : length (take n r) ≡ n = length-take-le n r (omega arith) in
    let more : length (take n r ++ (x ∷ [])) ≡ suc n = length-append (take n r) (x ∷ []) ∙ ap (λ (m : ℕ). m + 1) len ∙ add-one n in
    ap (rested_in r) (rests_few (take n r) x (omega arith))
    ∙ ap (λ (m : ℕ). (take n r ++ (x ∷ [])) ++ drop m r) more
    ∙ append_assoc (take n r) (x ∷ []) (drop (suc n) r)
    ∙ sym (set_split r n x k)

-- or the oldest leaves, each other moves down, and it goes to the end
pub rested_full : (r : List ℕ) (n x : ℕ) → 16 ≤ n → length r ≡ 16 → rested_in r (rests (take n r) x) ≡ set (drop 1 r ++ take 1 r) 15 x
rested_full r n x k h =
    let len : length (drop 1 r ++ (x ∷ [])) ≡ 16 = omega (arith, length-append (drop 1 r) (x ∷ []), length-drop 1 r) in
    ap (λ (l : List ℕ). rested_in r (rests l x)) (take_all n r (omega arith))
    ∙ ap (rested_in r) (rests_full r x h)
    ∙ ap (λ (m : ℕ). (drop 1 r ++ (x ∷ [])) ++ drop m r) len
    ∙ ap (λ (l : List ℕ). (drop 1 r ++ (x ∷ [])) ++ l) (drop_of_length-le r {i = 16} (omega arith))
    ∙ append_assoc (drop 1 r) (x ∷ []) []
    ∙ sym (ap (λ (l : List ℕ). set (drop 1 r ++ l) 15 x) (take-suc r 0 0 (omega arith)) ∙ set_at (drop 1 r) (get_or r 0 0) [] x 15 (omega (arith, length-drop 1 r)))
