-- A part of the store: what was put there is read there, and all that lies before it and after it stays.
-- Assumes nothing.
use Prim.Native.Nat.{ℕ, ◌+◌, ◌≤◌}
use mathlib.Core.Path.{◌≡◌, sym, ap, ◌∙◌}
use mathlib.Core.List.{List, ◌++◌, append_assoc}
use mathlib.Core.Logic.{⊎_elim}
use native.Mathlib.Omega.{arith}
use lib.ListN.{length, take, drop, length-drop, take-append-drop}
use lib.Seq.{sets, length-sets, drop-drop, length-take-le, drop-append-le, take-take, take-add}
use Rattle.store.specs.Store.{part_at, with_part_at}
use Rattle.store.proofs.Octets.{written, read_same, read_before, behind}
use Rattle.store.proofs.Slots.{Apart}

-- octets put back as they were leave the store as it was
pub part_same : (start n : ℕ) (store : List ℕ) → with_part_at start n store (part_at start n store) ≡ store
part_same start n store = ap (λ (l : List ℕ). take start store ++ l) (take-append-drop n (drop start store)) ∙ take-append-drop start store

-- The n octets from `start` on, in a store that has them.
module _ (start n : ℕ) (store : List ℕ) (inside : start + n ≤ length store) where
  pub part_length_lem : length (part_at start n store) ≡ n
  part_length_lem = length-take-le n (drop start store) (omega (arith, length-drop start store))

  -- Others of the same length in their place.
  module _ (part : List ℕ) (long : length part ≡ n) where
    -- a part is put as octets are written
    as_written : with_part_at start n store part ≡ sets store start part
    as_written =
        ap (λ (l : List ℕ). take start store ++ (part ++ l)) (drop-drop n start store)
        ∙ ap (λ (k : ℕ). take start store ++ (part ++ drop k store)) (ap (λ (k : ℕ). start + k) (sym long))
        ∙ sym (written store start part (omega arith))

    pub with_part_length : length (with_part_at start n store part) ≡ length store
    with_part_length = ap length as_written ∙ length-sets store start part

    pub part_here : part_at start n (with_part_at start n store part) ≡ part
    part_here = rw (as_written, sym long) (read_same store start part (omega arith))

    -- a part that has none of their octets
    pub part_other : (a m : ℕ) → Apart start n a m → part_at a m (with_part_at start n store part) ≡ part_at a m store
    part_other a m =
        ⊎_elim (λ l. ap (take m) (past a l))
        (λ l. ap (part_at a m) as_written ∙ read_before store start part (omega arith) a m l)
      where
        past : (a : ℕ) → start + n ≤ a → drop a (with_part_at start n store part) ≡ drop a store
        past a l = ap (drop a) as_written ∙ behind store start part (omega arith) a (omega arith)

    -- all that lies after them
    pub part_past : (a : ℕ) → start + n ≤ a → drop a (with_part_at start n store part) ≡ drop a store
    part_past a l = ap (drop a) as_written ∙ behind store start part (omega arith) a (omega arith)

-- Octets x written into a part at k are written into the store so much further on.
module _ (start n : ℕ) (store : List ℕ) (inside : start + n ≤ length store) (k : ℕ) (x : List ℕ) (small : k + length x ≤ n) where
  abbrev rest : List ℕ
  rest = drop start store

  abbrev part : List ℕ
  part = part_at start n store

  whole : length part ≡ n
  whole = part_length_lem start n store inside

  -- what is left of the part, and what lies after it
  left : drop (k + length x) part ++ drop n rest ≡ drop (k + length x) rest
  left = sym (drop-append-le (k + length x) part (drop n rest) (omega (arith, whole))) ∙ ap (drop (k + length x)) (take-append-drop n rest)

  pub part_sets : with_part_at start n store (sets part k x) ≡ sets store (start + k) x
  part_sets =
      let e : start + (k + length x) ≡ start + k + length x = omega arith in
      ap (λ (l : List ℕ). take start store ++ (l ++ drop n rest)) (written part k x (omega (arith, whole)))
      ∙ ap (λ (l : List ℕ). take start store ++ l) (append_assoc (take k part) (x ++ drop (k + length x) part) (drop n rest))
      ∙ ap (λ (l : List ℕ). take start store ++ (take k part ++ l)) (append_assoc x (drop (k + length x) part) (drop n rest))
      ∙ (λ t. take start store ++ (take-take k n rest (omega arith) t ++ (x ++ left t)))
      ∙ sym (append_assoc (take start store) (take k rest) (x ++ drop (k + length x) rest))
      ∙ (λ t. sym (take-add start k store) t ++ (x ++ drop-drop (k + length x) start store t))
      ∙ ap (λ (j : ℕ). take (start + k) store ++ (x ++ drop j store)) e
      ∙ sym (written store (start + k) x (omega arith))
