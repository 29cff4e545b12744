-- The lines' parts of the store: no two overlap, all lie in the first octets, and what is put into one leaves every other as it was.
-- Assumes nothing.
use Prim.Native.Nat.{ℕ, zero, suc, ◌+◌, ◌-◌, ◌*◌, ◌≤◌, ◌<◌}
use mathlib.Core.Path.{◌≡◌, refl, ap, subst}
use mathlib.Core.List.{List}
use mathlib.Core.Logic.{◌≢◌, ◌⊎◌, inl, inr, ⊎_elim}
use native.Mathlib.Decide.{dec_lt}
use native.Mathlib.Omega.{arith}
use lib.ListN.{length, drop}
use Rattle.store.specs.Store.{part_at, with_part_at}
use Rattle.store.proofs.Slots.{Apart}
use Rattle.store.proofs.Parts.{part_length_lem, with_part_length, part_here, part_other, part_past}
use Rattle.line.specs.Part.{part_length}
use Rattle.book.specs.Book.{line_of}
use Rattle.book.specs.Parts.{part_start, store_length, store_octets, part_of, with_part}
use Rattle.book.specs.declared.Book.{Book}

-- where a part begins, in a number
pub start_is : (b : Book) (i : ℕ) → part_start b i ≡ i * 10560
unfolding part_start
start_is b zero = refl
start_is b (suc i) = let e = start_is b i in omega arith

-- "at least 42,240 octets"
pub store_length_lem : (b : Book) → store_length b ≡ store_octets
store_length_lem b = start_is b 4

-- books whose lines have parts of the same lengths have them at the same places
pub starts_same : (b c : Book) (i : ℕ) → ((j : ℕ) → j < i → part_length (line_of b j) ≡ part_length (line_of c j)) → part_start b i ≡ part_start c i
unfolding part_start
starts_same b c zero same = refl
starts_same b c (suc i) same = let e = starts_same b c i (λ j l. same j (omega arith)) in omega (arith, same i (omega arith))

-- so they have the same parts of a store
pub parts_alike : (b c : Book) (i : ℕ) → ((j : ℕ) → part_length (line_of b j) ≡ part_length (line_of c j)) → (store : List ℕ) → part_of b i store ≡ part_of c i store
parts_alike b c i same store = λ t. part_at (starts_same b c i (λ j l. same j) t) (same i t) store

-- a line's part ends before that of any later line begins
earlier_or : (i j : ℕ) → i < suc j → (i < j) ⊎ (i ≡ j)
earlier_or i j l = go (dec_lt i j)
  where
    go : Dec (i < j) → (i < j) ⊎ (i ≡ j)
    go (yes m) = inl m
    go (no m) = inr (omega arith)

pub part_before : (b : Book) (i j : ℕ) → i < j → part_start b i + part_length (line_of b i) ≤ part_start b j
unfolding part_start
part_before b i zero l = absurd (omega arith)
part_before b i (suc j) l =
    ⊎_elim (λ m. let e = part_before b i j m in omega arith)
    (λ e. subst (λ (k : ℕ). part_start b i + part_length (line_of b i) ≤ part_start b k + part_length (line_of b k)) e (omega arith))
    (earlier_or i j l)

-- THE LAW: the parts of two lines have no octet in common
pub parts_apart : (b : Book) (i j : ℕ) → i ≢ j → Apart (part_start b i) (part_length (line_of b i)) (part_start b j) (part_length (line_of b j))
parts_apart b i j d = go (dec_lt i j)
  where
    go : Dec (i < j) → Apart (part_start b i) (part_length (line_of b i)) (part_start b j) (part_length (line_of b j))
    go (yes l) = inl (part_before b i j l)
    go (no l) = inr (part_before b j i (omega arith))

-- A store that is long enough, and a line of the four.
module _ (b : Book) (store : List ℕ) (long : store_length b ≤ length store) (i : ℕ) (small : i < 4) where
  pub part_in_lem : part_start b i + part_length (line_of b i) ≤ length store
  part_in_lem = omega (arith, part_before b i 4 small)

  pub part_long : length (part_of b i store) ≡ part_length (line_of b i)
  part_long = part_length_lem (part_start b i) (part_length (line_of b i)) store part_in_lem

  -- Another part in its place.
  module _ (part : List ℕ) (same : length part ≡ part_length (line_of b i)) where
    pub part_put : part_of b i (with_part b i store part) ≡ part
    part_put = part_here (part_start b i) (part_length (line_of b i)) store part_in_lem part same

    pub put_length : length (with_part b i store part) ≡ length store
    put_length = with_part_length (part_start b i) (part_length (line_of b i)) store part_in_lem part same

    -- THE LAW: every other part is as it was
    pub part_kept : (j : ℕ) → i ≢ j → part_of b j (with_part b i store part) ≡ part_of b j store
    part_kept j d = part_other (part_start b i) (part_length (line_of b i)) store part_in_lem part same (part_start b j) (part_length (line_of b j)) (parts_apart b i j d)

    -- "Octets past it are never touched"
    pub past_kept : drop (store_length b) (with_part b i store part) ≡ drop (store_length b) store
    past_kept = part_past (part_start b i) (part_length (line_of b i)) store part_in_lem part same (store_length b) (part_before b i 4 small)

-- What a call lends of the store, once it has worked out where line i's part begins and how long it is: that part, and it comes back there.
module _ (b : Book) (i : ℕ) {start n : ℕ} (from : start ≡ part_start b i) (size : n ≡ part_length (line_of b i)) where
  many : start + n - start ≡ part_length (line_of b i)
  many = omega arith

  pub lent_part : (store : List ℕ) → part_at start (start + n - start) store ≡ part_of b i store
  lent_part store = λ t. part_at (from t) (many t) store

  pub part_back : (store : List ℕ) {left part : List ℕ} → left ≡ part → with_part_at start (start + n - start) store left ≡ with_part b i store part
  part_back store e = λ t. with_part_at (from t) (many t) store (e t)

  -- it is there to lend
  module _ (store : List ℕ) (long : store_length b ≤ length store) (small : i < 4) where
    pub lent_in : start + n ≤ length store
    lent_in = omega (arith, part_in_lem b store long i small)

    pub lent_small : start + n ≤ store_octets
    lent_small = omega (arith, part_before b i 4 small, store_length_lem b)

    pub lent_long : part_length (line_of b i) ≤ length (part_at start (start + n - start) store)
    lent_long = omega (arith, ap length (lent_part store), part_long b store long i small)
