-- What a call that is lent a store knows: what its passing tests give, and where its line's part lies, once it has read the line.
-- Assumes nothing.
use Prim.Native.Nat.{ℕ, ◌+◌, ◌-◌, ◌≤◌, ◌<◌}
use mathlib.Core.Path.{◌≡◌, ap, ◌∙◌}
use mathlib.Core.Bool.{true}
use mathlib.Core.List.{List, ◌∷◌}
use lib.ListN.{length}
use Rattle.std.specs.Prelude.{Ok}
use Rattle.ground.specs.Refusal.{Verdict, Test, verdict}
use Rattle.line.specs.Fit.{line_fits}
use Rattle.line.specs.Part.{part_length}
use Rattle.line.specs.declared.Line.{Line}
use Rattle.store.specs.Store.{part_at, with_part_at}
use Rattle.book.specs.Book.{line_of}
use Rattle.book.specs.Parts.{part_start, store_length, store_octets, part_of, with_part}
use Rattle.book.specs.declared.Book.{Book}
use Rattle.book.proofs.Parts.{lent_part, part_back, lent_in, lent_small, lent_long}
use Rattle.calls.specs.Stages.{fit_book, roomy, line_number}
use Rattle.calls.proofs.FirstTests.{asked_both}

-- n octets of store are enough for the book, and line i passes its own tests
pub record Lent (b : Book) (i n : ℕ) (tests : List Test) : Type 0 where
  pub number : i < 4
  pub line : line_fits (line_of b i) ≡ true
  pub room : store_length b ≤ n
  pub own : verdict tests ≡ Ok tt

pub lent : {b : Book} {i n : ℕ} {tests whole : List Test} {v : Verdict} → whole ≡ (fit_book b ∷ roomy b n ∷ line_number i ∷ tests) → v ≡ verdict whole → v ≡ Ok tt → Lent b i n tests
lent {n} parts e p = let k = asked_both n parts e p in record { number = k.0.number; line = k.0.line; room = k.1; own = k.2 }

-- The line's part begins at start and has n octets, by the line that was read.
module _ (b : Book) (i : ℕ) {start n : ℕ} (from : start ≡ part_start b i) {l : Line} (read : l ≡ line_of b i) (many : n ≡ part_length l) where
  size : n ≡ part_length (line_of b i)
  size = many ∙ ap part_length read

  pub part_lent : (store : List ℕ) → part_at start (start + n - start) store ≡ part_of b i store
  part_lent store = lent_part b i from size store

  pub part_returned : (store : List ℕ) {left part : List ℕ} → left ≡ part → with_part_at start (start + n - start) store left ≡ with_part b i store part
  part_returned store e = part_back b i from size store e

  module _ (store : List ℕ) {tests : List Test} (k : Lent b i (length store) tests) where
    pub ends_inside : start + n ≤ length store
    ends_inside = lent_in b i from size store k.room k.number

    pub ends_small : start + n ≤ store_octets
    ends_small = lent_small b i from size store k.room k.number

    pub long_enough : part_length (line_of b i) ≤ length (part_at start (start + n - start) store)
    long_enough = lent_long b i from size store k.room k.number
