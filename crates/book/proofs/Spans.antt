-- Where all identifiers of a list are 0 to 127: of each, of two lists, of what is left.
-- Assumes nothing.
use Prim.Native.Nat.{ℕ, zero, suc, ◌≤◌}
use mathlib.Core.Path.{◌≡◌}
use mathlib.Core.Bool.{true}
use mathlib.Core.List.{List, [], ◌∷◌, ◌++◌}
use native.Mathlib.Omega.{arith}
use lib.Dec.{leb}
use lib.ListN.{get_or, drop}
use borrow.Author.Tests.{leb-true}
use Rattle.ground.proofs.Picks.{both_true}
use Rattle.book.specs.Resting.{all_span}

-- each is one of 0 to 127
pub span_at : (l : List ℕ) → all_span l ≡ true → (i : ℕ) → get_or l i 0 ≤ 127
unfolding all_span
span_at [] f i = omega arith
span_at (x ∷ l) f zero = leb-true x 127 (both_true (leb x 127) (all_span l) f).0
span_at (x ∷ l) f (suc i) = span_at l (both_true (leb x 127) (all_span l) f).1 i

pub span_append : (a b : List ℕ) → all_span a ≡ true → all_span b ≡ true → all_span (a ++ b) ≡ true
unfolding all_span
span_append [] b f g = g
span_append (x ∷ a) b f g =
    let e = both_true (leb x 127) (all_span a) f in
    rw (e.0, span_append a b e.1 g)

pub span_rest : (k : ℕ) (l : List ℕ) → all_span l ≡ true → all_span (drop k l) ≡ true
unfolding all_span
span_rest zero l f = f
span_rest (suc k) [] f = f
span_rest (suc k) (x ∷ l) f = span_rest k l (both_true (leb x 127) (all_span l) f).1
