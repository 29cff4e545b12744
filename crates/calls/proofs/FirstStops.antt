-- A call that asks the first tests, and then its line's own: where the first refuse it stops at their refusal, and where they pass the
-- others decide.
-- Assumes nothing.
use Prim.Native.Nat.{ℕ}
use mathlib.Core.Path.{◌≡◌}
use mathlib.Core.List.{List, [], ◌∷◌}
use Rattle.std.specs.Prelude.{Ok, Err}
use Rattle.ground.specs.Refusal.{Verdict, Test, verdict}
use Rattle.ground.specs.declared.Refusal.{Refusal}
use Rattle.book.specs.declared.Book.{Book}
use Rattle.calls.specs.Stages.{fit_book, roomy, line_number}
use Rattle.calls.proofs.Stops.{stops, goes_on}

module _ (b : Book) (i : ℕ) {tests whole : List Test} (parts : whole ≡ (fit_book b ∷ line_number i ∷ tests)) {v : Verdict} (asked : v ≡ verdict (fit_book b ∷ line_number i ∷ [])) where
  pub line_stops : {r : Refusal} → v ≡ Err r → Err r ≡ verdict whole
  line_stops p = stops (fit_book b ∷ line_number i ∷ []) tests parts asked p

  pub line_goes_on : {w : Verdict} → v ≡ Ok tt → w ≡ verdict tests → w ≡ verdict whole
  line_goes_on p q = goes_on (fit_book b ∷ line_number i ∷ []) tests parts asked p q

-- of a call that is lent a store
module _ (b : Book) (n i : ℕ) {tests whole : List Test} (parts : whole ≡ (fit_book b ∷ roomy b n ∷ line_number i ∷ tests)) {v : Verdict} (asked : v ≡ verdict (fit_book b ∷ roomy b n ∷ line_number i ∷ [])) where
  pub both_stop : {r : Refusal} → v ≡ Err r → Err r ≡ verdict whole
  both_stop p = stops (fit_book b ∷ roomy b n ∷ line_number i ∷ []) tests parts asked p

  pub both_go_on : {w : Verdict} → v ≡ Ok tt → w ≡ verdict tests → w ≡ verdict whole
  both_go_on p q = goes_on (fit_book b ∷ roomy b n ∷ line_number i ∷ []) tests parts asked p q
