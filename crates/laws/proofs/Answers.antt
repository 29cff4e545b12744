-- An answer's number and values say which result it is: no two results have the same.
-- Assumes nothing.
use Prim.Native.Nat.{ℕ}
use mathlib.Core.Path.{◌≡◌, refl, ap, ◌∙◌}
use mathlib.Core.List.{List, [], ◌∷◌}
use Rattle.std.specs.Prelude.{Result, Ok, Err}
use Rattle.ground.specs.Answer.{Answer, accepted, refused, write_says}
use Rattle.mode.proofs.Determine.{read_as, refused_back, one_case, first}
use Rattle.outgoing.specs.Says.{take_says, held_says}
use Rattle.incoming.specs.Says.{arrive_says}
use Rattle.gateway.specs.Says.{open_says}
use Rattle.ground.specs.Refusal.{Verdict}
use Rattle.ground.specs.declared.Refusal.{Refusal}

pub open_says_once : (x y : Verdict) → open_says x ≡ open_says y → x ≡ y
open_says_once x y = one_case took Err open_says x y (back x) (back y)
  where
    took : List ℕ → Verdict
    took vs = Ok tt

    back : (z : Verdict) → read_as took Err (open_says z) ≡ z
    back (Ok tt) = refl
    back (Err r) = refused_back took Err r

-- an answer of one number, whatever call it is of
number_once : (says : Result ℕ Refusal → Answer) → ((n : ℕ) → says (Ok n) ≡ accepted (n ∷ [])) → ((r : Refusal) → says (Err r) ≡ refused r)
    → (x y : Result ℕ Refusal) → says x ≡ says y → x ≡ y
number_once says number alone x y = one_case took Err says x y (back x) (back y)
  where
    took : List ℕ → Result ℕ Refusal
    took vs = Ok (first vs)

    back : (z : Result ℕ Refusal) → read_as took Err (says z) ≡ z
    back (Ok n) = ap (read_as took Err) (number n)
    back (Err r) = ap (read_as took Err) (alone r) ∙ refused_back took Err r

pub write_says_once : (x y : Result ℕ Refusal) → write_says x ≡ write_says y → x ≡ y
write_says_once = number_once write_says (λ n. refl) (λ r. refl)

pub take_says_once : (x y : Result ℕ Refusal) → take_says x ≡ take_says y → x ≡ y
take_says_once = number_once take_says (λ n. refl) (λ r. refl)

pub arrive_says_once : (x y : Result ℕ Refusal) → arrive_says x ≡ arrive_says y → x ≡ y
arrive_says_once = number_once arrive_says (λ n. refl) (λ r. refl)

pub held_says_once : (x y : Result ℕ Refusal) → held_says x ≡ held_says y → x ≡ y
held_says_once = number_once held_says (λ n. refl) (λ r. refl)
