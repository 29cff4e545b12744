-- What a call that matches on its verdict comes to, as `settle` says it.
-- Assumes nothing.
use Prim.Native.Nat.{ℕ}
use mathlib.Core.Path.{◌≡◌, refl, sym, ap, ◌∙◌}
use native.Mathlib.Omega.{arith}
use Rattle.std.specs.Prelude.{Option, Some, None, Result, Ok, Err, IsErrAnd, ok_or}
use Rattle.ground.specs.Refusal.{Verdict, settle}
use Rattle.ground.specs.declared.Refusal.{Refusal}

-- a verdict found to pass settles on what the call took
pub settles_took {ℓ} : {A : Type ℓ} (v : Verdict) (f : Refusal → A) (b : A) {w : Verdict} {a : A} → w ≡ v → w ≡ Ok tt → a ≡ b → a ≡ settle v f b
settles_took v f b p e h = rw (sym p ∙ e) h

-- a verdict found to refuse settles on that refusal
pub settles_refused {ℓ} : {A : Type ℓ} (v : Verdict) (f : Refusal → A) (b : A) {w : Verdict} {r : Refusal} → w ≡ v → w ≡ Err r → f r ≡ settle v f b
settles_refused v f b p e = rw (sym p ∙ e)

-- what holds of a refused outcome, and of one that all tests allow, holds of the outcome
pub settled_by {ℓ κ} : {A : Type ℓ} (P : A → Type κ) (v : Verdict) {f : Refusal → A} {b : A} → ((r : Refusal) → v ≡ Err r → P (f r)) → (v ≡ Ok tt → P b) → P (settle v f b)
settled_by P (Ok u) g h = h refl
settled_by P (Err r) g h = g r refl

-- where all tests allow it, what holds of what was taken holds of the outcome
pub settled_took {ℓ κ} : {A : Type ℓ} (P : A → Type κ) (v : Verdict) (f : Refusal → A) {b : A} → v ≡ Ok tt → P b → P (settle v f b)
settled_took P v f e p = rw e p

-- an answer that was settled by a verdict tells the verdict
pub verdict_of_answer {ℓ} : {A : Type ℓ} (why : A → Verdict) (v : Verdict) {refuse : Refusal → A} {took a : A} → a ≡ settle v refuse took → ((r : Refusal) → why (refuse r) ≡ Err r) → why took ≡ Ok tt → v ≡ why a
verdict_of_answer why (Ok u) e f g = sym (ap why e ∙ g)
verdict_of_answer why (Err r) e f g = sym (ap why e ∙ f r)

-- what `?` hands on of a refused call is the refusal that the call gave
pub handed_on : {A E : Type 0} (r : Result A E) {e : E} → IsErrAnd r (λ x. x ≡ e) → r ≡ Err e
handed_on (Ok x) h = absurd h
handed_on (Err x) h = ap Err h

value_or : {A E : Type 0} → A → Result A E → A
value_or d (Ok x) = x
value_or d (Err e) = d

error_or : {A E : Type 0} → E → Result A E → E
error_or d (Ok x) = d
error_or d (Err e) = e

-- a result is one value, or one error
pub same_value : {A E : Type 0} {r : Result A E} {x y : A} → r ≡ Ok x → r ≡ Ok y → x ≡ y
unfolding value_or
same_value {x} p q = ap (value_or x) (sym p ∙ q)

pub same_error : {A E : Type 0} {r : Result A E} {x y : E} → r ≡ Err x → r ≡ Err y → x ≡ y
unfolding error_or
same_error {x} p q = ap (error_or x) (sym p ∙ q)

-- `ok_or` and `?` on a search: what it found, or that it found nothing and is refused for that reason
pub was_found : {A E : Type 0} (o : Option A) (why : E) {r : Result A E} {x : A} → r ≡ ok_or o why → r ≡ Ok x → o ≡ Some x
was_found {E} (Some y) why {x} e p = ap Some (same_value {E = E} e p)
was_found None why e p = absurd (let z : ◌≡◌ {A = ℕ} 0 1 = cc in omega arith)

pub was_missing : {A E : Type 0} (o : Option A) (why : E) {r : Result A E} {x : E} → r ≡ ok_or o why → r ≡ Err x → (o ≡ None) × (x ≡ why)
was_missing (Some y) why e p = absurd (let z : ◌≡◌ {A = ℕ} 0 1 = cc in omega arith)
was_missing {A} None why e p = (refl, same_error {A = A} p e)
