-- What a verdict says of its tests.
-- Assumes nothing.
use Prim.Native.Nat.{ℕ}
use mathlib.Core.Path.{◌≡◌, refl, ap, ◌∙◌}
use mathlib.Core.Bool.{Bool, true, false}
use mathlib.Core.List.{List, [], ◌∷◌, ◌++◌}
use lib.ListN.{length, drop}
use native.Mathlib.Omega.{arith}
use Rattle.ground.specs.Pick.{pick}
use Rattle.std.specs.Prelude.{Result, Ok, Err}
use Rattle.ground.specs.Refusal.{Verdict, Test, verdict}
use Rattle.ground.specs.Answer.{Answer, refused, Gives, write_says, Writes}
use Rattle.ground.specs.declared.Refusal.{Refusal}
use Rattle.ground.proofs.Settled.{settles_took, settles_refused}

-- every test of the list holds
abbrev pub Holds : List Test → Type 0
Holds [] = Unit
Holds (t ∷ ts) = (t.holds ≡ true) × Holds ts

first_passed : (h : Bool) (v : Verdict) (r : Refusal) → pick h v (Err r) ≡ Ok tt → (h ≡ true) × (v ≡ Ok tt)
first_passed true v r e = (refl, e)
first_passed false v r e = absurd (let z : ◌≡◌ {A = ℕ} 0 1 = cc in omega arith)

-- tests that pass hold each, and the other way round
pub passed : (ts : List Test) → verdict ts ≡ Ok tt → Holds ts
passed [] e = tt
passed (t ∷ ts) e =
    let f = first_passed t.holds (verdict ts) t.why e in
    (f.0, passed ts f.1)

pub passes : (ts : List Test) → Holds ts → verdict ts ≡ Ok tt
passes [] h = refl
passes (t ∷ ts) h = rw h.0 (passes ts h.1)

-- An answer by a verdict v that the code has worked out, with the paper's number and values. A refusal stands for its number alone
module _ {A : Type 0} (answer_of : Result A Refusal → Answer) (alone : (r : Refusal) → answer_of (Err r) ≡ refused r) {v : Verdict} (ts : List Test) (x : A) (e : v ≡ verdict ts) where
  pub gives_it : {y : A} → v ≡ Ok tt → y ≡ x → Gives answer_of ts x (Ok y)
  gives_it k p = record { is = settles_took (verdict ts) Err (Ok x) e k (ap Ok p); answer = settles_took (verdict ts) refused (answer_of (Ok x)) e k (ap (λ y. answer_of (Ok y)) p) }

  pub gives_not : {r : Refusal} → v ≡ Err r → Gives answer_of ts x (Err r)
  gives_not {r} k = record { is = settles_refused (verdict ts) Err (Ok x) e k; answer = alone r ∙ settles_refused (verdict ts) refused (answer_of (Ok x)) e k }

-- and for a call that writes
module _ {v : Verdict} (ts : List Test) (octets before : List ℕ) (e : v ≡ verdict ts) where
  pub writes : {after : List ℕ} {n : ℕ} → v ≡ Ok tt → n ≡ length octets → after ≡ octets ++ drop n before → Writes ts octets before after (Ok n)
  writes k p q = record { gives = gives_it write_says (λ r. refl) ts (length octets) e k p; leaves = q }

  pub writes_not : {r : Refusal} → v ≡ Err r → Writes ts octets before before (Err r)
  writes_not k = record { gives = gives_not write_says (λ r. refl) ts (length octets) e k; leaves = refl }

-- a refusal leaves what is lent as it was, whatever was to be written
pub refused_stays : {ts : List Test} {octets before after : List ℕ} {r : Refusal} → Writes ts octets before after (Err r) → after ≡ before
refused_stays w = w.leaves

-- Tests behind tests: where the first run passes the second decides, and where it refuses so does the whole.
pub verdict_on : (ts us : List Test) → verdict ts ≡ Ok tt → verdict (ts ++ us) ≡ verdict us
verdict_on [] us e = refl
verdict_on (t ∷ ts) us e =
    let f = first_passed t.holds (verdict ts) t.why e in
    rw f.0 (verdict_on ts us f.1)

pub verdict_stop : (ts us : List Test) {r : Refusal} → verdict ts ≡ Err r → verdict (ts ++ us) ≡ Err r
verdict_stop [] us e = absurd (let z : ◌≡◌ {A = ℕ} 0 1 = cc in omega arith)
verdict_stop (t ∷ ts) us {r} e = go t.holds (verdict_stop ts us) e
  where
    go : (h : Bool) → (verdict ts ≡ Err r → verdict (ts ++ us) ≡ Err r) → pick h (verdict ts) (Err t.why) ≡ Err r → pick h (verdict (ts ++ us)) (Err t.why) ≡ Err r
    go true f p = f p
    go false f p = p

pub pass_both : (ts us : List Test) → verdict (ts ++ us) ≡ Ok tt → (verdict ts ≡ Ok tt) × (verdict us ≡ Ok tt)
pass_both [] us e = (refl, e)
pass_both (t ∷ ts) us e =
    let f = first_passed t.holds (verdict (ts ++ us)) t.why e in
    let r = pass_both ts us f.1 in
    (rw f.0 r.0, r.1)
