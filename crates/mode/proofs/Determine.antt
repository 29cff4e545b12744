-- An answer's number and values say which case of its enum it is, where they can be read back; of the answers of the mode calls they can.
-- Assumes nothing.
use Prim.Native.Nat.{ℕ}
use mathlib.Core.Path.{◌≡◌, refl, sym, ap, ◌∙◌}
use mathlib.Core.Bool.{Bool, true, false}
use mathlib.Core.List.{List, []}
use native.Mathlib.Omega.{arith}
use lib.Dec.{eqb}
use lib.ListN.{get_or}
use borrow.Author.Tests.{ne_eqb}
use Rattle.std.specs.Prelude.{Result, Ok, Err}
use Rattle.ground.specs.Pick.{pick, bit}
use Rattle.ground.specs.Refusal.{number_of}
use Rattle.ground.specs.Answer.{Answer, refused}
use Rattle.ground.specs.declared.Refusal.{Refusal}
use Rattle.ground.proofs.Numbers.{number_some, refusal_at, refusal_back}
use Rattle.mode.specs.Says.{hear_says, ask_says, tick_says}
use Rattle.mode.specs.Tries.{Tries}
use Rattle.mode.specs.declared.Due.TheVariants.{Quiet, Audio, Ended}
use Rattle.mode.specs.declared.Heard.{Heard}
use Rattle.mode.specs.declared.Due.{Due}

-- An answer read back: by its values where it is accepted, else by its number.
module _ {A : Type 0} (took : List ℕ → A) (refuse : Refusal → A) where
  abbrev pub read_as : Answer → A
  read_as a = pick (eqb a.number 0) (took a.values) (refuse (refusal_at a.number))

  pub refused_back : (r : Refusal) → read_as (refused r) ≡ refuse r
  refused_back r =
      ap (λ (t : Bool). pick t (took []) (refuse (refusal_at (number_of r)))) (ne_eqb (number_of r) 0 (λ z. omega (arith, number_some r)))
      ∙ ap refuse (refusal_back r)

  -- what can be read back is one case
  pub one_case : (says : A → Answer) (x y : A) → read_as (says x) ≡ x → read_as (says y) ≡ y → says x ≡ says y → x ≡ y
  one_case says x y p q e = sym p ∙ ap read_as e ∙ q

-- the one value, or the first
abbrev pub first : List ℕ → ℕ
first vs = get_or vs 0 0

pub ask_says_once : (x y : Result ℕ Refusal) → ask_says x ≡ ask_says y → x ≡ y
ask_says_once x y = one_case took Err ask_says x y (back x) (back y)
  where
    took : List ℕ → Result ℕ Refusal
    took vs = Ok (first vs)

    back : (z : Result ℕ Refusal) → read_as took Err (ask_says z) ≡ z
    back (Ok m) = refl
    back (Err r) = refused_back took Err r

bit_back : (b : Bool) → eqb (bit b) 1 ≡ b
bit_back true = refl
bit_back false = refl

pub hear_says_once : (x y : Result Heard Refusal) → hear_says x ≡ hear_says y → x ≡ y
hear_says_once x y = one_case took Err hear_says x y (back x) (back y)
  where
    took : List ℕ → Result Heard Refusal
    took vs = Ok (record { local = first vs; notice = eqb (get_or vs 1 0) 1 })

    back : (z : Result Heard Refusal) → read_as took Err (hear_says z) ≡ z
    back (Ok h) = ap (λ (n : Bool). Ok (record { local = h.local; notice = n })) (bit_back h.notice)
    back (Err r) = refused_back took Err r

-- a tick: 0 and 6 say that no try is due, so a try is read back where it is one of 1 to 5, as `tick` answers it
pub tick_says_once : (x y : Result Due Refusal) → Tries x → Tries y → tick_says x ≡ tick_says y → x ≡ y
tick_says_once x y p q = one_case took Err tick_says x y (back x p) (back y q)
  where
    took : List ℕ → Result Due Refusal
    took vs = pick (eqb (first vs) 0) (Ok Quiet) (pick (eqb (first vs) 6) (Ok Ended) (Ok (Audio (first vs))))

    back : (z : Result Due Refusal) → Tries z → read_as took Err (tick_says z) ≡ z
    back (Ok Quiet) h = refl
    back (Ok (Audio n)) h = rw (ne_eqb n 0 (λ e. omega (arith, h.0)), ne_eqb n 6 (λ e. omega (arith, h.1)))
    back (Ok Ended) h = refl
    back (Err r) h = refused_back took Err r
