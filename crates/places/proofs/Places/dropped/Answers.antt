use borrow.Author.Rules.{rules}
use Prim.Native.Nat.{ℕ, ◌<◌, ◌^◌}
use mathlib.Core.Path.{sym, ap, ◌∙◌}
use native.Mathlib.Omega.{arith}
use Rattle.places.proofs.Bits.{dropped_all}
use Rattle.places.specs.Places.{mask_of, set_of}
use Rattle.places.proofs.Places.dropped.Goals as goal

pub returns-then-d-lt32 : goal.returns-then-d-lt32
unfolding mask_of set_of
returns-then-d-lt32 c = search rules

pub returns : goal.returns
unfolding mask_of set_of
returns c =
    let a = c.args in
    let l : a.self.bits < 2 ^ 32 = omega arith in
    c.none.ensures ∙ ap (λ (x : ℕ). record { bits = x }) (sym (dropped_all a.self.bits 32 a.d l (omega arith)))
