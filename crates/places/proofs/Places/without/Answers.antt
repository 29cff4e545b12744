use mathlib.Core.Path.{sym, ◌∙◌}
use Rattle.places.proofs.Bits.{bit_le, one_shl}
use Rattle.places.specs.Places.{mask_of, set_of}
use Rattle.places.proofs.Places.without.Goals as goal

pub overflow_sub-result : goal.overflow_sub-result
unfolding mask_of set_of
overflow_sub-result c =
    rw (one_shl c.args.i c.requires)
    (bit_le c.args.self.bits c.args.i (sym c.has.ensures ∙ c.if-has.true))

pub returns-then-has : goal.returns-then-has
unfolding mask_of set_of
returns-then-has c =
    rw (one_shl c.args.i c.requires) (simp (sym c.has.ensures ∙ c.if-has.true))

pub returns : goal.returns
unfolding mask_of set_of
returns c = simp (sym c.has.ensures ∙ c.if-has.false)
