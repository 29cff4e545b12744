use mathlib.Core.Path.{sym, ◌∙◌}
use Rattle.places.proofs.Bits.{or_bit, one_shl}
use Rattle.places.specs.Places.{mask_of, set_of}
use Rattle.places.proofs.Places.with.Goals as goal

pub returns-then-has : goal.returns-then-has
unfolding mask_of set_of
returns-then-has c = simp (sym c.has.ensures ∙ c.if-has.true)

pub returns : goal.returns
unfolding mask_of set_of
returns c =
    let f = sym c.has.ensures ∙ c.if-has.false in
    rw (one_shl c.args.i c.requires) (rw (f, or_bit c.args.self.bits c.args.i f))
