use borrow.Author.Tests.{le-ltb, lt-ltb, le-leb, lt-leb, not-true, not-false}
use mathlib.Core.Path.{sym, ◌∙◌}
use native.Mathlib.Omega.{arith}
use native.Mathlib.Nat.{lt_of_lt_of_le}
use lib.Pow.{pow_mono}
use Rattle.sending.specs.Sending.{under_way, sending_fits}
use Rattle.places.specs.Places.{mask_of}
use Rattle.places.proofs.Bits.{within_lt}
use Rattle.channel.proofs.NoSizes.{none_within, none_fit}
use mathlib.Core.Path.{ap}
use mathlib.Core.Bool.{not}
use Rattle.sending.proofs.Sending.fits.Goals as goal

pub returns-then-self-gt-CAP : goal.returns-then-self-gt-CAP
unfolding sending_fits
returns-then-self-gt-CAP c = simp (lt-leb _ _ c.if-self-gt-CAP.true)

pub returns-then-self : goal.returns-then-self
unfolding sending_fits
returns-then-self c = simp (le-leb _ _ c.if-self-gt-CAP.false, lt-leb _ _ c.if-self.true)

pub returns-then-window-n : goal.returns-then-window-n
unfolding sending_fits
returns-then-window-n c = simp (le-leb _ _ c.if-self-gt-CAP.false, le-leb _ _ c.if-self.false, lt-leb _ _ c.if-window-n.true)

pub returns-then-window-self : goal.returns-then-window-self
unfolding sending_fits
returns-then-window-self c =
    simp (
      le-leb _ _ c.if-self-gt-CAP.false,
      le-leb _ _ c.if-self.false,
      le-leb _ _
          c.if-window-n.false,
      le-ltb _ _ c.if-window-self.true,
    )

pub returns-then-empty : goal.returns-then-empty
unfolding sending_fits
returns-then-empty c =
    let a = c.args in
    let none = sym c.empty.ensures ∙ c.if-empty.true in
    simp (
      le-leb _ _ c.if-self-gt-CAP.false,
      le-leb _ _ c.if-self.false,
      le-leb _ _ c.if-window-n.false,
      lt-ltb _ _ c.if-window-self.false,
      none_within (mask_of a.self.unacked) none (under_way a.self),
      none_fit (mask_of a.self.unacked) none a.window a.largest a.self.sizes a.self.origin,
    )

pub returns-then-not-within : goal.returns-then-not-within
unfolding sending_fits
returns-then-not-within c =
    simp (
      le-leb _ _ c.if-self-gt-CAP.false,
      le-leb _ _ c.if-self.false,
      le-leb _ _ c.if-window-n.false,
      lt-ltb _ _ c.if-window-self.false,
      sym c.within.ensures ∙ not-true _ (ap not c.if-not-within.true),
    )

pub sizes_fit-requires : goal.sizes_fit-requires
sizes_fit-requires c = (
  c.if-window-self.false,
  omega arith,
  lt_of_lt_of_le (within_lt _ _ (sym c.within.ensures ∙ not-false _ (ap not c.if-not-within.false)))
      (pow_mono c.if-window-n.false),
)

pub returns : goal.returns
unfolding sending_fits
returns c =
    simp (
      le-leb _ _ c.if-self-gt-CAP.false,
      le-leb _ _ c.if-self.false,
      le-leb _ _ c.if-window-n.false,
      lt-ltb _ _ c.if-window-self.false,
      sym c.within.ensures ∙ not-false _ (ap not c.if-not-within.false),
      c.sizes_fit.ensures,
    )
