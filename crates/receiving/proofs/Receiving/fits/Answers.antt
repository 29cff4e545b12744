use borrow.Author.Tests.{le-ltb, lt-ltb, le-leb, lt-leb, not-true, not-false}
use mathlib.Core.Path.{sym, ◌∙◌}
use Rattle.receiving.specs.Receiving.{receiving_fits}
use Rattle.places.specs.Places.{mask_of}
use Rattle.channel.proofs.NoSizes.{none_within, none_fit}
use mathlib.Core.Path.{ap}
use mathlib.Core.Bool.{not}
use Rattle.receiving.proofs.Receiving.fits.Goals as goal

pub returns-then-self-gt-CAP : goal.returns-then-self-gt-CAP
unfolding receiving_fits
returns-then-self-gt-CAP c = simp (lt-leb _ _ c.if-self-gt-CAP.true)

pub returns-then-window-self : goal.returns-then-window-self
unfolding receiving_fits
returns-then-window-self c = simp (le-leb _ _ c.if-self-gt-CAP.false, le-ltb _ _ c.if-window-self.true)

pub returns-then-empty : goal.returns-then-empty
unfolding receiving_fits
returns-then-empty c =
    let a = c.args in
    let none = sym c.empty.ensures ∙ c.if-empty.true in
    simp (
      le-leb _ _ c.if-self-gt-CAP.false,
      lt-ltb _ _ c.if-window-self.false,
      none_within (mask_of a.self.stored) none a.window,
      none_fit (mask_of a.self.stored) none a.window a.largest a.self.sizes a.self.origin,
    )

pub returns-then-not-within : goal.returns-then-not-within
unfolding receiving_fits
returns-then-not-within c =
    simp (le-leb _ _ c.if-self-gt-CAP.false, lt-ltb _ _ c.if-window-self.false, sym c.within.ensures ∙ not-true _ (ap not c.if-not-within.true))

pub returns : goal.returns
unfolding receiving_fits
returns c =
    simp (
      le-leb _ _ c.if-self-gt-CAP.false,
      lt-ltb _ _ c.if-window-self.false,
      sym c.within.ensures ∙ not-false _ (ap not c.if-not-within.false),
      c.sizes_fit.ensures,
    )
