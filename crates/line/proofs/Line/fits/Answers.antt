use mathlib.Core.Path.{ap, sym, ◌∙◌}
use borrow.Author.Tests.{eq-eqb, ne_eqb}
use Rattle.line.specs.Fit.{settings_fit, line_fits}
use Rattle.line.proofs.Line.fits.Goals as goal

pub returns-then-self-ne-OPEN : goal.returns-then-self-ne-OPEN
unfolding line_fits
returns-then-self-ne-OPEN c = simp (ne_eqb _ _ c.if-self-ne-OPEN.true)

pub returns-then-not-settings_fit : goal.returns-then-not-settings_fit
unfolding line_fits
returns-then-not-settings_fit c = simp (eq-eqb _ _ c.if-self-ne-OPEN.false, sym (c.settings_fit.ensures ∙ ap settings_fit c.settings.ensures) ∙ c.if-not-settings_fit.true)

pub returns-then-not-fits : goal.returns-then-not-fits
unfolding line_fits
returns-then-not-fits c = simp (eq-eqb _ _ c.if-self-ne-OPEN.false, sym (c.settings_fit.ensures ∙ ap settings_fit c.settings.ensures) ∙ c.if-not-settings_fit.false, sym c.fits.ensures ∙ c.if-not-fits.true)

pub returns-then-not-sending_fits : goal.returns-then-not-sending_fits
unfolding line_fits
returns-then-not-sending_fits c = simp (eq-eqb _ _ c.if-self-ne-OPEN.false, sym (c.settings_fit.ensures ∙ ap settings_fit c.settings.ensures) ∙ c.if-not-settings_fit.false, sym c.fits.ensures ∙ c.if-not-fits.false, sym c.sending_fits.ensures ∙ c.if-not-sending_fits.true)

pub returns-then-not-sending_fits-2 : goal.returns-then-not-sending_fits-2
unfolding line_fits
returns-then-not-sending_fits-2 c = simp (eq-eqb _ _ c.if-self-ne-OPEN.false, sym (c.settings_fit.ensures ∙ ap settings_fit c.settings.ensures) ∙ c.if-not-settings_fit.false, sym c.fits.ensures ∙ c.if-not-fits.false, sym c.sending_fits.ensures ∙ c.if-not-sending_fits.false, sym c.sending_fits-2.ensures ∙ c.if-not-sending_fits-2.true)

pub returns-then-not-receiving_fits : goal.returns-then-not-receiving_fits
unfolding line_fits
returns-then-not-receiving_fits c = simp (eq-eqb _ _ c.if-self-ne-OPEN.false, sym (c.settings_fit.ensures ∙ ap settings_fit c.settings.ensures) ∙ c.if-not-settings_fit.false, sym c.fits.ensures ∙ c.if-not-fits.false, sym c.sending_fits.ensures ∙ c.if-not-sending_fits.false, sym c.sending_fits-2.ensures ∙ c.if-not-sending_fits-2.false, sym c.receiving_fits.ensures ∙ c.if-not-receiving_fits.true)

pub returns-then-not-receiving_fits-2 : goal.returns-then-not-receiving_fits-2
unfolding line_fits
returns-then-not-receiving_fits-2 c = simp (eq-eqb _ _ c.if-self-ne-OPEN.false, sym (c.settings_fit.ensures ∙ ap settings_fit c.settings.ensures) ∙ c.if-not-settings_fit.false, sym c.fits.ensures ∙ c.if-not-fits.false, sym c.sending_fits.ensures ∙ c.if-not-sending_fits.false, sym c.sending_fits-2.ensures ∙ c.if-not-sending_fits-2.false, sym c.receiving_fits.ensures ∙ c.if-not-receiving_fits.false, sym c.receiving_fits-2.ensures ∙ c.if-not-receiving_fits-2.true)

pub returns-then-not-fits-2 : goal.returns-then-not-fits-2
unfolding line_fits
returns-then-not-fits-2 c = simp (eq-eqb _ _ c.if-self-ne-OPEN.false, sym (c.settings_fit.ensures ∙ ap settings_fit c.settings.ensures) ∙ c.if-not-settings_fit.false, sym c.fits.ensures ∙ c.if-not-fits.false, sym c.sending_fits.ensures ∙ c.if-not-sending_fits.false, sym c.sending_fits-2.ensures ∙ c.if-not-sending_fits-2.false, sym c.receiving_fits.ensures ∙ c.if-not-receiving_fits.false, sym c.receiving_fits-2.ensures ∙ c.if-not-receiving_fits-2.false, sym c.fits-2.ensures ∙ c.if-not-fits-2.true)

pub returns-then-self-eq-MODEM : goal.returns-then-self-eq-MODEM
unfolding line_fits
returns-then-self-eq-MODEM c = simp (eq-eqb _ _ c.if-self-ne-OPEN.false, sym (c.settings_fit.ensures ∙ ap settings_fit c.settings.ensures) ∙ c.if-not-settings_fit.false, sym c.fits.ensures ∙ c.if-not-fits.false, sym c.sending_fits.ensures ∙ c.if-not-sending_fits.false, sym c.sending_fits-2.ensures ∙ c.if-not-sending_fits-2.false, sym c.receiving_fits.ensures ∙ c.if-not-receiving_fits.false, sym c.receiving_fits-2.ensures ∙ c.if-not-receiving_fits-2.false, sym c.fits-2.ensures ∙ c.if-not-fits-2.false, eq-eqb _ _ c.if-self-eq-MODEM.true)

pub returns : goal.returns
unfolding line_fits
returns c = simp (eq-eqb _ _ c.if-self-ne-OPEN.false, sym (c.settings_fit.ensures ∙ ap settings_fit c.settings.ensures) ∙ c.if-not-settings_fit.false, sym c.fits.ensures ∙ c.if-not-fits.false, sym c.sending_fits.ensures ∙ c.if-not-sending_fits.false, sym c.sending_fits-2.ensures ∙ c.if-not-sending_fits-2.false, sym c.receiving_fits.ensures ∙ c.if-not-receiving_fits.false, sym c.receiving_fits-2.ensures ∙ c.if-not-receiving_fits-2.false, sym c.fits-2.ensures ∙ c.if-not-fits-2.false, ne_eqb _ _ c.if-self-eq-MODEM.false, ← c.idle.ensures)
