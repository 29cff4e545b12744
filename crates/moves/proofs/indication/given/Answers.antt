-- `given` meets its contract: each return is one row of the table.
-- Assumes nothing.
use borrow.Author.Tests.{eq-eqb, ne_eqb}
use Rattle.mode.specs.Given.{given}
use Rattle.moves.proofs.indication.given.Goals as goal

pub returns-then-mode-eq-AUDIO : goal.returns-then-mode-eq-AUDIO
unfolding given
returns-then-mode-eq-AUDIO c = simp (eq-eqb _ _ c.if-mode-eq-AUDIO.true)

pub returns-then-mode-eq-VOICEBAND : goal.returns-then-mode-eq-VOICEBAND
unfolding given
returns-then-mode-eq-VOICEBAND c = simp (ne_eqb _ _ c.if-mode-eq-AUDIO.false, eq-eqb _ _ c.if-mode-eq-VOICEBAND.true, c.as_voiceband.ensures)

pub returns-then-mode-eq-MODEM : goal.returns-then-mode-eq-MODEM
unfolding given
returns-then-mode-eq-MODEM c = rw (ne_eqb _ _ c.if-mode-eq-AUDIO.false, ne_eqb _ _ c.if-mode-eq-VOICEBAND.false, eq-eqb _ _ c.if-mode-eq-MODEM.true) c.as_modem.ensures

pub returns : goal.returns
unfolding given
returns c = simp (ne_eqb _ _ c.if-mode-eq-AUDIO.false, ne_eqb _ _ c.if-mode-eq-VOICEBAND.false, ne_eqb _ _ c.if-mode-eq-MODEM.false, c.fax_or_text.ensures)
