-- `fax_or_text` meets its contract: the choice for fax and text is that for v.
-- Assumes nothing.
use Rattle.mode.specs.Given.{fax_or_text}
use Rattle.moves.proofs.indication.fax_or_text.Goals as goal

pub returns : goal.returns
unfolding fax_or_text
returns c = c.as_voiceband.ensures
