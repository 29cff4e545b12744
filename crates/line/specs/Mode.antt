-- What a change of mode does to a line.
-- Assumes nothing.
use Rattle.sending.specs.Sending.{fresh_sending, emptied_sending}
use Rattle.receiving.specs.Receiving.{fresh_receiving, emptied_receiving}
use Rattle.mode.specs.declared.Modes.{Modes}
use Rattle.mode.specs.declared.Channels.{Channels}
use Rattle.mode.specs.declared.Channels.TheVariants.{Stay, Fresh, Emptied}
use Rattle.owed.specs.Owed.{fresh_owed}
use Rattle.line.specs.Line.{with_parts}
use Rattle.line.specs.declared.Line.{Line}

-- "Entering m starts both channels fresh" (RULES 9.12). "Leaving m, for any cause, ends relay for that opening and empties its stores,
-- owed list included" (RULES 9.13, RULES 9.14)
unfoldable pub stepped_to : Line → Modes → Channels → Line
stepped_to l m Stay = with_parts l m l.sending.one l.sending.two l.receiving.one l.receiving.two l.owed
stepped_to l m Fresh = with_parts l m fresh_sending fresh_sending fresh_receiving fresh_receiving fresh_owed
stepped_to l m Emptied = with_parts l m (emptied_sending l.sending.one) (emptied_sending l.sending.two) (emptied_receiving l.receiving.one) (emptied_receiving l.receiving.two) fresh_owed
