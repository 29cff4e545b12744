-- One input, one outcome, of the other public functions of the face's crates: the steps that the calls are made of, each a function of what it is
-- handed. A caller of the library does not call them.
-- Assumes nothing.
use mathlib.Core.Path.{refl, sym, ◌∙◌}
use Rattle.ground.specs.contracts.U8FromRefusal.from as number
use Rattle.ground.proofs.U8FromRefusal.from.Reads as number_reads
use Rattle.field.specs.contracts.octet_at
use Rattle.field.proofs.octet_at.Reads as octet_at_reads
use Rattle.field.specs.contracts.word_at
use Rattle.field.proofs.word_at.Reads as word_at_reads
use Rattle.field.specs.contracts.long_at
use Rattle.field.proofs.long_at.Reads as long_at_reads
use Rattle.field.specs.contracts.served
use Rattle.field.proofs.served.Reads as served_reads
use Rattle.field.specs.contracts.put_word
use Rattle.field.proofs.put_word.Reads as put_word_reads
use Rattle.field.specs.contracts.put_long
use Rattle.field.proofs.put_long.Reads as put_long_reads
use Rattle.field.specs.contracts.put_words
use Rattle.field.proofs.put_words.Reads as put_words_reads
use Rattle.field.specs.contracts.put_octets
use Rattle.field.proofs.put_octets.Reads as put_octets_reads
use Rattle.mode.specs.contracts.channels_for
use Rattle.mode.proofs.channels_for.Reads as channels_for_reads
use Rattle.mode.specs.contracts.Modes.opened as modes_opened
use Rattle.mode.proofs.Modes.opened.Reads as modes_opened_reads
use Rattle.mode.specs.contracts.Modes.closed as modes_closed
use Rattle.mode.proofs.Modes.closed.Reads as modes_closed_reads
use Rattle.mode.specs.contracts.Modes.fits as modes_fits
use Rattle.mode.proofs.Modes.fits.Reads as modes_fits_reads
use Rattle.mode.specs.contracts.Modes.moved as modes_moved
use Rattle.mode.proofs.Modes.moved.Reads as modes_moved_reads
use Rattle.mode.specs.contracts.Modes.trying as modes_trying
use Rattle.mode.proofs.Modes.trying.Reads as modes_trying_reads
use Rattle.mode.specs.contracts.Modes.stayed as modes_stayed
use Rattle.mode.proofs.Modes.stayed.Reads as modes_stayed_reads
use Rattle.mode.specs.contracts.Modes.ended as modes_ended
use Rattle.mode.proofs.Modes.ended.Reads as modes_ended_reads
use Rattle.line.specs.contracts.settings_fit
use Rattle.line.proofs.settings_fit.Reads as settings_fit_reads
use Rattle.line.specs.contracts.Line.closed as line_closed
use Rattle.line.proofs.Line.closed.Reads as line_closed_reads
use Rattle.line.specs.contracts.Line.opened_with as line_opened_with
use Rattle.line.proofs.Line.opened_with.Reads as line_opened_with_reads
use Rattle.line.specs.contracts.Line.sending as line_sending
use Rattle.line.proofs.Line.sending.Reads as line_sending_reads
use Rattle.line.specs.contracts.Line.with_sending as line_with_sending
use Rattle.line.proofs.Line.with_sending.Reads as line_with_sending_reads
use Rattle.line.specs.contracts.Line.receiving as line_receiving
use Rattle.line.proofs.Line.receiving.Reads as line_receiving_reads
use Rattle.line.specs.contracts.Line.with_receiving as line_with_receiving
use Rattle.line.proofs.Line.with_receiving.Reads as line_with_receiving_reads
use Rattle.line.specs.contracts.Line.send_window as line_send_window
use Rattle.line.proofs.Line.send_window.Reads as line_send_window_reads
use Rattle.line.specs.contracts.Line.receive_window as line_receive_window
use Rattle.line.proofs.Line.receive_window.Reads as line_receive_window_reads
use Rattle.line.specs.contracts.Line.send_largest as line_send_largest
use Rattle.line.proofs.Line.send_largest.Reads as line_send_largest_reads
use Rattle.line.specs.contracts.Line.receive_largest as line_receive_largest
use Rattle.line.proofs.Line.receive_largest.Reads as line_receive_largest_reads
use Rattle.line.specs.contracts.Line.part_length as line_part_length
use Rattle.line.proofs.Line.part_length.Reads as line_part_length_reads
use Rattle.line.specs.contracts.Line.region as line_region
use Rattle.line.proofs.Line.region.Reads as line_region_reads
use Rattle.line.specs.contracts.Line.settings as line_settings
use Rattle.line.proofs.Line.settings.Reads as line_settings_reads
use Rattle.line.specs.contracts.Line.fits as line_fits
use Rattle.line.proofs.Line.fits.Reads as line_fits_reads
use Rattle.line.specs.contracts.Line.stepped as line_stepped
use Rattle.line.proofs.Line.stepped.Reads as line_stepped_reads
use Rattle.calls.specs.contracts.line_verdict
use Rattle.calls.proofs.line_verdict.Reads as line_verdict_reads
use Rattle.calls.specs.contracts.store_verdict
use Rattle.calls.proofs.store_verdict.Reads as store_verdict_reads
use Rattle.calls.specs.contracts.store_line_verdict
use Rattle.calls.proofs.store_line_verdict.Reads as store_line_verdict_reads
use Rattle.calls.specs.contracts.may_open
use Rattle.calls.proofs.may_open.Reads as may_open_reads
use Rattle.calls.specs.contracts.may_close
use Rattle.calls.proofs.may_close.Reads as may_close_reads
use Rattle.calls.specs.contracts.open_line_verdict
use Rattle.calls.proofs.open_line_verdict.Reads as open_line_verdict_reads
use Rattle.laws.specs.Contract.{Determined}

-- refusals
pub number_determined : Determined number.ended number_reads.Learnt
number_determined κs a x y p q m n = (m ∙ sym n, refl)

-- octets, words and what is put
pub octet_at_determined : Determined octet_at.ended octet_at_reads.Learnt
octet_at_determined κs a x y p q m n = (m ∙ sym n, refl)

pub word_at_determined : Determined word_at.ended word_at_reads.Learnt
word_at_determined κs a x y p q m n = (m ∙ sym n, refl)

pub long_at_determined : Determined long_at.ended long_at_reads.Learnt
long_at_determined κs a x y p q m n = (m ∙ sym n, refl)

pub served_determined : Determined served.ended served_reads.Learnt
served_determined κs a x y p q m n = (m ∙ sym n, refl)

pub put_word_determined : Determined put_word.ended put_word_reads.Learnt
put_word_determined κs a x y p q m n = (refl, λ t. ((m ∙ sym n) t, (tt, (tt, tt))))

pub put_long_determined : Determined put_long.ended put_long_reads.Learnt
put_long_determined κs a x y p q m n = (refl, λ t. ((m ∙ sym n) t, (tt, (tt, tt))))

pub put_words_determined : Determined put_words.ended put_words_reads.Learnt
put_words_determined κs a x y p q m n = (refl, λ t. ((m ∙ sym n) t, (tt, tt)))

pub put_octets_determined : Determined put_octets.ended put_octets_reads.Learnt
put_octets_determined κs a x y p q m n = (refl, λ t. ((m ∙ sym n) t, (tt, (tt, tt))))

-- the modes of a line
pub channels_for_determined : Determined channels_for.ended channels_for_reads.Learnt
channels_for_determined κs a x y p q m n = (m ∙ sym n, refl)

pub modes_opened_determined : Determined modes_opened.ended modes_opened_reads.Learnt
modes_opened_determined κs a x y p q m n = (m ∙ sym n, refl)

pub modes_closed_determined : Determined modes_closed.ended modes_closed_reads.Learnt
modes_closed_determined κs a x y p q m n = (m ∙ sym n, refl)

pub modes_fits_determined : Determined modes_fits.ended modes_fits_reads.Learnt
modes_fits_determined κs a x y p q m n = (m ∙ sym n, refl)

pub modes_moved_determined : Determined modes_moved.ended modes_moved_reads.Learnt
modes_moved_determined κs a x y p q m n = (m ∙ sym n, refl)

pub modes_trying_determined : Determined modes_trying.ended modes_trying_reads.Learnt
modes_trying_determined κs a x y p q m n = (m ∙ sym n, refl)

pub modes_stayed_determined : Determined modes_stayed.ended modes_stayed_reads.Learnt
modes_stayed_determined κs a x y p q m n = (m ∙ sym n, refl)

pub modes_ended_determined : Determined modes_ended.ended modes_ended_reads.Learnt
modes_ended_determined κs a x y p q m n = (m ∙ sym n, refl)

-- a line
pub settings_fit_determined : Determined settings_fit.ended settings_fit_reads.Learnt
settings_fit_determined κs a x y p q m n = (m ∙ sym n, refl)

pub line_closed_determined : Determined line_closed.ended line_closed_reads.Learnt
line_closed_determined κs a x y p q m n = (m ∙ sym n, refl)

pub line_opened_with_determined : Determined line_opened_with.ended line_opened_with_reads.Learnt
line_opened_with_determined κs a x y p q m n = (m ∙ sym n, refl)

pub line_sending_determined : Determined line_sending.ended line_sending_reads.Learnt
line_sending_determined κs a x y p q m n = (m ∙ sym n, refl)

pub line_with_sending_determined : Determined line_with_sending.ended line_with_sending_reads.Learnt
line_with_sending_determined κs a x y p q m n = (m ∙ sym n, refl)

pub line_receiving_determined : Determined line_receiving.ended line_receiving_reads.Learnt
line_receiving_determined κs a x y p q m n = (m ∙ sym n, refl)

pub line_with_receiving_determined : Determined line_with_receiving.ended line_with_receiving_reads.Learnt
line_with_receiving_determined κs a x y p q m n = (m ∙ sym n, refl)

pub line_send_window_determined : Determined line_send_window.ended line_send_window_reads.Learnt
line_send_window_determined κs a x y p q m n = (m ∙ sym n, refl)

pub line_receive_window_determined : Determined line_receive_window.ended line_receive_window_reads.Learnt
line_receive_window_determined κs a x y p q m n = (m ∙ sym n, refl)

pub line_send_largest_determined : Determined line_send_largest.ended line_send_largest_reads.Learnt
line_send_largest_determined κs a x y p q m n = (m ∙ sym n, refl)

pub line_receive_largest_determined : Determined line_receive_largest.ended line_receive_largest_reads.Learnt
line_receive_largest_determined κs a x y p q m n = (m ∙ sym n, refl)

pub line_part_length_determined : Determined line_part_length.ended line_part_length_reads.Learnt
line_part_length_determined κs a x y p q m n = (m ∙ sym n, refl)

pub line_region_determined : Determined line_region.ended line_region_reads.Learnt
line_region_determined κs a x y p q m n = (m ∙ sym n, refl)

pub line_settings_determined : Determined line_settings.ended line_settings_reads.Learnt
line_settings_determined κs a x y p q m n = (m ∙ sym n, refl)

pub line_fits_determined : Determined line_fits.ended line_fits_reads.Learnt
line_fits_determined κs a x y p q m n = (m ∙ sym n, refl)

pub line_stepped_determined : Determined line_stepped.ended line_stepped_reads.Learnt
line_stepped_determined κs a x y p q m n = (m ∙ sym n, refl)

-- what every call asks first
pub line_verdict_determined : Determined line_verdict.ended line_verdict_reads.Learnt
line_verdict_determined κs a x y p q m n = (m ∙ sym n, refl)

pub store_verdict_determined : Determined store_verdict.ended store_verdict_reads.Learnt
store_verdict_determined κs a x y p q m n = (m ∙ sym n, refl)

pub store_line_verdict_determined : Determined store_line_verdict.ended store_line_verdict_reads.Learnt
store_line_verdict_determined κs a x y p q m n = (m ∙ sym n, refl)

pub may_open_determined : Determined may_open.ended may_open_reads.Learnt
may_open_determined κs a x y p q m n = (m ∙ sym n, refl)

pub may_close_determined : Determined may_close.ended may_close_reads.Learnt
may_close_determined κs a x y p q m n = (m ∙ sym n, refl)

pub open_line_verdict_determined : Determined open_line_verdict.ended open_line_verdict_reads.Learnt
open_line_verdict_determined κs a x y p q m n = (m ∙ sym n, refl)
