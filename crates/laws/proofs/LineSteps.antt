-- One input, one outcome, of the public functions of the crates of a line and of the book. Some ask by a `requires` for what
-- BOOK's test and the verdicts give; that a contract leaves one outcome does not rest on it.
-- Assumes nothing.
use mathlib.Core.Path.{refl, sym, ◌∙◌}
use Rattle.relay.specs.contracts.relay_verdict as relay_line_verdict
use Rattle.relay.proofs.relay_verdict.Reads as relay_line_verdict_reads
use Rattle.relay.specs.contracts.channel_verdict as relay_channel_verdict
use Rattle.relay.proofs.channel_verdict.Reads as relay_channel_verdict_reads
use Rattle.relay.specs.contracts.may_take as relay_may_take
use Rattle.relay.proofs.may_take.Reads as relay_may_take_reads
use Rattle.relay.specs.contracts.take as relay_take
use Rattle.relay.proofs.take.Reads as relay_take_reads
use Rattle.relay.specs.contracts.may_hand_out as relay_may_hand_out
use Rattle.relay.proofs.may_hand_out.Reads as relay_may_hand_out_reads
use Rattle.relay.specs.contracts.hand_out as relay_hand_out
use Rattle.relay.proofs.hand_out.Reads as relay_hand_out_reads
use Rattle.relay.specs.contracts.held as relay_held
use Rattle.relay.proofs.held.Reads as relay_held_reads
use Rattle.writing.specs.contracts.acks_for as writing_acks_for
use Rattle.writing.proofs.acks_for.Reads as writing_acks_for_reads
use Rattle.writing.specs.contracts.wrote_line as writing_wrote_line
use Rattle.writing.proofs.wrote_line.Reads as writing_wrote_line_reads
use Rattle.writing.specs.contracts.head_for as writing_head_for
use Rattle.writing.proofs.head_for.Reads as writing_head_for_reads
use Rattle.writing.specs.contracts.header_length as writing_header_length
use Rattle.writing.proofs.header_length.Reads as writing_header_length_reads
use Rattle.writing.specs.contracts.may_write_empty as writing_may_write_empty
use Rattle.writing.proofs.may_write_empty.Reads as writing_may_write_empty_reads
use Rattle.writing.specs.contracts.write_empty as writing_write_empty
use Rattle.writing.proofs.write_empty.Reads as writing_write_empty_reads
use Rattle.writing.specs.contracts.may_send as writing_may_send
use Rattle.writing.proofs.may_send.Reads as writing_may_send_reads
use Rattle.writing.specs.contracts.send as writing_send
use Rattle.writing.proofs.send.Reads as writing_send_reads
use Rattle.arriving.specs.contracts.may_arrive as arriving_may_arrive
use Rattle.arriving.proofs.may_arrive.Reads as arriving_may_arrive_reads
use Rattle.arriving.specs.contracts.arrive as arriving_arrive
use Rattle.arriving.proofs.arrive.Reads as arriving_arrive_reads
use Rattle.book.specs.contracts.Book.part_start as book_part_start
use Rattle.book.proofs.Book.part_start.Reads as book_part_start_reads
use Rattle.book.specs.contracts.Book.fresh as book_fresh
use Rattle.book.proofs.Book.fresh.Reads as book_fresh_reads
use Rattle.book.specs.contracts.Book.line as book_line
use Rattle.book.proofs.Book.line.Reads as book_line_reads
use Rattle.book.specs.contracts.Book.with_line as book_with_line
use Rattle.book.proofs.Book.with_line.Reads as book_with_line_reads
use Rattle.book.specs.contracts.Book.owner_of as book_owner_of
use Rattle.book.proofs.Book.owner_of.Reads as book_owner_of_reads
use Rattle.book.specs.contracts.Book.taken as book_taken
use Rattle.book.proofs.Book.taken.Reads as book_taken_reads
use Rattle.book.specs.contracts.Book.closed_at as book_closed_at
use Rattle.book.proofs.Book.closed_at.Reads as book_closed_at_reads
use Rattle.book.specs.contracts.Book.fits as book_fits
use Rattle.book.proofs.Book.fits.Reads as book_fits_reads
use Rattle.laws.specs.Contract.{Determined}

-- relay
pub relay_line_verdict_determined : Determined relay_line_verdict.ended relay_line_verdict_reads.Learnt
relay_line_verdict_determined κs a x y p q m n = (m ∙ sym n, refl)

pub relay_channel_verdict_determined : Determined relay_channel_verdict.ended relay_channel_verdict_reads.Learnt
relay_channel_verdict_determined κs a x y p q m n = (m ∙ sym n, refl)

pub relay_may_take_determined : Determined relay_may_take.ended relay_may_take_reads.Learnt
relay_may_take_determined κs a x y p q m n = (m ∙ sym n, refl)

pub relay_take_determined : Determined relay_take.ended relay_take_reads.Learnt
relay_take_determined κs a x y p q m n = (m.0 ∙ sym n.0, λ t. (tt, ((m.1 ∙ sym n.1) t, (tt, (tt, tt)))))

pub relay_may_hand_out_determined : Determined relay_may_hand_out.ended relay_may_hand_out_reads.Learnt
relay_may_hand_out_determined κs a x y p q m n = (m ∙ sym n, refl)

pub relay_hand_out_determined : Determined relay_hand_out.ended relay_hand_out_reads.Learnt
relay_hand_out_determined κs a x y p q m n = (m.0 ∙ sym n.0, λ t. (tt, (tt, (tt, ((m.1 ∙ sym n.1) t, tt)))))

pub relay_held_determined : Determined relay_held.ended relay_held_reads.Learnt
relay_held_determined κs a x y p q m n = (m ∙ sym n, refl)

-- writing
pub writing_acks_for_determined : Determined writing_acks_for.ended writing_acks_for_reads.Learnt
writing_acks_for_determined κs a x y p q m n = (m ∙ sym n, refl)

pub writing_wrote_line_determined : Determined writing_wrote_line.ended writing_wrote_line_reads.Learnt
writing_wrote_line_determined κs a x y p q m n = (m ∙ sym n, refl)

pub writing_head_for_determined : Determined writing_head_for.ended writing_head_for_reads.Learnt
writing_head_for_determined κs a x y p q m n = (m ∙ sym n, refl)

pub writing_header_length_determined : Determined writing_header_length.ended writing_header_length_reads.Learnt
writing_header_length_determined κs a x y p q m n = (m ∙ sym n, refl)

pub writing_may_write_empty_determined : Determined writing_may_write_empty.ended writing_may_write_empty_reads.Learnt
writing_may_write_empty_determined κs a x y p q m n = (m ∙ sym n, refl)

pub writing_write_empty_determined : Determined writing_write_empty.ended writing_write_empty_reads.Learnt
writing_write_empty_determined κs a x y p q m n = (λ t. record { line = (m.0 ∙ sym n.0) t; size = (m.1 ∙ sym n.1) t }, λ t. (tt, (tt, ((m.2 ∙ sym n.2) t, tt))))

pub writing_may_send_determined : Determined writing_may_send.ended writing_may_send_reads.Learnt
writing_may_send_determined κs a x y p q m n = (m ∙ sym n, refl)

pub writing_send_determined : Determined writing_send.ended writing_send_reads.Learnt
writing_send_determined κs a x y p q m n = (λ t. record { line = (m.0 ∙ sym n.0) t; size = (m.1 ∙ sym n.1) t }, λ t. (tt, (tt, (tt, (tt, ((m.2 ∙ sym n.2) t, tt))))))

-- arriving
pub arriving_may_arrive_determined : Determined arriving_may_arrive.ended arriving_may_arrive_reads.Learnt
arriving_may_arrive_determined κs a x y p q m n = (m ∙ sym n, refl)

pub arriving_arrive_determined : Determined arriving_arrive.ended arriving_arrive_reads.Learnt
arriving_arrive_determined κs a x y p q m n = (m.0 ∙ sym n.0, λ t. (tt, ((m.1 ∙ sym n.1) t, (tt, (tt, (tt, tt))))))

-- book
pub book_part_start_determined : Determined book_part_start.ended book_part_start_reads.Learnt
book_part_start_determined κs a x y p q m n = (m ∙ sym n, refl)

pub book_fresh_determined : Determined book_fresh.ended book_fresh_reads.Learnt
book_fresh_determined κs a x y p q m n = (m ∙ sym n, refl)

pub book_line_determined : Determined book_line.ended book_line_reads.Learnt
book_line_determined κs a x y p q m n = (m ∙ sym n, refl)

pub book_with_line_determined : Determined book_with_line.ended book_with_line_reads.Learnt
book_with_line_determined κs a x y p q m n = (m ∙ sym n, refl)

pub book_owner_of_determined : Determined book_owner_of.ended book_owner_of_reads.Learnt
book_owner_of_determined κs a x y p q m n = (m ∙ sym n, refl)

pub book_taken_determined : Determined book_taken.ended book_taken_reads.Learnt
book_taken_determined κs a x y p q m n = (m ∙ sym n, refl)

pub book_closed_at_determined : Determined book_closed_at.ended book_closed_at_reads.Learnt
book_closed_at_determined κs a x y p q m n = (m ∙ sym n, refl)

pub book_fits_determined : Determined book_fits.ended book_fits_reads.Learnt
book_fits_determined κs a x y p q m n = (m ∙ sym n, refl)
