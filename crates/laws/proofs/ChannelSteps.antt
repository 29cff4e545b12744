-- One input, one outcome, of the public functions of the crates of a channel. Some ask by a `requires` for what
-- BOOK's test and the verdicts give; that a contract leaves one outcome does not rest on it.
-- Assumes nothing.
use mathlib.Core.Path.{refl, sym, ◌∙◌}
use Rattle.places.specs.contracts.Places.none as places_none
use Rattle.places.proofs.Places.none.Reads as places_none_reads
use Rattle.places.specs.contracts.Places.has as places_has
use Rattle.places.proofs.Places.has.Reads as places_has_reads
use Rattle.places.specs.contracts.Places.with as places_with
use Rattle.places.proofs.Places.with.Reads as places_with_reads
use Rattle.places.specs.contracts.Places.without as places_without
use Rattle.places.proofs.Places.without.Reads as places_without_reads
use Rattle.places.specs.contracts.Places.dropped as places_dropped
use Rattle.places.proofs.Places.dropped.Reads as places_dropped_reads
use Rattle.places.specs.contracts.Places.empty as places_empty
use Rattle.places.proofs.Places.empty.Reads as places_empty_reads
use Rattle.places.specs.contracts.Places.within as places_within
use Rattle.places.proofs.Places.within.Reads as places_within_reads
use Rattle.places.specs.contracts.Places.count as places_count
use Rattle.places.proofs.Places.count.Reads as places_count_reads
use Rattle.places.specs.contracts.Places.rank as places_rank
use Rattle.places.proofs.Places.rank.Reads as places_rank_reads
use Rattle.channel.specs.contracts.Channel.of as channel_of
use Rattle.channel.proofs.Channel.of.Reads as channel_of_reads
use Rattle.channel.specs.contracts.distance as channel_distance
use Rattle.channel.proofs.distance.Reads as channel_distance_reads
use Rattle.channel.specs.contracts.place as channel_place
use Rattle.channel.proofs.place.Reads as channel_place_reads
use Rattle.channel.specs.contracts.size_fits as channel_size_fits
use Rattle.channel.proofs.size_fits.Reads as channel_size_fits_reads
use Rattle.channel.specs.contracts.sizes_fit as channel_sizes_fit
use Rattle.channel.proofs.sizes_fit.Reads as channel_sizes_fit_reads
use Rattle.sending.specs.contracts.Sending.fresh as sending_fresh
use Rattle.sending.proofs.Sending.fresh.Reads as sending_fresh_reads
use Rattle.sending.specs.contracts.Sending.may_take as sending_may_take
use Rattle.sending.proofs.Sending.may_take.Reads as sending_may_take_reads
use Rattle.sending.specs.contracts.Sending.next_place as sending_next_place
use Rattle.sending.proofs.Sending.next_place.Reads as sending_next_place_reads
use Rattle.sending.specs.contracts.Sending.took as sending_took
use Rattle.sending.proofs.Sending.took.Reads as sending_took_reads
use Rattle.sending.specs.contracts.Sending.heard_base as sending_heard_base
use Rattle.sending.proofs.Sending.heard_base.Reads as sending_heard_base_reads
use Rattle.sending.specs.contracts.Sending.acknowledged as sending_acknowledged
use Rattle.sending.proofs.Sending.acknowledged.Reads as sending_acknowledged_reads
use Rattle.sending.specs.contracts.Sending.emptied as sending_emptied
use Rattle.sending.proofs.Sending.emptied.Reads as sending_emptied_reads
use Rattle.sending.specs.contracts.Sending.held as sending_held
use Rattle.sending.proofs.Sending.held.Reads as sending_held_reads
use Rattle.sending.specs.contracts.Sending.ranked as sending_ranked
use Rattle.sending.proofs.Sending.ranked.Reads as sending_ranked_reads
use Rattle.sending.specs.contracts.Sending.fits as sending_fits
use Rattle.sending.proofs.Sending.fits.Reads as sending_fits_reads
use Rattle.receiving.specs.contracts.Receiving.fresh as receiving_fresh
use Rattle.receiving.proofs.Receiving.fresh.Reads as receiving_fresh_reads
use Rattle.receiving.specs.contracts.Receiving.arrival as receiving_arrival
use Rattle.receiving.proofs.Receiving.arrival.Reads as receiving_arrival_reads
use Rattle.receiving.specs.contracts.Receiving.place_of as receiving_place_of
use Rattle.receiving.proofs.Receiving.place_of.Reads as receiving_place_of_reads
use Rattle.receiving.specs.contracts.Receiving.stored_at as receiving_stored_at
use Rattle.receiving.proofs.Receiving.stored_at.Reads as receiving_stored_at_reads
use Rattle.receiving.specs.contracts.Receiving.may_hand_out as receiving_may_hand_out
use Rattle.receiving.proofs.Receiving.may_hand_out.Reads as receiving_may_hand_out_reads
use Rattle.receiving.specs.contracts.Receiving.next_size as receiving_next_size
use Rattle.receiving.proofs.Receiving.next_size.Reads as receiving_next_size_reads
use Rattle.receiving.specs.contracts.Receiving.handed_out as receiving_handed_out
use Rattle.receiving.proofs.Receiving.handed_out.Reads as receiving_handed_out_reads
use Rattle.receiving.specs.contracts.Receiving.emptied as receiving_emptied
use Rattle.receiving.proofs.Receiving.emptied.Reads as receiving_emptied_reads
use Rattle.receiving.specs.contracts.Receiving.fits as receiving_fits
use Rattle.receiving.proofs.Receiving.fits.Reads as receiving_fits_reads
use Rattle.owed.specs.contracts.Owed.fresh as owed_fresh
use Rattle.owed.proofs.Owed.fresh.Reads as owed_fresh_reads
use Rattle.owed.specs.contracts.Owed.enter as owed_enter
use Rattle.owed.proofs.Owed.enter.Reads as owed_enter_reads
use Rattle.owed.specs.contracts.Owed.first_three as owed_first_three
use Rattle.owed.proofs.Owed.first_three.Reads as owed_first_three_reads
use Rattle.owed.specs.contracts.Owed.without_three as owed_without_three
use Rattle.owed.proofs.Owed.without_three.Reads as owed_without_three_reads
use Rattle.owed.specs.contracts.Owed.fits as owed_fits
use Rattle.owed.proofs.Owed.fits.Reads as owed_fits_reads
use Rattle.owed.specs.contracts.word as owed_word
use Rattle.owed.proofs.word.Reads as owed_word_reads
use Rattle.store.specs.contracts.Region.from as region_from
use Rattle.store.proofs.Region.from.Reads as region_from_reads
use Rattle.store.specs.contracts.Region.slot as region_slot
use Rattle.store.proofs.Region.slot.Reads as region_slot_reads
use Rattle.store.specs.contracts.Region.put as region_put
use Rattle.store.proofs.Region.put.Reads as region_put_reads
use Rattle.store.specs.contracts.Region.copy_out as region_copy_out
use Rattle.store.proofs.Region.copy_out.Reads as region_copy_out_reads
use Rattle.laws.specs.Contract.{Determined}

-- places
pub places_none_determined : Determined places_none.ended places_none_reads.Learnt
places_none_determined κs a x y p q m n = (m ∙ sym n, refl)

pub places_has_determined : Determined places_has.ended places_has_reads.Learnt
places_has_determined κs a x y p q m n = (m ∙ sym n, refl)

pub places_with_determined : Determined places_with.ended places_with_reads.Learnt
places_with_determined κs a x y p q m n = (m ∙ sym n, refl)

pub places_without_determined : Determined places_without.ended places_without_reads.Learnt
places_without_determined κs a x y p q m n = (m ∙ sym n, refl)

pub places_dropped_determined : Determined places_dropped.ended places_dropped_reads.Learnt
places_dropped_determined κs a x y p q m n = (m ∙ sym n, refl)

pub places_empty_determined : Determined places_empty.ended places_empty_reads.Learnt
places_empty_determined κs a x y p q m n = (m ∙ sym n, refl)

pub places_within_determined : Determined places_within.ended places_within_reads.Learnt
places_within_determined κs a x y p q m n = (m ∙ sym n, refl)

pub places_count_determined : Determined places_count.ended places_count_reads.Learnt
places_count_determined κs a x y p q m n = (m ∙ sym n, refl)

pub places_rank_determined : Determined places_rank.ended places_rank_reads.Learnt
places_rank_determined κs a x y p q m n = (m ∙ sym n, refl)

-- channel
pub channel_of_determined : Determined channel_of.ended channel_of_reads.Learnt
channel_of_determined κs a x y p q m n = (m ∙ sym n, refl)

pub channel_distance_determined : Determined channel_distance.ended channel_distance_reads.Learnt
channel_distance_determined κs a x y p q m n = (m ∙ sym n, refl)

pub channel_place_determined : Determined channel_place.ended channel_place_reads.Learnt
channel_place_determined κs a x y p q m n = (m ∙ sym n, refl)

pub channel_size_fits_determined : Determined channel_size_fits.ended channel_size_fits_reads.Learnt
channel_size_fits_determined κs a x y p q m n = (m ∙ sym n, refl)

pub channel_sizes_fit_determined : Determined channel_sizes_fit.ended channel_sizes_fit_reads.Learnt
channel_sizes_fit_determined κs a x y p q m n = (m ∙ sym n, refl)

-- sending
pub sending_fresh_determined : Determined sending_fresh.ended sending_fresh_reads.Learnt
sending_fresh_determined κs a x y p q m n = (m ∙ sym n, refl)

pub sending_may_take_determined : Determined sending_may_take.ended sending_may_take_reads.Learnt
sending_may_take_determined κs a x y p q m n = (m ∙ sym n, refl)

pub sending_next_place_determined : Determined sending_next_place.ended sending_next_place_reads.Learnt
sending_next_place_determined κs a x y p q m n = (m ∙ sym n, refl)

pub sending_took_determined : Determined sending_took.ended sending_took_reads.Learnt
sending_took_determined κs a x y p q m n = (m ∙ sym n, refl)

pub sending_heard_base_determined : Determined sending_heard_base.ended sending_heard_base_reads.Learnt
sending_heard_base_determined κs a x y p q m n = (m ∙ sym n, refl)

pub sending_acknowledged_determined : Determined sending_acknowledged.ended sending_acknowledged_reads.Learnt
sending_acknowledged_determined κs a x y p q m n = (m ∙ sym n, refl)

pub sending_emptied_determined : Determined sending_emptied.ended sending_emptied_reads.Learnt
sending_emptied_determined κs a x y p q m n = (m ∙ sym n, refl)

pub sending_held_determined : Determined sending_held.ended sending_held_reads.Learnt
sending_held_determined κs a x y p q m n = (m ∙ sym n, refl)

pub sending_ranked_determined : Determined sending_ranked.ended sending_ranked_reads.Learnt
sending_ranked_determined κs a x y p q m n = (m ∙ sym n, refl)

pub sending_fits_determined : Determined sending_fits.ended sending_fits_reads.Learnt
sending_fits_determined κs a x y p q m n = (m ∙ sym n, refl)

-- receiving
pub receiving_fresh_determined : Determined receiving_fresh.ended receiving_fresh_reads.Learnt
receiving_fresh_determined κs a x y p q m n = (m ∙ sym n, refl)

pub receiving_arrival_determined : Determined receiving_arrival.ended receiving_arrival_reads.Learnt
receiving_arrival_determined κs a x y p q m n = (m ∙ sym n, refl)

pub receiving_place_of_determined : Determined receiving_place_of.ended receiving_place_of_reads.Learnt
receiving_place_of_determined κs a x y p q m n = (m ∙ sym n, refl)

pub receiving_stored_at_determined : Determined receiving_stored_at.ended receiving_stored_at_reads.Learnt
receiving_stored_at_determined κs a x y p q m n = (m ∙ sym n, refl)

pub receiving_may_hand_out_determined : Determined receiving_may_hand_out.ended receiving_may_hand_out_reads.Learnt
receiving_may_hand_out_determined κs a x y p q m n = (m ∙ sym n, refl)

pub receiving_next_size_determined : Determined receiving_next_size.ended receiving_next_size_reads.Learnt
receiving_next_size_determined κs a x y p q m n = (m ∙ sym n, refl)

pub receiving_handed_out_determined : Determined receiving_handed_out.ended receiving_handed_out_reads.Learnt
receiving_handed_out_determined κs a x y p q m n = (m ∙ sym n, refl)

pub receiving_emptied_determined : Determined receiving_emptied.ended receiving_emptied_reads.Learnt
receiving_emptied_determined κs a x y p q m n = (m ∙ sym n, refl)

pub receiving_fits_determined : Determined receiving_fits.ended receiving_fits_reads.Learnt
receiving_fits_determined κs a x y p q m n = (m ∙ sym n, refl)

-- owed
pub owed_fresh_determined : Determined owed_fresh.ended owed_fresh_reads.Learnt
owed_fresh_determined κs a x y p q m n = (m ∙ sym n, refl)

pub owed_enter_determined : Determined owed_enter.ended owed_enter_reads.Learnt
owed_enter_determined κs a x y p q m n = (m ∙ sym n, refl)

pub owed_first_three_determined : Determined owed_first_three.ended owed_first_three_reads.Learnt
owed_first_three_determined κs a x y p q m n = (m ∙ sym n, refl)

pub owed_without_three_determined : Determined owed_without_three.ended owed_without_three_reads.Learnt
owed_without_three_determined κs a x y p q m n = (m ∙ sym n, refl)

pub owed_fits_determined : Determined owed_fits.ended owed_fits_reads.Learnt
owed_fits_determined κs a x y p q m n = (m ∙ sym n, refl)

pub owed_word_determined : Determined owed_word.ended owed_word_reads.Learnt
owed_word_determined κs a x y p q m n = (m ∙ sym n, refl)

-- store
pub region_from_determined : Determined region_from.ended region_from_reads.Learnt
region_from_determined κs a x y p q m n = (m ∙ sym n, refl)

pub region_slot_determined : Determined region_slot.ended region_slot_reads.Learnt
region_slot_determined κs a x y p q m n = (m ∙ sym n, refl)

pub region_put_determined : Determined region_put.ended region_put_reads.Learnt
region_put_determined κs a x y p q m n = (refl, λ t. (tt, ((m ∙ sym n) t, (tt, (tt, tt)))))

pub region_copy_out_determined : Determined region_copy_out.ended region_copy_out_reads.Learnt
region_copy_out_determined κs a x y p q m n = (refl, λ t. (tt, (tt, (tt, (tt, ((m ∙ sym n) t, tt))))))
