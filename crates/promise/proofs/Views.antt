-- What an end shows of a channel depends on that channel's side and on the slots of its places: a message put into one slot leaves every other
-- view as it was.
-- Assumes nothing.
use Prim.Native.Nat.{ℕ, ◌-◌, ◌^◌, ◌≤◌, ◌<◌}
use mathlib.Core.Path.{◌≡◌, refl, sym, ap, ◌∙◌, fun_ext}
use mathlib.Core.Bool.{Bool, true, false}
use mathlib.Core.List.{List, []}
use mathlib.Core.Logic.{◌≢◌}
use native.Mathlib.Nat.{lt_of_lt_of_le}
use native.Mathlib.Omega.{arith}
use lib.Dec.{eqb}
use lib.ListN.{length}
use lib.Pow.{pow_mono}
use lib.Seq.{sets}
use borrow.Author.Tests.{eqb-true}
use Rattle.ground.specs.Pick.{pick}
use Rattle.ground.proofs.Either.{or_second}
use Rattle.places.specs.Places.{mask_of, bit_of}
use Rattle.channel.specs.Distance.{place_of}
use Rattle.sending.specs.Sending.{SendingOk}
use Rattle.receiving.specs.Receiving.{ReceivingOk}
use Rattle.sending.specs.declared.Sending.{Sending}
use Rattle.receiving.specs.declared.Receiving.{Receiving}
use Rattle.channel.proofs.Distances.{place_lt}
use Rattle.flow.proofs.Sized.{bit_below}
use Rattle.flow.specs.Flow.{Message}
use Rattle.flow.specs.View.{Slots, message_at, message_of, sends, receives, PutAt, SlotsHold}
use Rattle.line.specs.Figures.{send_window, receive_window}
use Rattle.line.specs.Part.{slot_count, slot_size, part_length, region_of}
use Rattle.line.proofs.Part.{Side, Served, region_end, regions_apart}
use Rattle.line.specs.Line.{sending_of, receiving_of, with_sending, with_receiving}
use Rattle.line.specs.Sides.{side_of, with_side}
use Rattle.line.specs.declared.Line.{Line}
use Rattle.line.specs.declared.Sides.{Sides}
use Rattle.store.specs.Store.{slot_at}
use Rattle.store.specs.declared.Way.{Way}
use Rattle.store.specs.declared.Way.TheVariants as way
use Rattle.store.proofs.Octets.{slot_length, slot_put, slot_kept, region_kept}
use Rattle.relay.specs.RelayTests.{reliable}
use Rattle.relay.proofs.Lines.{side_served}
use Rattle.promise.specs.Ends.{slots_of, sends_of, receives_of}

-- two parts have the same in the slots of a way and a channel
abbrev pub SameSlots : Line → Way → ℕ → List ℕ → List ℕ → Type 0
SameSlots l w channel part after = (p : ℕ) → p < slot_count l w channel → slots_of l after w channel p ≡ slots_of l part w channel p

-- the slots of the window's places decide what is seen
module _ (w : ℕ) (slot after : Slots) (same : (p : ℕ) → p < w → after p ≡ slot p) where
  message_same : (sizes : List ℕ) (m origin : ℕ) → origin < w → m < 2 ^ w → (i : ℕ) → message_of w after sizes m origin i ≡ message_of w slot sizes m origin i
  message_same sizes m origin l h i = go (bit_of m i) refl
    where
      go : (t : Bool) → bit_of m i ≡ t → pick t (message_at after sizes (place_of origin i w)) [] ≡ pick t (message_at slot sizes (place_of origin i w)) []
      go true e =
          let near : i < w = bit_below m w i h e in
          ap (λ (x : List ℕ). message_at (λ p. x) sizes (place_of origin i w)) (same (place_of origin i w) (place_lt w origin i l (omega arith)))
      go false e = refl

  sends_same : (s : Sending) → SendingOk w s → sends w after s ≡ sends w slot s
  sends_same s k =
      let f = fun_ext (λ n. message_same s.sizes (mask_of s.unacked) s.origin k.placed (lt_of_lt_of_le k.masked (pow_mono k.windowed)) (n - s.base)) in
      λ t. record { S = s.taken; h = s.base; held = f t }

  receives_same : (r : Receiving) → ReceivingOk w r → receives w after r ≡ receives w slot r
  receives_same r k =
      let f = fun_ext (λ n. message_same r.sizes (mask_of r.stored) r.origin k.placed k.masked (n - r.next)) in
      λ t. record { R = r.next; stored = f t }

-- so a line's views are those of another record and another part that agree on the channel
module _ (part after : List ℕ) (l m : Line) (channel : ℕ) where
  pub sends_kept : SendingOk (send_window l channel) (sending_of l channel) → sending_of m channel ≡ sending_of l channel → SameSlots l way.Sending channel part after
      → sends_of after m channel ≡ sends_of part l channel
  sends_kept k e same =
      ap (λ (s : Sending). sends (send_window l channel) (slots_of l after way.Sending channel) s) e
      ∙ sends_same (send_window l channel) (slots_of l part way.Sending channel) (slots_of l after way.Sending channel) same (sending_of l channel) k

  pub receives_kept : ReceivingOk (receive_window l channel) (receiving_of l channel) → receiving_of m channel ≡ receiving_of l channel → SameSlots l way.Receiving channel part after
      → receives_of after m channel ≡ receives_of part l channel
  receives_kept k e same =
      ap (λ (r : Receiving). receives (receive_window l channel) (slots_of l after way.Receiving channel) r) e
      ∙ receives_same (receive_window l channel) (slots_of l part way.Receiving channel) (slots_of l after way.Receiving channel) same (receiving_of l channel) k

-- A side put anew: it is what its channel has, and the other channel has what it had.
module _ {A : Type 0} (both : Sides A) (channel : ℕ) (a : A) where
  side_here : side_of (with_side both channel a) channel ≡ a
  side_here = go (eqb channel 1)
    where
      go : (t : Bool) → pick t (pick t a both.one) (pick t both.two a) ≡ a
      go true = refl
      go false = refl

  -- of two channels that are reliable one is 1 and the other is 2
  module _ (c : ℕ) (v : reliable channel ≡ true) (w : reliable c ≡ true) (d : c ≢ channel) where
    both_one : eqb c 1 ≡ true → eqb channel 1 ≡ true → ⊥
    both_one e f = d (eqb-true _ _ e ∙ sym (eqb-true _ _ f))

    both_two : eqb c 1 ≡ false → eqb channel 1 ≡ false → ⊥
    both_two e f = d (eqb-true _ _ (or_second (eqb c 1) (eqb c 2) w e) ∙ sym (eqb-true _ _ (or_second (eqb channel 1) (eqb channel 2) v f)))

    side_other : side_of (with_side both channel a) c ≡ side_of both c
    side_other = go (eqb c 1) (eqb channel 1) both_one both_two
      where
        go : (t u : Bool) → (t ≡ true → u ≡ true → ⊥) → (t ≡ false → u ≡ false → ⊥)
            → pick t (pick u a both.one) (pick u both.two a) ≡ pick t both.one both.two
        go true true f g = absurd (f refl refl)
        go true false f g = refl
        go false true f g = refl
        go false false f g = absurd (g refl refl)

-- so of a line
module _ (l : Line) where
  module _ (channel : ℕ) where
    pub sending_here : (s : Sending) → sending_of (with_sending l channel s) channel ≡ s
    sending_here s = side_here l.sending channel s

    pub receiving_here : (r : Receiving) → receiving_of (with_receiving l channel r) channel ≡ r
    receiving_here r = side_here l.receiving channel r

    module _ (c : ℕ) (v : reliable channel ≡ true) (w : reliable c ≡ true) (d : c ≢ channel) where
      pub sending_other : (s : Sending) → sending_of (with_sending l channel s) c ≡ sending_of l c
      sending_other s = side_other l.sending channel s c v w d

      pub receiving_other : (r : Receiving) → receiving_of (with_receiving l channel r) c ≡ receiving_of l c
      receiving_other r = side_other l.receiving channel r c v w d

-- A message put into the slot of a place of the window.
module _ (l : Line) (part : List ℕ) (long : part_length l ≤ length part) (w : Way) (channel : ℕ) (v : reliable channel ≡ true) where
  abbrev own : Side
  own = record { way = w; channel = channel }

  in_part : slot_at (region_of l w channel) (slot_count l w channel) ≤ length part
  in_part = omega (arith, region_end l own (side_served w channel v))

  -- each slot holds the largest message
  pub slots_hold : SlotsHold (slot_count l w channel) (slot_size l w) (slots_of l part w channel)
  slots_hold p q = omega (arith, slot_length part (region_of l w channel) (slot_count l w channel) in_part p q)

  module _ (p : ℕ) (x : Message) (near : p < slot_count l w channel) (fits : length x ≤ slot_size l w) where
    abbrev after : List ℕ
    after = sets part (slot_at (region_of l w channel) p) x

    -- it lies there, and the channel's other slots stay
    pub put_here : PutAt (slot_count l w channel) (slots_of l part w channel) (slots_of l after w channel) p x
    put_here =
        record {
          here = slot_put part (region_of l w channel) (slot_count l w channel) in_part p x near fits;
          others = λ q h d. slot_kept part (region_of l w channel) (slot_count l w channel) in_part p x near fits q d;
        }

    -- the slots of the other way and of the other channel stay
    pub put_apart : (y : Side) → Served y → own ≢ y → SameSlots l y.way y.channel part after
    put_apart y s d q h =
        region_kept part (region_of l w channel) (slot_count l w channel) in_part p x near fits (region_of l y.way y.channel) (slot_count l y.way y.channel)
        (regions_apart l own y (side_served w channel v) s d) q h
