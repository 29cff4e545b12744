-- A message comes, and is stored, is there already or is old: in all three cases the invariant is kept, and the message has come.
-- Assumes nothing.
use Prim.Native.Nat.{ℕ, ◌+◌, ◌%◌, ◌≤◌, ◌<◌}
use mathlib.Core.Path.{◌≡◌, refl, sym, ap, subst, ◌∙◌}
use mathlib.Core.Bool.{true}
use mathlib.Core.List.{List, ◌∷◌}
use mathlib.Core.Logic.{◌≢◌}
use native.Mathlib.Omega.{arith}
use lib.ListN.{length}
use borrow.Author.Tests.{lt-ltb, le-leb}
use Rattle.field.specs.Word.{word_of}
use Rattle.channel.specs.Channel.{modulus}
use Rattle.channel.specs.Sizes.{message_fits}
use Rattle.receiving.specs.Receiving.{arrival_of, arrival_place, arrived_as}
use Rattle.receiving.specs.declared.Receiving.{Receiving}
use Rattle.receiving.specs.declared.Arrival.{Arrival}
use Rattle.receiving.specs.declared.Arrival.TheVariants.{Stored, There, Old}
use Rattle.flow.proofs.Keeps.{receiving_sized}
use Rattle.flow.specs.Flow.{Message, Receives, first_stays, PayloadMove, Data, Grows, Have}
use Rattle.flow.specs.View.{receives, PutAs}
use Rattle.flow.proofs.Fields.{arrival_field}
use Rattle.flow.proofs.Flows.{none_or, data_full, arrived_grows, arrived_have, arrive_flow}
use Rattle.flow.proofs.Moves.{arrived_moves}
use Rattle.owed.specs.Owed.{enters}
use Rattle.owed.proofs.Steps.{entered_list}
use Rattle.line.specs.Figures.{receive_window, receive_largest}
use Rattle.line.specs.Part.{part_length, region_of}
use Rattle.line.proofs.Part.{Side, Served}
use Rattle.relay.proofs.Lines.{side_served}
use Rattle.line.specs.Line.{sending_of, receiving_of}
use Rattle.line.specs.declared.Line.{Line}
use Rattle.line.proofs.Shape.{receiving_long}
use Rattle.store.specs.declared.Way.TheVariants as way
use Rattle.relay.specs.RelayTests.{reliable}
use Rattle.arriving.specs.Effect.{Relaying, owing_line, arrival_at, stored_line, put_as, stored_part}
use Rattle.channel.proofs.Windows.{window_narrow}
use Rattle.arriving.proofs.Effects.{stored_near, place_near}
use Rattle.arriving.proofs.StepsStay.{stored_stays}
use Rattle.arriving.proofs.Keeps.{stored_relaying, stored_shaped, stored_part_length}
use Rattle.promise.specs.Past.{enter}
use Rattle.promise.specs.Run.{also, bound}
use Rattle.promise.specs.Ends.{slots_of}
use Rattle.promise.proofs.Lists.{each_map}
use Rattle.promise.proofs.Views.{SameSlots, receiving_here, receiving_other, slots_hold, put_here, put_apart}
use Rattle.promise.specs.Notes.{HasCome, mark}
use Rattle.promise.proofs.Ends.{End, Joined, got, gets_ok, wide, flow_as}
use Rattle.promise.proofs.SendingAnew.{way_apart, channel_apart}
use Rattle.promise.proofs.ReceivingAnew.{receiving_joined}
use Rattle.promise.proofs.OwedNumbers.{enter_words, each_enter}

-- the end that message n of a channel has come to, with octets x
abbrev pub after_storing : End → ℕ → ℕ → Message → End
after_storing e channel n x =
    record {
      line = stored_line e.line channel (n % modulus) (length x);
      part = stored_part e.line channel (n % modulus) x e.part;
      past = record { opened = e.past.opened; taken = e.past.taken; handed = e.past.handed; wrote = e.past.wrote; owes = enter e.past.owes (mark channel n); came = mark channel n ∷ e.past.came };
    }

-- "the message is stored, unless that place is already filled"; an old one "is not stored": what the store has then
module _ {e f : End} (k : Relaying e.line) (j : Joined e f) (channel : ℕ) (v : reliable channel ≡ true) (x : Message) (small : length x ≤ receive_largest e.line) where
  abbrev l : Line
  l = e.line

  abbrev w : ℕ
  w = receive_window l channel

  abbrev r : Receiving
  r = receiving_of l channel

  abbrev put : Arrival → List ℕ
  put a = put_as w r (region_of l way.Receiving channel) a x e.part

  abbrev Near : Arrival → Type 0
  Near a = (d : ℕ) → a ≡ Stored d → d < w

  put_slots : (a : Arrival) → Near a → PutAs w r a (slots_of l e.part way.Receiving channel) (slots_of l (put a) way.Receiving channel) x
  put_slots (Stored d) near = put_here l e.part j.mine.long way.Receiving channel v (arrival_place w r d) x (place_near l k channel (near d refl)) small
  put_slots There near = refl
  put_slots Old near = refl

  put_others : (a : Arrival) → Near a → (y : Side) → Served y → ◌≢◌ {A = Side} (record { way = way.Receiving; channel = channel }) y
      → SameSlots l y.way y.channel e.part (put a)
  put_others (Stored d) near y s b = put_apart l e.part j.mine.long way.Receiving channel v (arrival_place w r d) x (place_near l k channel (near d refl)) small y s b
  put_others There near y s b = λ p q. refl
  put_others Old near y s b = λ p q. refl

  module _ (n : ℕ) where
    abbrev a : Arrival
    a = arrival_at l channel (n % modulus)

    abbrev new : Receives
    new = receives w (slots_of l (put a) way.Receiving channel) (arrived_as w r a (length x))

    near : Near a
    near d q = stored_near w r (n % modulus) q

    side : got (after_storing e channel n x) channel ≡ new
    unfolding stored_line stored_part
    side = ap (receives w (slots_of l (put a) way.Receiving channel)) (receiving_here (owing_line l channel (n % modulus)) channel (arrived_as w r a (length x)))

    -- it comes under its full number, if that is one of the last `bound` below S, for any S from R to a window past it
    comes : (S : ℕ) → r.next ≤ S → S ≤ r.next + w → n < S → S ≤ n + bound → PayloadMove (got e channel) new n x
    comes S mid high below fresh =
        rw (arrival_field w r n) (arrived_moves w (slots_of l e.part way.Receiving channel) r (gets_ok j.mine.sides channel) (receive_largest l) bound S
        (wide channel) mid high (receiving_sized w (receive_largest l) r (j.mine.sides.receiving channel))
        (slots_hold l e.part j.mine.long way.Receiving channel v) (slots_of l (put (arrival_of w r n)) way.Receiving channel) n x
        below fresh (omega (arith, receiving_long l j.mine.shaped channel, window_narrow channel))
        (put_slots (arrival_of w r n) (λ d q. stored_near w r n q)))

    -- so it does if it is not taken yet, and the window has room for it: whatever it is, it is stored as that message
    pub stored_ahead : (sending_of f.line channel).taken ≤ n → n < r.next + w → (got (after_storing e channel n x) channel).stored n ≡ x
    stored_ahead ahead room =
        let b = j.back channel v in
        let free = none_or ((got e channel).stored n) (λ u. u) (λ u. absurd (omega (arith, ahead, (b.keeps n (omega (arith, ahead, b.mid)) u).0))) in
        ap (λ (y : Receives). y.stored n) side
        ∙ (comes (r.next + w) (omega arith) (omega arith) room (omega (arith, ahead, b.mid, window_narrow channel))).here (omega (arith, ahead, b.mid))
        ∙ ap (λ (y : Message). first_stays y x) free

  module _ (n : ℕ) (there : Data (f.past.taken channel) n x) (fresh : length (f.past.taken channel) ≤ n + bound) where
    move : PayloadMove (got e channel) (new n) n x
    move = let b = j.back channel v in comes n (sending_of f.line channel).taken b.mid (omega (arith, b.low, b.high)) (omega (arith, there.known, b.count)) (omega (arith, fresh, b.count))

    -- so every list of what has come stays true, and the message is one of them
    more : Grows (got e channel) (got (after_storing e channel n x) channel)
    more = subst (Grows (got e channel)) (sym (side n)) (arrived_grows (got e channel) (new n) n x move)

    has : HasCome (got (after_storing e channel n x)) (mark channel n)
    has = record { served = v; have = subst (λ (y : Receives). Have y n) (sym (side n)) (arrived_have (got e channel) (new n) n x move (data_full (j.back channel v) there)) }

    long : part_length l ≤ length (stored_part l channel (n % modulus) x e.part)
    long = omega (arith, j.mine.long, stored_part_length l channel (n % modulus) x e.part)

    pub storing_joined : 0 < length x → Joined (after_storing e channel n x) f
    unfolding stored_line stored_part
    storing_joined some =
        let number = n % modulus in
        let few : number < 16384 = omega arith in
        let fits : message_fits (receive_largest l) (length x) ≡ true = rw (lt-ltb 0 (length x) some, le-leb (length x) (receive_largest l) small) in
        let next = arrived_as w r (a n) (length x) in
        let q = stored_stays l channel number (length x) in
        receiving_joined j channel (stored_line l channel number (length x)) (put (a n)) e.past.handed (enter e.past.owes (mark channel n)) (mark channel n ∷ e.past.came)
        k.opened k.inside q
        ((stored_relaying l k j.mine.shaped channel number v few (length x) fits).fits, stored_shaped l j.mine.shaped channel number (length x))
        long
        (λ c. refl) (λ c u d. receiving_other (owing_line l channel number) channel c v u d next)
        (λ c u. put_others (a n) (near n) (record { way = way.Sending; channel = c }) (side_served way.Sending c u) (λ g. way_apart (sym g)))
        (λ c u d. put_others (a n) (near n) (record { way = way.Receiving; channel = c }) (side_served way.Receiving c u) (channel_apart d))
        (λ c d. refl)
        (entered_list l.owed (word_of channel number) ∙ ap (λ (ws : List ℕ). enters ws (word_of channel number)) j.mine.owed ∙ enter_words e.past.owes (mark channel n))
        (λ g. (each_enter (mark channel n) has (each_map g j.mine.owes), also has (each_map g j.mine.came)))
        more
        (flow_as refl (side n) refl refl (arrive_flow (j.back channel v) (new n) n x there move))
