-- What a base, an acknowledgement and a payload do to the line at which they arrive, and to its part of the store.
-- Assumes nothing.
use Rattle.std.specs.Prelude.{ℕ, ◌≡◌, true, List, [], ◌∷◌}
use Rattle.std.proofs.lemmas.List.Edits.{sets}
use Rattle.ground.specs.Pick.{pick}
use Rattle.field.specs.Word.{channel_of, number_of, word_of}
use Rattle.sending.specs.Sending.{heard_base, acked_by}
use Rattle.receiving.specs.Receiving.{arrival_of, arrival_place, arrived_as}
use Rattle.receiving.specs.declared.Receiving.{Receiving}
use Rattle.receiving.specs.declared.Arrival.{Arrival}
use Rattle.receiving.specs.declared.Arrival.TheVariants.{Stored, There, Old}
use Rattle.mode.specs.Given.{modem}
use Rattle.owed.specs.Owed.{entered}
use Rattle.line.specs.Line.{is_open, sending_of, with_sending, receiving_of, with_receiving, with_owed}
use Rattle.line.specs.Fit.{line_fits}
use Rattle.line.specs.Figures.{send_window, receive_window}
use Rattle.line.specs.Part.{region_of, region_in}
use Rattle.line.specs.declared.Line.{Line}
use Rattle.store.specs.Store.{slot_at}
use Rattle.store.specs.declared.Region.{Region}
use Rattle.store.specs.declared.Way.TheVariants as way
use Rattle.relay.specs.RelayTests.{reliable}

-- what each step asks of the line, and leaves so: it is open and in modem relay, and BOOK lets it pass
pub record Relaying (l : Line) : Type 0 where
  pub fits : line_fits l ≡ true
  pub opened : is_open l ≡ true
  pub inside : l.modes.local ≡ modem

-- "Base b against the last base heard h" (RULES 4.3), on a channel that is reliable; channel 0 has none (RULES 2.5)
unfoldable pub heard_line : Line → ℕ → ℕ → Line
heard_line l channel base = pick (reliable channel) (with_sending l channel (heard_base (send_window l channel) (sending_of l channel) base)) l

-- "An acknowledged number k on its channel" (RULES 4.5)
unfoldable pub acked_line : Line → ℕ → Line
acked_line l word = with_sending l (channel_of word) (acked_by (sending_of l (channel_of word)) (number_of word))

-- "acknowledgements as listed" (RULES 4.2)
unfoldable pub acked_all : Line → List ℕ → Line
acked_all l [] = l
acked_all l (word ∷ words) = acked_all (acked_line l word) words

-- "In all three cases the number enters the list of owed acknowledgements" (RULES 4.10)
abbrev pub owing_line : Line → ℕ → ℕ → Line
owing_line l channel number = with_owed l (entered l.owed (word_of channel number))

-- "Payload number n against the next to hand out R" (RULES 4.7)
abbrev pub arrival_at : Line → ℕ → ℕ → Arrival
arrival_at l channel number = arrival_of (receive_window l channel) (receiving_of l channel) number

-- the line once that message, of `size` octets, has come (RULES 4.7, RULES 4.10, RULES 4.12)
unfoldable pub stored_line : Line → ℕ → ℕ → ℕ → Line
stored_line l channel number size =
    with_receiving (owing_line l channel number) channel
    (arrived_as (receive_window l channel) (receiving_of l channel) (arrival_at l channel number) size)

-- "the message is stored" (RULES 4.7), "unless that place is already filled, in which case the first stays" (RULES 4.8); an old one "is
-- not stored" (RULES 4.9)
abbrev pub put_as : ℕ → Receiving → Region → Arrival → List ℕ → List ℕ → List ℕ
put_as w r g (Stored d) message part = sets part (slot_at g (arrival_place w r d)) message
put_as w r g There message part = part
put_as w r g Old message part = part

-- octets that have the region of its side, once that message has come (RULES 6.6)
abbrev stored_in : Region → Line → ℕ → ℕ → List ℕ → List ℕ → List ℕ
stored_in g l channel number message octets = put_as (receive_window l channel) (receiving_of l channel) g (arrival_at l channel number) message octets

-- the line's part of the store is such, and so is a store in which the part begins at `start`
unfoldable pub stored_part : Line → ℕ → ℕ → List ℕ → List ℕ → List ℕ
stored_part l channel number message part = stored_in (region_of l way.Receiving channel) l channel number message part

unfoldable pub stored_store : Line → ℕ → ℕ → ℕ → List ℕ → List ℕ → List ℕ
stored_store l start channel number message store = stored_in (region_in start l way.Receiving channel) l channel number message store
