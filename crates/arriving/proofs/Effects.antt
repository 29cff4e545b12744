-- What an open line in modem relay gives to each step of an arrival; base and acknowledgements leave it so.
-- Assumes nothing.
use Prim.Native.Nat.{ℕ, ◌-◌, ◌≤◌, ◌<◌}
use mathlib.Core.Path.{◌≡◌, refl, sym, ap, subst, ◌∙◌}
use mathlib.Core.Bool.{Bool, true, false}
use mathlib.Core.List.{List, [], ◌∷◌}
use native.Mathlib.Omega.{arith}
use lib.Dec.{eqb}
use Rattle.ground.specs.Pick.{pick}
use Rattle.ground.proofs.Picks.{pick_by, pick_lt}
use Rattle.field.specs.Word.{channel_of, number_of}
use Rattle.places.specs.Places.{mask_of, widest, bit_of}
use Rattle.channel.specs.Distance.{dist}
use Rattle.sending.specs.Sending.{SendingOk, heard_base, acked_by, sending_fits}
use Rattle.receiving.specs.Receiving.{ReceivingOk, arrival_of, arrival_place, arrived_as}
use Rattle.sending.specs.declared.Sending.{Sending}
use Rattle.receiving.specs.declared.Receiving.{Receiving}
use Rattle.receiving.specs.declared.Arrival.{Arrival}
use Rattle.receiving.specs.declared.Arrival.TheVariants.{Stored}
use Rattle.flow.proofs.Keeps.{sending_ok, receiving_ok, heard_keeps, acked_keeps}
use Rattle.channel.proofs.Distances.{place_lt}
use Rattle.channel.proofs.Windows.{window_narrow}
use Rattle.owed.proofs.Steps.{owed_ok}
use Rattle.mode.specs.declared.Modes.{Modes}
use Rattle.line.specs.Line.{sending_of, receiving_of, with_parts, with_sending, with_receiving}
use Rattle.line.specs.Figures.{send_window, receive_window, send_largest, receive_largest}
use Rattle.line.specs.declared.Line.{Line}
use Rattle.line.proofs.Keeps.{LineOk, line_ok, ok_line, sending_side, receiving_side, with_sending_ok}
use Rattle.line.specs.Part.{region_of}
use Rattle.store.specs.declared.Way.TheVariants as way
use Rattle.relay.specs.RelayTests.{reliable}
use Rattle.arriving.proofs.StepsStay.{sent_news}
use Rattle.arriving.specs.Effect.{Relaying, heard_line, acked_line, acked_all, owing_line, arrival_at, stored_line, put_as, stored_part}

-- a message that is stored lies in the window
pub stored_near : (w : ℕ) (r : Receiving) (n : ℕ) {d : ℕ} → arrival_of w r n ≡ Stored d → d < w
unfolding arrival_of
stored_near w r n {d} =
    pick_lt (λ (a : Arrival). a ≡ Stored d → d < w) (dist n r.next) w
    (λ q. pick_by (λ (a : Arrival). a ≡ Stored d → d < w) (bit_of (mask_of r.stored) (dist n r.next))
    (λ _ e. absurd (let z : ◌≡◌ {A = ℕ} 0 1 = cc in omega arith))
    (λ _ e. let same : dist n r.next ≡ d = cc in subst (λ (m : ℕ). m < w) same q))
    (λ _ e. absurd (let z : ◌≡◌ {A = ℕ} 0 1 = cc in omega arith))

module _ (l : Line) (k : Relaying l) where
  pub ok : LineOk l
  ok = line_ok l k.opened k.fits

  pub owes : l.owed.count ≤ 64
  owes = (owed_ok l.owed ok.owed).few

  module _ (channel : ℕ) where
    pub sending_steps : SendingOk (send_window l channel) (sending_of l channel)
    sending_steps = sending_ok (send_window l channel) (send_largest l) (sending_of l channel) (window_narrow channel) (sending_side l ok k.inside channel)

    pub sending_spans : ((sending_of l channel).base ≤ (sending_of l channel).taken) × ((sending_of l channel).taken - (sending_of l channel).base ≤ widest)
    sending_spans = (sending_steps.ordered, omega (arith, sending_steps.windowed, window_narrow channel))

    pub receiving_steps : ReceivingOk (receive_window l channel) (receiving_of l channel)
    receiving_steps = receiving_ok (receive_window l channel) (receive_largest l) (receiving_of l channel) (window_narrow channel) (receiving_side l ok k.inside channel)

    -- with another sending side that BOOK lets pass
    sent : (s : Sending) → sending_fits (send_window l channel) (send_largest l) s ≡ true → Relaying (with_sending l channel s)
    sent s f =
        let n = (sent_news l channel s).stays in
        record {
          fits = ok_line (with_sending l channel s) (with_sending_ok l ok k.inside channel s f);
          opened = n.opening.opened ∙ k.opened;
          inside = ap (λ (m : Modes). m.local) n.modes ∙ k.inside;
        }

  -- the place of a message in the window
  pub place_near : (channel : ℕ) {d : ℕ} → d < receive_window l channel → arrival_place (receive_window l channel) (receiving_of l channel) d < receive_window l channel
  place_near channel {d} q = place_lt (receive_window l channel) (receiving_of l channel).origin d (receiving_steps channel).placed (omega arith)

  -- a base and an acknowledgement leave a line in modem relay
  pub heard_relaying : (channel base : ℕ) → Relaying (heard_line l channel base)
  unfolding heard_line
  heard_relaying channel base =
      pick_by Relaying (reliable channel)
      (λ _. sent channel (heard_base (send_window l channel) (sending_of l channel) base) (heard_keeps (send_window l channel) (send_largest l) (window_narrow channel) (sending_of l channel) (sending_side l ok k.inside channel) base))
      (λ _. k)

  pub acked_relaying : (word : ℕ) → Relaying (acked_line l word)
  unfolding acked_line
  acked_relaying word =
      let channel : ℕ = channel_of word in
      sent channel (acked_by (sending_of l channel) (number_of word)) (acked_keeps (send_window l channel) (send_largest l) (window_narrow channel) (sending_of l channel) (sending_side l ok k.inside channel) (number_of word))

pub all_relaying : (words : List ℕ) (l : Line) → Relaying l → Relaying (acked_all l words)
unfolding acked_all
all_relaying [] l k = k
all_relaying (word ∷ words) l k = all_relaying words (acked_line l word) (acked_relaying l k word)

-- what becomes of a message that comes, in whichever of the three cases it is
module _ (l : Line) (channel number : ℕ) where
  -- one that is not stored leaves its side as it was
  pub same_side : with_receiving (owing_line l channel number) channel (receiving_of l channel) ≡ owing_line l channel number
  same_side = λ i. with_parts (owing_line l channel number) l.modes l.sending.one l.sending.two (first (eqb channel 1) i) (second (eqb channel 1) i) (owing_line l channel number).owed
    where
      first : (t : Bool) → pick t (pick t l.receiving.one l.receiving.two) l.receiving.one ≡ l.receiving.one
      first true = refl
      first false = refl

      second : (t : Bool) → pick t l.receiving.two (pick t l.receiving.one l.receiving.two) ≡ l.receiving.two
      second true = refl
      second false = refl

  module _ {a : Arrival} (e : arrival_at l channel number ≡ a) where
    pub stored_line_lem : (size : ℕ) → with_receiving (owing_line l channel number) channel (arrived_as (receive_window l channel) (receiving_of l channel) a size) ≡ stored_line l channel number size
    unfolding stored_line
    stored_line_lem size = ap (λ (x : Arrival). with_receiving (owing_line l channel number) channel (arrived_as (receive_window l channel) (receiving_of l channel) x size)) (sym e)

    pub stored_part_lem : (message part : List ℕ) → put_as (receive_window l channel) (receiving_of l channel) (region_of l way.Receiving channel) a message part ≡ stored_part l channel number message part
    unfolding stored_part
    stored_part_lem message part = ap (λ (x : Arrival). put_as (receive_window l channel) (receiving_of l channel) (region_of l way.Receiving channel) x message part) (sym e)
