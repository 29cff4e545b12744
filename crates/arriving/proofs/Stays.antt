-- What an arriving packet leaves as it was: settings and modes in every case; base and acknowledgements leave the receiving sides too.
-- Assumes nothing.
use Prim.Native.Nat.{ℕ}
use mathlib.Core.Path.{◌≡◌}
use mathlib.Core.List.{List}
use lib.Dec.{eqb}
use lib.ListN.{length}
use Rattle.ground.specs.Pick.{pick}
use Rattle.ground.proofs.Picks.{pick_by}
use Rattle.packet.specs.Acks.{ack_list}
use Rattle.packet.specs.Read.{head_at, acks_at, payload_of}
use Rattle.receiving.specs.Receiving.{arrival_of}
use Rattle.line.specs.Line.{receiving_of}
use Rattle.line.specs.Figures.{receive_window}
use Rattle.line.specs.declared.Line.{Line}
use Rattle.line.proofs.Same.{SameSettings, region_same, then_same}
use Rattle.store.specs.declared.Way.TheVariants as way
use Rattle.arriving.specs.Effect.{heard_line, put_as, stored_part}
use Rattle.arriving.specs.Arrive.{news_line, carries, arrived_line}
use Rattle.arriving.proofs.StepsStay.{NewsOnly, then_news, heard_news, stored_stays, all_news}

module _ (l : Line) (s : List ℕ) where
  pub news_only : NewsOnly l (news_line l s)
  unfolding news_line
  news_only = then_news (heard_news l (head_at s).channel (head_at s).base) (all_news (ack_list (acks_at s)) (heard_line l (head_at s).channel (head_at s).base))

  -- so what becomes of a payload can be read off the line as it was
  pub news_receiving : (channel : ℕ) → receiving_of (news_line l s) channel ≡ receiving_of l channel
  news_receiving channel = λ i. pick (eqb channel 1) (news_only.receiving1 i) (news_only.receiving2 i)

  pub news_part : (channel number : ℕ) (message part : List ℕ) → stored_part (news_line l s) channel number message part ≡ stored_part l channel number message part
  unfolding stored_part
  news_part channel number message part =
      λ i. put_as (receive_window l channel) (news_receiving channel i) (region_same news_only.stays way.Receiving channel i) (arrival_of (receive_window l channel) (news_receiving channel i) number) message part

  pub arrived_stays : SameSettings l (arrived_line l s)
  unfolding arrived_line
  arrived_stays =
      pick_by (SameSettings l) (carries s)
      (λ _. then_same news_only.stays (stored_stays (news_line l s) (head_at s).channel (head_at s).number (length (payload_of s))))
      (λ _. news_only.stays)
