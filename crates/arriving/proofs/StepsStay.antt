-- What the steps of an arrival leave as it was: settings and modes in every case; the receiving sides and what is owed too, where
-- only a base or acknowledgements come.
-- Assumes nothing.
use Prim.Native.Nat.{ℕ}
use mathlib.Core.Path.{◌≡◌, refl, ◌∙◌}
use mathlib.Core.List.{List, [], ◌∷◌}
use Rattle.ground.proofs.Picks.{pick_by}
use Rattle.field.specs.Word.{channel_of, number_of}
use Rattle.sending.specs.Sending.{heard_base, acked_by}
use Rattle.receiving.specs.Receiving.{arrived_as}
use Rattle.sending.specs.declared.Sending.{Sending}
use Rattle.line.specs.Line.{sending_of, receiving_of, with_sending}
use Rattle.line.specs.Figures.{send_window, receive_window}
use Rattle.line.specs.declared.Line.{Line}
use Rattle.line.proofs.Same.{SameSettings, none_same, then_same, with_sending_same, with_receiving_same, with_owed_same}
use Rattle.relay.specs.RelayTests.{reliable}
use Rattle.arriving.specs.Effect.{heard_line, acked_line, acked_all, owing_line, arrival_at, stored_line}

pub record NewsOnly (l m : Line) : Type 0 where
  pub stays : SameSettings l m
  pub receiving1 : m.receiving.one ≡ l.receiving.one
  pub receiving2 : m.receiving.two ≡ l.receiving.two
  pub owed : m.owed ≡ l.owed

none_news : (l : Line) → NewsOnly l l
none_news l = record { stays = none_same l; receiving1 = refl; receiving2 = refl; owed = refl }

-- one step after another
pub then_news : {l m n : Line} → NewsOnly l m → NewsOnly m n → NewsOnly l n
then_news a b =
    record {
      stays = then_same a.stays b.stays;
      receiving1 = b.receiving1 ∙ a.receiving1;
      receiving2 = b.receiving2 ∙ a.receiving2;
      owed = b.owed ∙ a.owed;
    }

module _ (l : Line) where
  pub sent_news : (channel : ℕ) (s : Sending) → NewsOnly l (with_sending l channel s)
  sent_news channel s = record { stays = with_sending_same l channel s; receiving1 = refl; receiving2 = refl; owed = refl }

  pub heard_news : (channel base : ℕ) → NewsOnly l (heard_line l channel base)
  unfolding heard_line
  heard_news channel base = pick_by (NewsOnly l) (reliable channel) (λ _. sent_news channel (heard_base (send_window l channel) (sending_of l channel) base)) (λ _. none_news l)

  pub acked_news : (word : ℕ) → NewsOnly l (acked_line l word)
  unfolding acked_line
  acked_news word = sent_news (channel_of word) (acked_by (sending_of l (channel_of word)) (number_of word))

  pub stored_stays : (channel number size : ℕ) → SameSettings l (stored_line l channel number size)
  unfolding stored_line
  stored_stays channel number size =
      then_same (with_owed_same l (owing_line l channel number).owed)
      (with_receiving_same (owing_line l channel number) channel (arrived_as (receive_window l channel) (receiving_of l channel) (arrival_at l channel number) size))

pub all_news : (words : List ℕ) (l : Line) → NewsOnly l (acked_all l words)
unfolding acked_all
all_news [] l = none_news l
all_news (word ∷ words) l = then_news (acked_news l word) (all_news words (acked_line l word))
