-- Every step of a line keeps the lengths of its arrays.
-- Assumes nothing.
use Prim.Native.Nat.{ℕ}
use mathlib.Core.Path.{◌≡◌, refl}
use mathlib.Core.Bool.{Bool, true, false}
use lib.Dec.{eqb}
use lib.ListN.{length}
use Rattle.ground.specs.Pick.{pick}
use Rattle.places.specs.Places.{widest}
use Rattle.sending.specs.Sending.{emptied_sending}
use Rattle.receiving.specs.Receiving.{emptied_receiving}
use Rattle.sending.specs.declared.Sending.{Sending}
use Rattle.receiving.specs.declared.Receiving.{Receiving}
use Rattle.mode.specs.declared.Modes.{Modes}
use Rattle.mode.specs.declared.Channels.{Channels}
use Rattle.mode.specs.declared.Channels.TheVariants.{Stay, Fresh, Emptied}
use Rattle.line.specs.Line.{closed_line, opened_line, sending_of, receiving_of, with_sending, with_receiving}
use Rattle.line.specs.Mode.{stepped_to}
use Rattle.line.specs.Shape.{Shaped}
use Rattle.line.specs.declared.Line.{Line}
use Rattle.line.specs.declared.Settings.{Settings}

pub closed_shaped : Shaped closed_line
closed_shaped = record { sending1 = refl; sending2 = refl; receiving1 = refl; receiving2 = refl }

pub opened_shaped : (s : Settings) (time : ℕ) → Shaped (opened_line s time)
opened_shaped s time = record { sending1 = refl; sending2 = refl; receiving1 = refl; receiving2 = refl }

module _ (l : Line) (k : Shaped l) where
  pub stepped_shaped : (m : Modes) (c : Channels) → Shaped (stepped_to l m c)
  unfolding stepped_to emptied_sending emptied_receiving
  stepped_shaped m Stay = record { sending1 = k.sending1; sending2 = k.sending2; receiving1 = k.receiving1; receiving2 = k.receiving2 }
  stepped_shaped m Fresh = record { sending1 = refl; sending2 = refl; receiving1 = refl; receiving2 = refl }
  stepped_shaped m Emptied = record { sending1 = k.sending1; sending2 = k.sending2; receiving1 = k.receiving1; receiving2 = k.receiving2 }

  pub sending_long : (channel : ℕ) → length (sending_of l channel).sizes ≡ widest
  sending_long channel = go (eqb channel 1)
    where
      go : (t : Bool) → length (pick {A = Sending} t l.sending.one l.sending.two).sizes ≡ widest
      go true = k.sending1
      go false = k.sending2

  pub receiving_long : (channel : ℕ) → length (receiving_of l channel).sizes ≡ widest
  receiving_long channel = go (eqb channel 1)
    where
      go : (t : Bool) → length (pick {A = Receiving} t l.receiving.one l.receiving.two).sizes ≡ widest
      go true = k.receiving1
      go false = k.receiving2

  pub with_sending_shaped : (channel : ℕ) (s : Sending) → length s.sizes ≡ widest → Shaped (with_sending l channel s)
  with_sending_shaped channel s e = let both = go (eqb channel 1) in record { sending1 = both.0; sending2 = both.1; receiving1 = k.receiving1; receiving2 = k.receiving2 }
    where
      go : (t : Bool) → (length (pick {A = Sending} t s l.sending.one).sizes ≡ widest) × (length (pick {A = Sending} t l.sending.two s).sizes ≡ widest)
      go true = (e, k.sending2)
      go false = (k.sending1, e)

  pub with_receiving_shaped : (channel : ℕ) (r : Receiving) → length r.sizes ≡ widest → Shaped (with_receiving l channel r)
  with_receiving_shaped channel r e = let both = go (eqb channel 1) in record { sending1 = k.sending1; sending2 = k.sending2; receiving1 = both.0; receiving2 = both.1 }
    where
      go : (t : Bool) → (length (pick {A = Receiving} t r l.receiving.one).sizes ≡ widest) × (length (pick {A = Receiving} t l.receiving.two r).sizes ≡ widest)
      go true = (e, k.receiving2)
      go false = (k.receiving1, e)
