-- Two records of one line that has been neither opened nor closed between them; and two of one that has not changed its modes either.
-- Assumes nothing.
use Prim.Native.Nat.{ℕ}
use mathlib.Core.Path.{◌≡◌, refl, ◌∙◌}
use lib.Dec.{eqb}
use Rattle.ground.specs.Pick.{pick}
use Rattle.sending.specs.Sending.{fresh_sending, emptied_sending}
use Rattle.sending.specs.declared.Sending.{Sending}
use Rattle.receiving.specs.Receiving.{fresh_receiving, emptied_receiving}
use Rattle.receiving.specs.declared.Receiving.{Receiving}
use Rattle.owed.specs.Owed.{fresh_owed}
use Rattle.owed.specs.declared.Owed.{Owed}
use Rattle.mode.specs.declared.Modes.{Modes}
use Rattle.mode.specs.declared.Channels.{Channels}
use Rattle.mode.specs.declared.Channels.TheVariants.{Stay, Fresh, Emptied}
use Rattle.line.specs.Line.{is_open, with_parts, with_sending, with_receiving, with_owed}
use Rattle.line.specs.Mode.{stepped_to}
use Rattle.line.specs.Part.{region_of}
use Rattle.line.specs.declared.Line.{Line}
use Rattle.store.specs.declared.Way.{Way}
use Rattle.store.specs.declared.Way.TheVariants as way

-- whether a line is open and what opening named are the same of both. A field of a line that opening names and that stays until the line is
-- closed has its place here, and what is said of records with the same opening holds of it then
pub record SameOpening (l k : Line) : Type 0 where
  pub opened : is_open k ≡ is_open l
  pub identifier : k.identifier ≡ l.identifier
  pub kind : k.kind ≡ l.kind

-- and so are its modes
pub record SameSettings (l k : Line) : Type 0 where
  pub opening : SameOpening l k
  pub modes : k.modes ≡ l.modes

-- no modes, no side and no owed list have a part in what opening named
pub same_opening : (l : Line) (m : Modes) (s t : Sending) (q r : Receiving) (o : Owed) → SameOpening l (with_parts l m s t q r o)
same_opening l m s t q r o = record { opened = refl; identifier = refl; kind = refl }

-- so a change of mode leaves it
pub stepped_opening : (l : Line) (m : Modes) (c : Channels) → SameOpening l (stepped_to l m c)
unfolding stepped_to
stepped_opening l m Stay = same_opening l m l.sending.one l.sending.two l.receiving.one l.receiving.two l.owed
stepped_opening l m Fresh = same_opening l m fresh_sending fresh_sending fresh_receiving fresh_receiving fresh_owed
stepped_opening l m Emptied = same_opening l m (emptied_sending l.sending.one) (emptied_sending l.sending.two) (emptied_receiving l.receiving.one) (emptied_receiving l.receiving.two) fresh_owed

then_opening : {l m n : Line} → SameOpening l m → SameOpening m n → SameOpening l n
then_opening a b = record { opened = b.opened ∙ a.opened; identifier = b.identifier ∙ a.identifier; kind = b.kind ∙ a.kind }

-- the line with its own modes, whatever its sides and what it owes
parts_same : (l : Line) (s t : Sending) (q r : Receiving) (o : Owed) → SameSettings l (with_parts l l.modes s t q r o)
parts_same l s t q r o = record { opening = same_opening l l.modes s t q r o; modes = refl }

pub none_same : (l : Line) → SameSettings l l
none_same l = parts_same l l.sending.one l.sending.two l.receiving.one l.receiving.two l.owed

-- so their slots lie alike
pub region_same : {l m : Line} → SameSettings l m → (way : Way) (channel : ℕ) → region_of m way channel ≡ region_of l way channel
region_same {l} {m} e way.Sending channel = refl
region_same {l} {m} e way.Receiving channel = refl

-- one step after another
pub then_same : {l m n : Line} → SameSettings l m → SameSettings m n → SameSettings l n
then_same a b = record { opening = then_opening a.opening b.opening; modes = b.modes ∙ a.modes }

module _ (l : Line) where
  pub with_sending_same : (channel : ℕ) (s : Sending) → SameSettings l (with_sending l channel s)
  with_sending_same channel s = parts_same l (pick (eqb channel 1) s l.sending.one) (pick (eqb channel 1) l.sending.two s) l.receiving.one l.receiving.two l.owed

  pub with_receiving_same : (channel : ℕ) (r : Receiving) → SameSettings l (with_receiving l channel r)
  with_receiving_same channel r = parts_same l l.sending.one l.sending.two (pick (eqb channel 1) r l.receiving.one) (pick (eqb channel 1) l.receiving.two r) l.owed

  pub with_owed_same : (o : Owed) → SameSettings l (with_owed l o)
  with_owed_same o = parts_same l l.sending.one l.sending.two l.receiving.one l.receiving.two o
