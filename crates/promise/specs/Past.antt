-- What has become of a line at one gateway, as its calls told: the messages taken and handed out, and the packets written. A message is
-- counted by its full number: message n of a channel is the n-th taken there, from 0. A packet carries only 14 bits of it.
-- Assumes nothing.
use Rattle.std.specs.Prelude.{ℕ, ◌%◌, Bool, true, false, ◌&&◌, ◌||◌, List, [], ◌∷◌, ◌++◌, eqb, leb, length, drop}
use Rattle.ground.specs.Pick.{pick}
use Rattle.channel.specs.Channel.{modulus}
use Rattle.flow.specs.Flow.{Message}

-- a message: its channel, and its number there
pub record Mark : Type 0 where
  pub channel : ℕ
  pub number : ℕ

-- a packet that was written: its octets, "any message it carries, acknowledges or names as base"
pub record Packet : Type 0 where
  pub octets : List ℕ
  pub carries : List Mark
  pub names : List Mark
  pub acks : List Mark

pub record Past : Type 0 where
  -- the line was opened
  pub opened : Bool
  -- by channel: "the messages taken for sending", and "those handed out", in order
  pub taken : ℕ → List Message
  pub handed : ℕ → List Message
  -- the packets written since the opening, the last one first
  pub wrote : List Packet
  -- the owed acknowledgements, each for the arrival that it stands for
  pub owes : List Mark
  -- the messages that arrived
  pub came : List Mark

-- nothing has become of the line yet
abbrev pub nothing_yet : Past
nothing_yet = record { opened = false; taken = λ c. []; handed = λ c. []; wrote = []; owes = []; came = [] }

abbrev pub just_opened : Past
just_opened = record { opened = true; taken = λ c. []; handed = λ c. []; wrote = []; owes = []; came = [] }

-- one more message of the channel
abbrev pub more : (ℕ → List Message) → ℕ → Message → ℕ → List Message
more f channel m c = pick (eqb c channel) (f c ++ (m ∷ [])) (f c)

abbrev pub took_past : Past → ℕ → Message → Past
took_past p channel m = record { opened = p.opened; taken = more p.taken channel m; handed = p.handed; wrote = p.wrote; owes = p.owes; came = p.came }

abbrev pub handed_past : Past → ℕ → Message → Past
handed_past p channel m = record { opened = p.opened; taken = p.taken; handed = more p.handed channel m; wrote = p.wrote; owes = p.owes; came = p.came }

-- a packet is written: it takes the first three owed numbers along
abbrev pub wrote_past : Past → Packet → Past
wrote_past p k = record { opened = p.opened; taken = p.taken; handed = p.handed; wrote = k ∷ p.wrote; owes = drop 3 p.owes; came = p.came }

-- two numbers are one in their 14 bits
abbrev pub alike : Mark → Mark → Bool
alike a b = eqb a.channel b.channel && eqb (a.number % modulus) (b.number % modulus)

unfoldable pub there : Mark → List Mark → Bool
there m [] = false
there m (x ∷ xs) = alike x m || there m xs

-- an owed number that is there already stands from now on for the later arrival
unfoldable pub renewed : Mark → List Mark → List Mark
renewed m [] = []
renewed m (x ∷ xs) = pick (alike x m) (m ∷ xs) (x ∷ renewed m xs)

-- "the number enters the list of owed acknowledgements unless it is there already or the list has 64 entries"
unfoldable pub enter : List Mark → Mark → List Mark
enter l m = pick (there m l) (renewed m l) (pick (leb 64 (length l)) l (l ++ (m ∷ [])))

unfoldable pub enter_all : List Mark → List Mark → List Mark
enter_all l [] = l
enter_all l (m ∷ ms) = enter_all (enter l m) ms

-- a packet arrives
abbrev pub heard_past : Past → Packet → Past
heard_past p k = record { opened = p.opened; taken = p.taken; handed = p.handed; wrote = p.wrote; owes = enter_all p.owes k.carries; came = k.carries ++ p.came }
