-- RUNS AS WIDE AS THE WORDS: "Packets may be lost, repeated or reordered". A premise that let in less, the last packet written alone for instance,
-- would leave every promise proved and say little. What is shown here of the messages that packets carry excludes it.
-- Assumes nothing.
use Rattle.std.specs.Prelude.{ℕ, ◌≤◌, ◌≡◌, List, [], ◌∷◌, map, length}
use Rattle.channel.specs.Channel.{largest}
use Rattle.flow.specs.Flow.{Message}
use Rattle.promise.specs.Past.{Packet, Past}
use Rattle.promise.specs.Run.{Gateway}
use Rattle.promise.specs.Ours.{Run}
use Rattle.promise.specs.Notes.{mark}

-- a message that may be taken
abbrev pub Sized : Message → Type 0
Sized m = (1 ≤ length m) × (length m ≤ largest)

-- A run from line i to line j in which the messages ms are taken on the channel, packets are written that carry those of the numbers `sent`, packets
-- arrive that carry those of the numbers `arrived`, and all of ms is handed out. Of `sent` and `arrived` the last stands first, as in a past.
pub record Passing (i j identifier kind channel : ℕ) (ms : List Message) (sent arrived : List ℕ) : Type 0 where
  pub here : Gateway
  pub mine : Past
  pub there : Gateway
  pub yours : Past
  pub run : Run i j identifier kind here mine there yours
  pub taken : mine.taken channel ≡ ms
  pub wrote : map (λ (k : Packet). k.carries) mine.wrote ≡ map (λ (n : ℕ). mark channel n ∷ []) sent
  pub came : yours.came ≡ map (mark channel) arrived
  pub handed : yours.handed channel ≡ ms

-- Two messages, 0 and 1, pass.
module _ (i j identifier kind channel : ℕ) (m n : Message) where
  -- "lost": messages 0 and 1 are written, and 0 once more; of the two packets with message 0 one arrives, after that with message 1
  abbrev pub Losing : Type 0
  Losing = Passing i j identifier kind channel (m ∷ n ∷ []) (0 ∷ 1 ∷ 0 ∷ []) (0 ∷ 1 ∷ [])

  -- "repeated": each is written once, and the packet with message 0 arrives before and after that with message 1
  abbrev pub Repeating : Type 0
  Repeating = Passing i j identifier kind channel (m ∷ n ∷ []) (1 ∷ 0 ∷ []) (0 ∷ 1 ∷ 0 ∷ [])

  -- "reordered": each is written once, and the older packet, that with message 0, arrives after the newer one
  abbrev pub Reordering : Type 0
  Reordering = Passing i j identifier kind channel (m ∷ n ∷ []) (1 ∷ 0 ∷ []) (0 ∷ 1 ∷ [])
