-- IT GOES ON, asked of any build: from wherever the two have come to, with both ends in modem relay, another message can come to be taken, and all
-- that was taken can come to be handed out and acknowledged, after a number of packets that is known beforehand.
-- Assumes nothing.
use Rattle.std.specs.Prelude.{ℕ, ◌+◌, ◌/◌, ◌≤◌, ◌<◌, ◌≡◌, true, [], ◌∷◌, length}
use Rattle.ground.specs.Answer.{accepted}
use Rattle.channel.specs.Channel.{cap}
use Rattle.flow.specs.Flow.{Message}
use Rattle.owed.specs.Owed.{owed_of}
use Rattle.line.specs.Figures.{send_window, send_largest}
use Rattle.line.specs.declared.Line.{Line}
use Rattle.relay.specs.RelayTests.{reliable}
use Rattle.calls.specs.Call as call
use Rattle.promise.specs.Build.{Does}
use Rattle.promise.specs.Past.{Past, more}
use Rattle.promise.specs.Run.{Gateway, does, line_at, Goes}
use Rattle.promise.specs.Promise.{sends_by}

-- "unless .. the list has 64 entries": how many acknowledgements are owed at the most
abbrev pub most_owed : ℕ
most_owed = 64

-- how many packets take n of them along, three each
abbrev pub packets_for : ℕ → ℕ
packets_for n = (n + 2) / 3

-- So many packets of an end are enough: those that take along what is owed, one for each message that may be under way, and one on each
-- channel that names its base.
abbrev pub enough : Line → ℕ
enough l = packets_for most_owed + (send_window l 1 + send_window l 2) + 2

-- The state is g with p and h with q; the two go on from there to `here` with `mine` and `there` with `yours`.
module _ (f : Does) (within i j identifier kind : ℕ) (g : Gateway) (p : Past) (h : Gateway) (q : Past) where
  -- the message is taken at g, and nothing else at either end
  pub record TakesMore (channel : ℕ) (m : Message) : Type 0 where
    pub here : Gateway
    pub mine : Past
    pub there : Gateway
    pub yours : Past
    pub goes : Goes f within i j identifier kind g p h q here mine there yours
    pub taken : mine.taken ≡ more p.taken channel m
    pub same : yours.taken ≡ q.taken

  -- nothing more is taken, all is handed out and acknowledged on both channels at both ends, and no acknowledgement is owed
  pub record Settles : Type 0 where
    pub here : Gateway
    pub mine : Past
    pub there : Gateway
    pub yours : Past
    pub goes : Goes f within i j identifier kind g p h q here mine there yours
    pub taken : (mine.taken ≡ p.taken) × (yours.taken ≡ q.taken)
    pub handed : (channel : ℕ) → reliable channel ≡ true → (yours.handed channel ≡ p.taken channel) × (mine.handed channel ≡ q.taken channel)
    pub reports : (channel : ℕ) → reliable channel ≡ true
        → ((does f here (call.report i channel) []).answer ≡ accepted (0 ∷ [])) × ((does f there (call.report j channel) []).answer ≡ accepted (0 ∷ []))
    pub owed : (owed_of (line_at here i).owed ≡ []) × (owed_of (line_at there j).owed ≡ [])
    -- so many packets were written for it, at either end
    pub few : (length mine.wrote ≤ length p.wrote + enough (line_at g i)) × (length yours.wrote ≤ length q.wrote + enough (line_at h j))

  pub record GoesOn : Type 0 where
    -- the window never closes for good: a message that is not SPENT can come to be taken
    pub takes_more : (channel : ℕ) → reliable channel ≡ true → (m : Message) → 1 ≤ length m → length m ≤ send_largest (line_at g i) → (sends_by g i p channel).S < cap
        → TakesMore channel m
    pub settles : Settles
