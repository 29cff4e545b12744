-- THE REPORT'S RULE, asked of any build: "A report says how many messages are held there unacknowledged", and changes nothing. It excludes a count
-- made up at will.
-- Assumes nothing.
use Rattle.std.specs.Prelude.{ℕ, zero, suc, ◌+◌, ◌-◌, ◌≡◌, Bool, true, false, List, [], ◌∷◌}
use Rattle.ground.specs.Answer.{accepted}
use Rattle.ground.specs.Pick.{pick}
use Rattle.flow.specs.Flow.{Message, Sends}
use Rattle.relay.specs.RelayTests.{reliable}
use Rattle.calls.specs.Call as call
use Rattle.calls.specs.Result.{result_with}
use Rattle.promise.specs.Build.{Build}
use Rattle.promise.specs.Run.{Gateway, does, line_at, part_in, Relays}
use Rattle.promise.specs.Ends.{sends_of}
use Rattle.promise.specs.Demand2.{Ready}

-- there is a message
abbrev pub some : Message → Bool
some [] = false
some (x ∷ m) = true

-- how many of the k messages from h on are held
unfoldable pub held_from : Sends → ℕ → ℕ
held_from s zero = 0
held_from s (suc k) = held_from s k + pick (some (s.held (s.h + k))) 1 0

-- how many messages n with h ≤ n < S are held
abbrev pub held_of : Sends → ℕ
held_of s = held_from s (s.S - s.h)

pub record Reports (b : Build) : Type 0 where
  pub exact : (g : Gateway) (i : ℕ) → Ready g i → Relays g i → (channel : ℕ) → reliable channel ≡ true → (out : List ℕ)
      → does b.does g (call.report i channel) out ≡ result_with (accepted (held_of (sends_of (part_in g i) (line_at g i) channel) ∷ [])) g.book g.store out
