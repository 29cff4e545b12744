-- A packet arrives at its line: what refuses it, and what it leaves in the line and in its part of the store. s is the packet's octets.
-- Assumes nothing.
use Rattle.std.specs.Prelude.{ℕ, Bool, List, [], ◌∷◌, ◌++◌, eqb, ltb, length}
use Rattle.ground.specs.Pick.{pick}
use Rattle.ground.specs.Refusal.{Test, must}
use Rattle.ground.specs.declared.Refusal.TheVariants.{TYPE, MODE, SIZE}
use Rattle.packet.specs.Acks.{ack_list}
use Rattle.packet.specs.Read.{head_at, acks_at, payload_of, list_tests, payload_fits}
use Rattle.line.specs.Figures.{receive_largest}
use Rattle.line.specs.declared.Line.{Line}
use Rattle.relay.specs.RelayTests.{in_relay}
use Rattle.arriving.specs.Effect.{heard_line, acked_all, stored_line, stored_part, stored_store}

-- "Arrival: .. TYPE, MODE, SHORT for the list, CHANNEL, SIZE" (RULES 14.2), once the open line that has the identifier is found
unfoldable pub arrive_tests : Line → List ℕ → List Test
arrive_tests l s = must (eqb (head_at s).kind l.kind) TYPE ∷ must (in_relay l) MODE ∷ (list_tests s ++ (must (payload_fits s (receive_largest l)) SIZE ∷ []))

-- "base, acknowledgements as listed" (RULES 4.2)
unfoldable pub news_line : Line → List ℕ → Line
news_line l s = acked_all (heard_line l (head_at s).channel (head_at s).base) (ack_list (acks_at s))

-- the packet has a payload
abbrev pub carries : List ℕ → Bool
carries s = ltb 0 (length (payload_of s))

-- "An arriving packet takes effect in this order: base, acknowledgements as listed, payload" (RULES 4.2)
unfoldable pub arrived_line : Line → List ℕ → Line
arrived_line l s =
    let m = news_line l s in
    pick (carries s) (stored_line m (head_at s).channel (head_at s).number (length (payload_of s))) m

-- its part of the store then, of which only a payload changes anything (RULES 6.6): base and acknowledgements change neither the part nor what the
-- receiving sides say of it
unfoldable pub arrived_part : Line → List ℕ → List ℕ → List ℕ
arrived_part l s part =
    pick (carries s) (stored_part l (head_at s).channel (head_at s).number (payload_of s) part) part

-- and the whole store, in which the part begins at `start`
unfoldable pub arrived_store : Line → ℕ → List ℕ → List ℕ → List ℕ
arrived_store l start s store =
    pick (carries s) (stored_store l start (head_at s).channel (head_at s).number (payload_of s) store) store
