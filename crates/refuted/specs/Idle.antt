-- IDLE BUILDS: what an empty build would do, written down as builds. Each is shown to fail a demand.
-- Assumes nothing.
use Rattle.std.specs.Prelude.{ℕ, Bool, List, [], ◌∷◌, ◌++◌, eqb, ltb, length, drop}
use Rattle.ground.specs.Answer.{accepted, refused}
use Rattle.ground.specs.Pick.{pick}
use Rattle.ground.specs.declared.Refusal.{Refusal}
use Rattle.packet.specs.Acks.{ack_list}
use Rattle.packet.specs.Read.{head_at, acks_at, payload_of}
use Rattle.line.specs.Line.{receiving_of, with_parts}
use Rattle.line.specs.declared.Line.{Line}
use Rattle.arriving.specs.Effect.{acked_all, stored_line}
use Rattle.arriving.specs.Arrive.{carries}
use Rattle.book.specs.Book.{line_of, with_line}
use Rattle.book.specs.declared.Book.{Book}
use Rattle.calls.specs.Call as call
use Rattle.calls.specs.Order.{line_for}
use Rattle.calls.specs.Result.{CallResult, result_with, result_of}
use Rattle.promise.specs.Build.{Does, Left, Bodies, Build, our_bodies}

-- "one refusing everything", with whatever number
abbrev refused_bodies : Refusal → Bodies
refused_bodies r =
    record {
      connect_read = λ s. refused r;
      connect_write = λ c out. record { answer = refused r; out = out };
      break_read = λ s. refused r;
      break_write = λ c out. record { answer = refused r; out = out };
      slip_read = λ s. refused r;
    }

abbrev pub refuser : Refusal → Build
refuser r = record { does = λ c b store out. result_with (refused r) b store out; bodies = refused_bodies r }

-- "one giving a constant .. body": every body written is s
abbrev written : List ℕ → List ℕ → Left
written s out = record { answer = accepted (length s ∷ []); out = s ++ drop (length s) out }

abbrev one_body : List ℕ → Bodies
one_body s =
    record {
      connect_read = our_bodies.connect_read;
      connect_write = λ c. written s;
      break_read = our_bodies.break_read;
      break_write = λ c. written s;
      slip_read = our_bodies.slip_read;
    }

abbrev pub constant_body : List ℕ → Build
constant_body s = record { does = result_of; bodies = one_body s }

-- ours, but for what the calls do
abbrev pub doing : Does → Build
doing f = record { does = f; bodies = our_bodies }

-- what a packet that arrives does
abbrev pub Arrives : Type 0
Arrives = List ℕ → Book → List ℕ → List ℕ → CallResult

-- ours, but for what is done where a packet is written, a message taken, a packet arrives or a report is asked for
abbrev pub instead : Does → Does → Arrives → Does → Does
instead writes takes arrives reports (call.opening i s time) = result_of (call.opening i s time)
instead writes takes arrives reports (call.closing i) = result_of (call.closing i)
instead writes takes arrives reports (call.mode i a) = result_of (call.mode i a)
instead writes takes arrives reports (call.taking i channel m) = takes (call.taking i channel m)
instead writes takes arrives reports (call.sending i channel rank) = writes (call.sending i channel rank)
instead writes takes arrives reports (call.empty i channel) = writes (call.empty i channel)
instead writes takes arrives reports (call.arrival s) = arrives s
instead writes takes arrives reports (call.hand_out i channel) = result_of (call.hand_out i channel)
instead writes takes arrives reports (call.report i channel) = reports (call.report i channel)

abbrev pub lets : Arrives
lets s = result_of (call.arrival s)

abbrev pub arriving : Arrives → Does
arriving a = instead result_of result_of a result_of

-- "one giving a constant packet": every packet written is s
abbrev pub constant_packet : List ℕ → Build
constant_packet s = doing (instead (λ c b store out. result_with (accepted (length s ∷ [])) b store (s ++ drop (length s) out)) result_of lets result_of)

-- "one storing nothing", of messages taken: what ours accepts is accepted, and leaves nothing
abbrev pub forgets : Does
forgets c b store out = result_with (result_of c b store out).answer b store out

abbrev pub holds_nothing : Build
holds_nothing = doing (instead result_of forgets lets result_of)

-- the line as the packet leaves it, but with nothing received
abbrev pub unread : Line → Line → Line
unread old new = with_parts new new.modes new.sending.one new.sending.two old.receiving.one old.receiving.two new.owed

-- the packet's message is acknowledged and not stored
abbrev pub ignored : Arrives
ignored s b store out =
    let d = result_of (call.arrival s) b store out in
    let i = line_for (call.arrival s) b in
    result_with d.answer (with_line b i (unread (line_of b i) (line_of d.book i))) store out

-- "one storing nothing", of packets that arrive: their bases and acknowledgements are heard, and their messages acknowledged, as by ours
abbrev pub stores_nothing : Build
stores_nothing = doing (arriving ignored)

-- the number that the line's channel expects next
abbrev pub expected : List ℕ → Book → ℕ
expected s b = (receiving_of (line_of b (line_for (call.arrival s) b)) (head_at s).channel).next

-- ignored is every message of which a test of its number, and of the one expected next, says so; any other is taken in as by ours
abbrev pub ignores : (ℕ → ℕ → Bool) → Arrives
ignores test s b store out = pick (test (head_at s).number (expected s b)) (ignored s b store out) (result_of (call.arrival s) b store out)

-- "one serving only the first message and acknowledging the later ones unread"
abbrev pub is_later : ℕ → ℕ → Bool
is_later number next = ltb 0 number

abbrev pub skips : Arrives
skips = ignores is_later

abbrev pub first_only : Build
first_only = doing (arriving skips)

-- "A held count made up at will"
abbrev pub made_up : ℕ → Build
made_up n = doing (instead result_of result_of lets (λ c b store out. result_with (accepted (n ∷ [])) b store out))

-- one that never moves h on: an arriving packet "takes effect in this order: base, acknowledgements as listed, payload", but its base is not heard
abbrev pub unmoved : Line → List ℕ → Line
unmoved l s =
    let m = acked_all l (ack_list (acks_at s)) in
    pick (carries s) (stored_line m (head_at s).channel (head_at s).number (length (payload_of s))) m

abbrev pub deaf : Arrives
deaf s b store out =
    let d = result_of (call.arrival s) b store out in
    let i = line_for (call.arrival s) b in
    pick (eqb d.answer.number 0) (result_with d.answer (with_line b i (unmoved (line_of b i) s)) d.store d.out) d

abbrev pub never_moves : Build
never_moves = doing (arriving deaf)
