-- The two go on from where they are: a packet is written and is lost, or arrives at the peer. Nothing more is taken, and what has come stays. Lost
-- packets can take along what is owed.
-- Assumes nothing.
use Prim.Native.Nat.{ℕ, ◌+◌, ◌≤◌, zero, suc, ◌*◌}
use mathlib.Core.Path.{◌≡◌, refl}
use mathlib.Core.List.Memᴰ
use mathlib.Core.List.{List, [], ◌∷◌}
use native.Mathlib.Omega.{arith}
use lib.Dec.{lit≤}
use lib.ListN.{length, replicate, drop, length-drop}
use Rattle.line.specs.Line.{closed_line}
use Rattle.writing.specs.Send.{longest_packet}
use Rattle.calls.specs.Call.{Call}
use Rattle.calls.specs.Call as call
use Rattle.promise.specs.Past.{Mark, Packet, Past, wrote_past, heard_past}
use Rattle.promise.specs.Run.{Gateway, Each, noted_empty, wrote, heard, here, there}
use Rattle.promise.specs.Promise.{InRelay}
use Rattle.promise.specs.Ours.{Recent, Honest, does, after, Adds, Goes}
use Rattle.promise.proofs.AnyBuild.{turned_goes}
use Rattle.promise.proofs.Ends.{turn}
use Rattle.promise.proofs.Phases.{end_of}
use Rattle.promise.proofs.OwnLine.{Passes, call_accepted}
use Rattle.promise.proofs.CallsKeep.{LeftIn, wrote_kept}
use Rattle.promise.proofs.StepsKeep.{Pair, turned, step_kept, arrives_here, heard_kept}
use Rattle.promise.proofs.Accepts.{empty_passes}
use Rattle.promise.proofs.CameStays.{CameTo, came_wrote, came_heard}
use Rattle.promise.proofs.Drains.{relay_step}

-- an output with room for every packet
abbrev pub roomy : List ℕ
roomy = replicate (longest_packet closed_line) 0

-- where the two have come to, from g₀ with p₀ and h₀ with q₀, and that nothing was taken since
pub record Now (i j identifier kind : ℕ) (g₀ : Gateway) (p₀ : Past) (h₀ : Gateway) (q₀ : Past) : Type 0 where
  pub here : Gateway
  pub mine : Past
  pub there : Gateway
  pub yours : Past
  pub goes : Goes i j identifier kind g₀ p₀ h₀ q₀ here mine there yours
  pub pair : Pair i j identifier kind here mine there yours
  pub relays_here : InRelay here i mine
  pub relays_there : InRelay there j yours
  pub same_here : mine.taken ≡ p₀.taken
  pub same_there : yours.taken ≡ q₀.taken

-- the same, seen from the other end
abbrev pub turned_now : {i j identifier kind : ℕ} {g₀ h₀ : Gateway} {p₀ q₀ : Past} → Now i j identifier kind g₀ p₀ h₀ q₀ → Now j i identifier kind h₀ q₀ g₀ p₀
turned_now x =
    record {
      here = x.there;
      mine = x.yours;
      there = x.here;
      yours = x.mine;
      goes = turned_goes x.goes;
      pair = turned x.pair;
      relays_here = x.relays_there;
      relays_there = x.relays_here;
      same_here = x.same_there;
      same_there = x.same_here;
    }

-- from x to y no more than so many packets were written at either end, and what had come stays
pub record Since {i j identifier kind : ℕ} {g₀ h₀ : Gateway} {p₀ q₀ : Past} (a b : ℕ) (x y : Now i j identifier kind g₀ p₀ h₀ q₀) : Type 0 where
  pub wrote_here : length y.mine.wrote ≤ length x.mine.wrote + a
  pub wrote_there : length y.yours.wrote ≤ length x.yours.wrote + b
  pub came_here : {m : Mark} → CameTo x.here i x.mine m → CameTo y.here i y.mine m
  pub came_there : {m : Mark} → CameTo x.there j x.yours m → CameTo y.there j y.yours m

module _ {i j identifier kind : ℕ} {g₀ h₀ : Gateway} {p₀ q₀ : Past} where
  pub then_since : {a b c d e f : ℕ} {x y z : Now i j identifier kind g₀ p₀ h₀ q₀} → Since a b x y → Since c d y z → a + c ≤ e → b + d ≤ f → Since e f x z
  then_since s t m n =
      record {
        wrote_here = omega (arith, s.wrote_here, t.wrote_here);
        wrote_there = omega (arith, s.wrote_there, t.wrote_there);
        came_here = λ k. t.came_here (s.came_here k);
        came_there = λ k. t.came_there (s.came_there k);
      }

  pub none_since : (x : Now i j identifier kind g₀ p₀ h₀ q₀) → Since 0 0 x x
  none_since x = record { wrote_here = omega arith; wrote_there = omega arith; came_here = λ k. k; came_there = λ k. k }

  pub turned_since : {a b : ℕ} {x : Now i j identifier kind g₀ p₀ h₀ q₀} {y : Now j i identifier kind h₀ q₀ g₀ p₀} → Since a b (turned_now x) y → Since b a x (turned_now y)
  turned_since s = record { wrote_here = s.wrote_there; wrote_there = s.wrote_here; came_here = s.came_there; came_there = s.came_here }

  module _ (x : Now i j identifier kind g₀ p₀ h₀ q₀) where
    -- a packet that can be written here
    pub record Writes : Type 0 where
      pub by : Call
      pub packet : Packet
      pub adds : Adds i x.here x.mine x.yours roomy by (wrote_past x.mine packet)
      pub left : LeftIn i identifier kind (end_of x.there j x.yours) (after x.here by roomy) (wrote_past x.mine packet)
      pub stays : {m : Mark} → CameTo x.here i x.mine m → CameTo (after x.here by roomy) i (wrote_past x.mine packet) m

    -- an empty packet of a channel
    pub empties : (channel : ℕ) → channel ≤ 2 → Passes x.here (call.empty i channel) roomy
    empties channel c = empty_passes x.pair.mine x.relays_here x.pair.joined roomy channel c (lit≤ tt)

    abbrev pub empty_of : (channel : ℕ) → channel ≤ 2 → Writes
    empty_of channel c =
        let pass = empties channel c in
        record {
          by = call.empty i channel;
          packet = noted_empty x.here x.mine i channel (does x.here (call.empty i channel) roomy);
          adds = wrote channel (call_accepted x.here (call.empty i channel) roomy pass);
          left = wrote_kept x.pair.mine x.relays_here.0 x.pair.joined roomy channel pass;
          stays = λ m. came_wrote x.pair x.relays_here m roomy channel pass (noted_empty x.here x.mine i channel (does x.here (call.empty i channel) roomy));
        }

    -- it is written, and lost
    abbrev pub lost : Writes → Now i j identifier kind g₀ p₀ h₀ q₀
    lost w =
        let s = relay_step x.relays_here.0 w.by roomy x.relays_here.0 w.left w.adds in
        record {
          here = after x.here w.by roomy;
          mine = wrote_past x.mine w.packet;
          there = x.there;
          yours = x.yours;
          goes = here x.goes s;
          pair = step_kept x.pair s;
          relays_here = (x.relays_here.0, w.left.0);
          relays_there = x.relays_there;
          same_here = x.same_here;
          same_there = x.same_there;
        }

    pub lost_since : (w : Writes) → Since 1 0 x (lost w)
    lost_since w = record { wrote_here = omega arith; wrote_there = omega arith; came_here = w.stays; came_there = λ m. m }

    -- it is written, and arrives
    module _ (w : Writes) (carried : Each (Recent x.mine.taken) w.packet.carries) (named : Each (Recent x.yours.taken) w.packet.names) (acked : Each (Recent x.yours.taken) w.packet.acks) where
      pub honest : Honest x.yours (wrote_past x.mine w.packet) w.packet.octets w.packet
      honest = record { written = Memᴰ.head refl; same = refl; carries = carried; names = named; acks = acked }

      pub left_there : LeftIn j identifier kind (end_of (lost w).here i (lost w).mine) (after x.there (call.arrival w.packet.octets) roomy) (heard_past x.yours w.packet)
      left_there =
          let k = (lost w).pair in
          heard_kept k.yours k.mine x.relays_there.0 (turn k.joined) w.packet.octets w.packet x.relays_there.1 honest roomy

      abbrev pub arrived : Now i j identifier kind g₀ p₀ h₀ q₀
      arrived =
          let k = (lost w).pair in
          let o = x.relays_there.0 in
          let s = relay_step o (call.arrival w.packet.octets) roomy o left_there
          (heard w.packet.octets w.packet (arrives_here k.yours k.mine o (turn k.joined) w.packet.octets w.packet x.relays_there.1 honest roomy) x.relays_there.1 honest) in
          record {
            here = (lost w).here;
            mine = (lost w).mine;
            there = after x.there (call.arrival w.packet.octets) roomy;
            yours = heard_past x.yours w.packet;
            goes = there (lost w).goes s;
            pair = turned (step_kept (turned k) s);
            relays_here = (lost w).relays_here;
            relays_there = (o, left_there.0);
            same_here = x.same_here;
            same_there = x.same_there;
          }

      pub arrived_since : Since 1 0 x arrived
      arrived_since =
          record {
            wrote_here = omega arith;
            wrote_there = omega arith;
            came_here = w.stays;
            came_there = λ m. came_heard (turned (lost w).pair) x.relays_there m roomy w.packet.octets w.packet honest;
          }

-- a short list has nothing left
pub none_left : (n : ℕ) (l : List Mark) → length l ≤ n → drop n l ≡ []
none_left zero [] q = refl
none_left zero (m ∷ l) q = absurd (omega arith)
none_left (suc n) [] q = refl
none_left (suc n) (m ∷ l) q = none_left n l (omega arith)

module _ {i j identifier kind : ℕ} {g₀ h₀ : Gateway} {p₀ q₀ : Past} where
  -- What is owed here leaves in empty packets, which are lost.
  pub record Hushed (k : ℕ) (x : Now i j identifier kind g₀ p₀ h₀ q₀) : Type 0 where
    pub then : Now i j identifier kind g₀ p₀ h₀ q₀
    pub since : Since k 0 x then
    pub quiet : then.mine.owes ≡ []
    pub same : then.yours.owes ≡ x.yours.owes

  pub hush : (k : ℕ) (x : Now i j identifier kind g₀ p₀ h₀ q₀) → length x.mine.owes ≤ k * 3 → Hushed k x
  hush zero x e = record { then = x; since = none_since x; quiet = none_left 0 x.mine.owes e; same = refl }
  hush (suc k) x e =
      let w = empty_of x 0 (omega arith) in
      let r = hush k (lost x w) (omega (arith, length-drop 3 x.mine.owes)) in
      record { then = r.then; since = then_since (lost_since x w) r.since (omega arith) (omega arith); quiet = r.quiet; same = r.same }
