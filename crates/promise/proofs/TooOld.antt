-- A packet of the peer's that comes too late: the message that it carries has the 14 bits of one that is still to be taken, and is stored as that.
-- Assumes nothing.
use Prim.Native.Nat.{ℕ, ◌+◌, ◌%◌, ◌≤◌, ◌<◌}
use mathlib.Core.Path.{◌≡◌, sym, ap, subst, ◌∙◌}
use mathlib.Core.Bool.{true}
use mathlib.Core.List.{List, [], ◌∷◌}
use native.Mathlib.Omega.{arith}
use lib.ListN.{length, get_or}
use Rattle.packet.specs.Read.{payload_of}
use Rattle.channel.specs.Channel.{modulus, window_of}
use Rattle.flow.specs.Flow.{Message, Data}
use Rattle.flow.proofs.Flows.{data_full}
use Rattle.relay.specs.RelayTests.{reliable}
use Rattle.arriving.proofs.Stays.{arrived_stays}
use Rattle.line.specs.Line.{is_open}
use Rattle.line.specs.declared.Line.{Line}
use Rattle.mode.specs.declared.Modes.{Modes}
use Rattle.calls.specs.Call as call
use Rattle.calls.specs.Result.{result_of}
use Rattle.promise.specs.Past.{Mark, Packet, Past, heard_past}
use Rattle.promise.specs.Run.{Gateway, line_at, part_in, Relays, Each}
use Rattle.promise.specs.Run as runs
use Rattle.promise.specs.Ours.{Recent, after}
use Rattle.promise.specs.Notes.{mark, Carries, nothing, message}
use Rattle.promise.specs.Promise.{receives_by}
use Rattle.promise.proofs.Lists.{each_at}
use Rattle.promise.proofs.Ends.{End, Joined, got}
use Rattle.promise.proofs.PacketArrives.{full_length, after_arrival, stored_as}
use Rattle.promise.proofs.Phases.{end_of, Sound, is_open_lem, end_now}
use Rattle.promise.proofs.CallsKeep.{joined_open}
use Rattle.promise.proofs.StepsKeep.{arrives_here, asks, relaying_now, heard_line_lem, heard_part}

-- what a packet says that carries message b of channel c
record Says (taken : ℕ → List Message) (channel number : ℕ) (payload : Message) (c b : ℕ) : Type 0 where
  on : channel ≡ c
  served : reliable c ≡ true
  cut : number ≡ b % modulus
  there : Data (taken c) b payload

says_one : {taken : ℕ → List Message} {channel number : ℕ} {payload : Message} {ms : List Mark} {c b : ℕ} → Carries taken channel number payload ms → ms ≡ mark c b ∷ [] → Says taken channel number payload c b
says_one (nothing q) e = absurd (omega (arith, ap length e))
says_one {taken} {payload = payload} {c = c} {b} (message n v q d) e =
    let first : mark _ n ≡ mark c b = ap (λ (l : List Mark). get_or l 0 (mark 0 0)) e in
    let on = ap (λ (m : Mark). m.channel) first in
    let same = ap (λ (m : Mark). m.number) first in
    record {
      on = on;
      served = subst (λ (x : ℕ). reliable x ≡ true) on v;
      cut = q ∙ ap (λ (x : ℕ). x % modulus) same;
      there = subst (λ (m : Mark). Data (taken m.channel) m.number payload) first d;
    }

module _ {within i j identifier kind : ℕ} {g h : Gateway} {p q : Past} (s : Sound i identifier kind g p) (t : Sound j identifier kind h q) (opened : p.opened ≡ true) (k : Joined (end_of g i p) (end_of h j q))
    (packet : Packet) (r : Relays g i) (honest : runs.Honest within p q packet.octets packet) (out : List ℕ) where
  -- it carries message b; n has the same 14 bits, is not taken yet, and lies within the window
  pub stored_late : (c b n : ℕ) → packet.carries ≡ mark c b ∷ [] → n % modulus ≡ b % modulus → length (q.taken c) ≤ n → n < length (p.handed c) + window_of c
      → Each (Recent p.taken) packet.names → Each (Recent p.taken) packet.acks
      → (receives_by (after g (call.arrival packet.octets) out) i (heard_past p packet) c).stored n ≡ get_or (q.taken c) b []
  stored_late c b n one alike ahead room names acks =
      let o = packet.octets in
      let said = each_at honest.written k.yours.said in
      let says = says_one said.carries one in
      let joined = joined_open s opened k out in
      let some : 0 < length (payload_of o) = full_length (payload_of o) (data_full (joined.back c says.served) says.there) in
      let now = end_now (after g (call.arrival o) out) i (heard_past p packet) opened (heard_line_lem s t opened k o packet r honest out) (heard_part s t opened k o packet r honest out) in
      let back = sym says.on in
      let e : End = record { line = line_at g i; part = part_in g i; past = p } in
      let late = stored_as (relaying_now s t opened k o packet r honest out) joined packet said (asks s t opened k o packet r honest out).1 names acks
      (subst (λ (x : ℕ). reliable x ≡ true) back says.served) some n (says.cut ∙ sym alike)
      (subst (λ (x : ℕ). length (q.taken x) ≤ n) back ahead) (subst (λ (x : ℕ). n < length (p.handed x) + window_of x) back room) in
      ap (λ (x : End). (got x c).stored n) now ∙ subst (λ (x : ℕ). (got (after_arrival e packet o) x).stored n ≡ payload_of o) says.on late ∙ says.there.same

  -- it is a step of a run that lets it in
  pub late_step : runs.Step result_of within i identifier kind q g p (after g (call.arrival packet.octets) out) (heard_past p packet)
  late_step =
      let o = packet.octets in
      let line = heard_line_lem s t opened k o packet r honest out in
      let same = arrived_stays (line_at g i) o in
      runs.calls opened (call.arrival o) out (ap is_open line ∙ same.opening.opened ∙ (is_open_lem s.phase opened).opened)
      (λ _. ap (λ (l : Line). l.modes.local) line ∙ ap (λ (m : Modes). m.local) same.modes ∙ r)
      (runs.heard o packet (arrives_here s t opened k o packet r honest out) r honest)
