-- What an arriving packet makes of the base that was last heard: it moves on to the one that the packet names, and never back.
-- Assumes nothing.
use Prim.Native.Nat.{ℕ, ◌≤◌, ◌%◌}
use mathlib.Core.Path.{◌≡◌, refl, ap, subst, ◌∙◌}
use mathlib.Core.Bool.{Bool, true, false, ◌&&◌}
use mathlib.Core.List.{List, [], ◌∷◌}
use native.Mathlib.Omega.{arith}
use lib.Dec.{eqb, ltb, leb}
use lib.ListN.{length, get_or}
use Rattle.ground.specs.Pick.{pick}
use Rattle.ground.proofs.Picks.{pick_by}
use Rattle.field.specs.Word.{channel_of, number_of}
use Rattle.packet.specs.Acks.{ack_list}
use Rattle.packet.specs.Read.{head_at, acks_at}
use Rattle.channel.specs.Channel.{modulus}
use Rattle.channel.specs.Distance.{dist}
use Rattle.sending.specs.Sending.{under_way, heard_base, acked_by}
use Rattle.sending.specs.declared.Sending.{Sending}
use Rattle.flow.proofs.Fields.{heard_field}
use Rattle.flow.proofs.Moves.{heard_moves}
use Rattle.line.specs.Figures.{send_window}
use Rattle.line.specs.Line.{sending_of, with_sending}
use Rattle.line.specs.declared.Line.{Line}
use Rattle.store.specs.declared.Way.TheVariants as way
use Rattle.relay.specs.RelayTests.{reliable}
use Rattle.arriving.specs.Effect.{heard_line, acked_line, acked_all, stored_line}
use Rattle.arriving.specs.Arrive.{carries, news_line, arrived_line}
use Rattle.calls.specs.Call as call
use Rattle.promise.specs.Past.{Mark, Packet, Past}
use Rattle.promise.specs.Run.{Gateway, line_at, Each, none, also, bound}
use Rattle.promise.specs.Ends.{slots_of}
use Rattle.promise.specs.Promise.{InRelay}
use Rattle.promise.specs.Ours.{Recent, Honest, after}
use Rattle.promise.proofs.Lists.{each_at}
use Rattle.promise.proofs.Views.{sending_here}
use Rattle.promise.specs.Notes.{Names, nothing, reached, mark}
use Rattle.promise.proofs.Ends.{End, Joined, got, sends_ok, wide}
use Rattle.promise.proofs.CallsKeep.{joined_open}
use Rattle.promise.proofs.StepsKeep.{Pair, heard_line_lem}

-- the base that a line last heard on a channel
abbrev pub base_of : Line → ℕ → ℕ
base_of l channel = (sending_of l channel).base

-- a side put anew whose base is not below the one before
base_put : (l : Line) (channel : ℕ) (s : Sending) → base_of l channel ≤ s.base → (c : ℕ) → base_of l c ≤ base_of (with_sending l channel s) c
base_put l channel s q c = go (eqb c 1) (eqb channel 1) q
  where
    go : (t u : Bool) → (pick u l.sending.one l.sending.two).base ≤ s.base
        → (pick t l.sending.one l.sending.two).base ≤ (pick t (pick u s l.sending.one) (pick u l.sending.two s)).base
    go true true q = q
    go true false q = omega arith
    go false true q = omega arith
    go false false q = q

heard_on : (l : Line) (channel base c : ℕ) → base_of l c ≤ base_of (heard_line l channel base) c
unfolding heard_line heard_base
heard_on l channel base c =
    let s = sending_of l channel in
    let d = dist base s.base in
    pick_by (λ (m : Line). base_of l c ≤ base_of m c) (reliable channel)
    (λ _. base_put l channel (heard_base (send_window l channel) s base)
    (pick_by (λ (t : Sending). s.base ≤ t.base) (ltb 0 d && leb d (under_way s)) (λ _. omega arith) (λ _. omega arith)) c)
    (λ _. omega arith)

acked_on : (words : List ℕ) (l : Line) (c : ℕ) → base_of l c ≤ base_of (acked_all l words) c
unfolding acked_all acked_line acked_by
acked_on [] l c = omega arith
acked_on (word ∷ words) l c =
    let s = sending_of l (channel_of word) in
    let d = dist (number_of word) s.base in
    let one : base_of l c ≤ base_of (acked_line l word) c = base_put l (channel_of word) (acked_by s (number_of word))
    (pick_by (λ (t : Sending). s.base ≤ t.base) (ltb d (under_way s)) (λ _. omega arith) (λ _. omega arith)) c in
    omega (arith, one, acked_on words (acked_line l word) c)

-- a payload leaves it, and so do acknowledgements
news_on : (l : Line) (s : List ℕ) (c : ℕ) → base_of (heard_line l (head_at s).channel (head_at s).base) c ≤ base_of (arrived_line l s) c
unfolding arrived_line news_line stored_line
news_on l s c =
    let acked = acked_on (ack_list (acks_at s)) (heard_line l (head_at s).channel (head_at s).base) c in
    pick_by (λ (m : Line). base_of (heard_line l (head_at s).channel (head_at s).base) c ≤ base_of m c) (carries s) (λ _. acked) (λ _. acked)

-- the base that is named is heard
module _ {e f : End} (j : Joined e f) where
  heard_side : (channel base n : ℕ) → reliable channel ≡ true → base ≡ n % modulus
      → heard_line e.line channel base ≡ with_sending e.line channel (heard_base (send_window e.line channel) (sending_of e.line channel) (n % modulus))
  unfolding heard_line
  heard_side channel base n v q = rw (v, q) refl

  named_heard : {channel base : ℕ} {ms : List Mark} → Names (got f) channel base ms → Each (Recent e.past.taken) ms → {c b : ℕ} → ms ≡ mark c b ∷ []
      → b ≤ base_of (heard_line e.line channel base) c
  named_heard (nothing r) near same = absurd (let n = ap length same in omega (arith, n))
  named_heard {channel} {base} (reached n v q g) (also near none) {c} {b} same =
      let l = e.line in
      let w = send_window l channel in
      let s = sending_of l channel in
      let there = j.there channel v in
      let moved = heard_moves w (slots_of l e.part way.Sending channel) s (sends_ok j.mine.sides channel) bound (wide channel) n (omega (arith, g, there.mid)) (omega (arith, near, there.count)) in
      let line = ap (λ (m : Line). base_of m channel) (heard_side channel base n v q) in
      let side = ap (λ (t : Sending). t.base) (sending_here l channel (heard_base w s (n % modulus)) ∙ heard_field w s n) in
      let number = ap (λ (ms : List Mark). (get_or ms 0 (mark 0 0)).number) same in
      let its = ap (λ (ms : List Mark). (get_or ms 0 (mark 0 0)).channel) same in
      subst (λ (x : ℕ). b ≤ base_of (heard_line l channel base) x) its (omega (arith, line, side, number, moved.base))

-- A packet arrives that the peer wrote.
module _ {i j identifier kind : ℕ} {g h : Gateway} {p q : Past} (k : Pair i j identifier kind g p h q) (a : InRelay g i p) (x : Packet) (honest : Honest p q x.octets x) (out : List ℕ) where
  abbrev then : Gateway
  then = after g (call.arrival x.octets) out

  line_then : line_at then i ≡ arrived_line (line_at g i) x.octets
  line_then = heard_line_lem k.mine k.yours a.0 k.joined x.octets x a.1 honest out

  pub base_on : (c : ℕ) → base_of (line_at g i) c ≤ base_of (line_at then i) c
  base_on c =
      let l = line_at g i in
      omega (arith, ap (λ (m : Line). base_of m c) line_then, heard_on l (head_at x.octets).channel (head_at x.octets).base c, news_on l x.octets c)

  pub base_reached : {c b : ℕ} → x.names ≡ mark c b ∷ [] → b ≤ base_of (line_at then i) c
  base_reached {c} same =
      let l = line_at g i in
      omega (
        arith,
        ap (λ (m : Line). base_of m c) line_then,
        news_on l x.octets c,
        named_heard (joined_open k.mine a.0 k.joined out) (each_at honest.written k.joined.yours.said).names honest.names same,
      )
