-- All can be handed out: from where every message has come the hand-outs of a channel are accepted, one after the other, until what was handed out
-- is what was taken. Each is a step of the run.
-- Assumes nothing.
use Prim.Native.Nat.{ℕ, zero, suc, ◌+◌, ◌-◌, ◌<◌}
use mathlib.Core.Path.{◌≡◌, refl, sym, ap, transport, ◌∙◌}
use mathlib.Core.Bool.{true}
use mathlib.Core.List.{List}
use mathlib.Core.Logic.{◌≢◌}
use native.Mathlib.Omega.{arith}
use lib.ListN.{length}
use lib.Seq.{take_all}
use Rattle.flow.specs.Flow.{Message, HandOutMove, Have}
use Rattle.flow.proofs.Flows.{handed_grows}
use Rattle.relay.specs.RelayTests.{reliable}
use Rattle.calls.specs.Call.{Call}
use Rattle.calls.specs.Call as call
use Rattle.calls.specs.Order.{line_for}
use Rattle.calls.specs.Result.{effect}
use Rattle.promise.specs.Past.{Mark, Past, handed_past}
use Rattle.promise.specs.Run.{Gateway, given, handed, calls, there}
use Rattle.promise.specs.Promise.{sends_by, receives_by, InRelay, AllCame, out_at, done, next, Ample}
use Rattle.promise.specs.Ours.{does, after, Adds, Step, Goes, HandsOut, AllOut}
use Rattle.promise.proofs.Ends.{End, Joined, turn, got}
use Rattle.promise.proofs.SendingAnew.{more_other}
use Rattle.promise.proofs.ReceivingAnew.{hands}
use Rattle.promise.proofs.Promised.{all_have}
use Rattle.promise.proofs.Phases.{end_of, Sound, is_open_lem, end_now}
use Rattle.promise.proofs.OwnLine.{Passes, call_passes, call_accepted, line_left, part_stays}
use Rattle.promise.proofs.CallsKeep.{LeftIn, hand_asks, joined_open, handed_kept}
use Rattle.promise.proofs.StepsKeep.{Pair, turned, step_kept}
use Rattle.promise.proofs.Accepts.{hand_passes}
use Rattle.promise.proofs.CameStays.{CameTo, came_handed}

-- a call that leaves the line in modem relay is a step
pub relay_step : {i identifier kind : ℕ} {g : Gateway} {p p' q : Past} {f : End} → p.opened ≡ true → (c : Call) (out : List ℕ) → p'.opened ≡ true
    → LeftIn i identifier kind f (after g c out) p' → Adds i g p q out c p' → Step i identifier kind q g p (after g c out) p'
relay_step o c out o' w a = calls o c out (is_open_lem w.1.0 o').opened (λ _. w.0) a

-- what a hand-out moves
handed_shows : {j identifier kind : ℕ} {h : Gateway} {q : Past} → Sound j identifier kind h q → (o : q.opened ≡ true) → {f : End} → Joined (end_of h j q) f → (out : List ℕ) (c : ℕ)
    → Passes h (call.hand_out j c) out → (m : Message) → HandOutMove (receives_by h j q c) (receives_by (after h (call.hand_out j c) out) j (handed_past q c m) c)
unfolding line_for effect
handed_shows {j} {h = h} {q} s o k out c pass m =
    let d = call.hand_out j c in
    let now = ap (λ (e : End). got e c) (end_now h j q o refl refl) in
    let then = ap (λ (e : End). got e c) (end_now (after h d out) j (handed_past q c m) o (line_left s d out refl pass) (part_stays s d out refl pass refl)) in
    transport (λ t. HandOutMove (sym now t) (sym then t)) (hands c (length out) (hand_asks h j out c pass) (joined_open s o k out))

-- hand-outs of channel c leave the line in modem relay, what was handed out of the other channel, and all else that has become of the line
pub record HandsKeep (j c : ℕ) (h : Gateway) (q : Past) (h' : Gateway) (q' : Past) : Type 0 where
  pub inside : InRelay h' j q'
  pub taken : q'.taken ≡ q.taken
  pub wrote : q'.wrote ≡ q.wrote
  pub owes : q'.owes ≡ q.owes
  pub came : q'.came ≡ q.came
  pub others : (n : ℕ) → n ≢ c → q'.handed n ≡ q.handed n
  pub stays : {m : Mark} → CameTo h j q m → CameTo h' j q' m

module _ {i j identifier kind : ℕ} (c : ℕ) (v : reliable c ≡ true) (outs : ℕ → List ℕ) where
  -- a hand-out that is accepted
  module _ {g h : Gateway} {p q : Past} (k : Pair i j identifier kind g p h q) (a : InRelay h j q) (pass : Passes h (call.hand_out j c) (out_at outs h j c)) where
    abbrev out : List ℕ
    out = out_at outs h j c

    abbrev then : Gateway
    then = after h (call.hand_out j c) out

    abbrev past : Past
    past = handed_past q c (given (does h (call.hand_out j c) out))

    left : LeftIn j identifier kind (end_of g i p) then past
    left = handed_kept k.yours a.0 (turn k.joined) out c pass

    pub hand_step : Step j identifier kind p h q then past
    hand_step = relay_step a.0 (call.hand_out j c) out a.0 left (handed c (call_accepted h (call.hand_out j c) out pass))

    pub hand_pair : Pair i j identifier kind g p then past
    hand_pair = turned (step_kept (turned k) hand_step)

    pub hand_in : InRelay then j past
    hand_in = (a.0, left.0)

  -- they are steps of the run
  pub hands_go : {g₀ g h h₀ h' : Gateway} {p₀ p q q₀ q' : Past} → Pair i j identifier kind g p h q → InRelay h j q → HandsOut j c outs h q h' q'
      → Goes i j identifier kind g₀ p₀ h₀ q₀ g p h q → Goes i j identifier kind g₀ p₀ h₀ q₀ g p h' q'
  hands_go k a done w = w
  hands_go {h = h} k a (next e hs) w =
      let pass = call_passes h (call.hand_out j c) (out_at outs h j c) e in
      hands_go (hand_pair k a pass) (hand_in k a pass) hs (there w (hand_step k a pass))

  pub hands_keep : {g h h' : Gateway} {p q q' : Past} → Pair i j identifier kind g p h q → InRelay h j q → HandsOut j c outs h q h' q' → HandsKeep j c h q h' q'
  hands_keep k a done = record { inside = a; taken = refl; wrote = refl; owes = refl; came = refl; others = λ n d. refl; stays = λ x. x }
  hands_keep {h = h} {q = q} k a (next e hs) =
      let out = out_at outs h j c in
      let pass = call_passes h (call.hand_out j c) out e in
      let x = given (does h (call.hand_out j c) out) in
      let rest = hands_keep (hand_pair k a pass) (hand_in k a pass) hs in
      record {
        inside = rest.inside;
        taken = rest.taken;
        wrote = rest.wrote;
        owes = rest.owes;
        came = rest.came;
        others = λ n d. rest.others n d ∙ more_other q.handed c x n d;
        stays = λ s. rest.stays (came_handed (turned k) a s out c pass x);
      }

  module _ (ample : Ample outs) where
    pub drained : (m : ℕ) {g h : Gateway} {p q : Past} → Pair i j identifier kind g p h q → InRelay h j q → (receives_by h j q c).R + m ≡ (sends_by g i p c).S
        → ((n : ℕ) → n < (sends_by g i p c).S → Have (receives_by h j q c) n) → AllOut j c p h q outs
    drained zero {g} {h} {p} {q} k a e all =
        let f = k.joined.there c v in
        record { gateway = h; past = q; hands = done; all = f.out ∙ take_all (receives_by h j q c).R (p.taken c) (omega (arith, f.count)) }
    drained (suc m) {g} {h} {p} {q} k a e all =
        let R = (receives_by h j q c).R in
        let out = out_at outs h j c in
        let pass = hand_passes k.yours a (turn k.joined) out c v (all R (omega arith) (omega arith)) (ample _) in
        let moves = handed_shows k.yours a.0 (turn k.joined) out c pass (given (does h (call.hand_out j c) out)) in
        let rest = drained m (hand_pair k a pass) (hand_in k a pass) (omega (arith, moves.next)) (λ n l. (handed_grows _ _ moves).have n (all n l)) in
        record { gateway = rest.gateway; past = rest.past; hands = next (call_accepted h (call.hand_out j c) out pass) rest.hands; all = rest.all }

    -- "Once .. every message still unacknowledged is sent and arrives, in any order, all can be handed out."
    pub drains : {g h : Gateway} {p q : Past} → Pair i j identifier kind g p h q → InRelay h j q → AllCame c g i p q → AllOut j c p h q outs
    drains {g} {h} {p} {q} k a came = drained ((sends_by g i p c).S - (receives_by h j q c).R) k a (omega (arith, (k.joined.there c v).mid)) (all_have k.joined c v came)
