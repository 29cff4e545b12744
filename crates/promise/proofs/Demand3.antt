-- THE PROMISE between two gateways, for every run of theirs: what was taken at the one is handed out at the other, in order and octet for octet,
-- nothing that waits is lost, and all can be handed out.
-- Assumes nothing.
use Rattle.writing.specs.Send.{longest_packet}
use Prim.Native.Nat.{ℕ, ◌≤◌, ◌<◌}
use mathlib.Core.Path.{◌≡◌, refl, sym, ap, subst, ◌∙◌}
use mathlib.Core.Bool.{true}
use mathlib.Core.List.{List, [], ◌++◌, Memᴰ}
use mathlib.Core.Logic.{◌⊎◌}
use native.Mathlib.Omega.{arith}
use lib.ListN.{length, get_or}
use lib.Seq.{length-take-le}
use Rattle.sending.specs.Sending.{held_count}
use Rattle.flow.specs.Flow.{Message, Full, waiting}
use Rattle.channel.specs.Channel.{largest, cap}
use Rattle.line.specs.Line.{is_open, sending_of}
use Rattle.relay.specs.RelayTests.{reliable}
use Rattle.calls.specs.Call.{Call}
use Rattle.calls.specs.Call as call
use Rattle.calls.specs.Order.{line_for}
use Rattle.calls.specs.Result.{result_of, effect}
use Rattle.laws.proofs.OwnLine.{own_values}
use Rattle.promise.specs.Build.{Does, ours}
use Rattle.promise.specs.Past.{Packet, Past, took_past, handed_past, wrote_past, heard_past}
use Rattle.promise.specs.Run.{Gateway, bound, accepts, line_at, Relays, ranked_mark, calls, stay, here, there}
use Rattle.promise.specs.Run as runs
use Rattle.promise.specs.Promise.{sends_by, receives_by, Carried, Promised, InRelay, AllCame, Ample}
use Rattle.promise.specs.Ours.{Honest, does, after, Provided, Run, report_by, HandsOut, AllOut, BothOut, TakesMore, Settles}
use Rattle.promise.specs.Demand3.{Serves, Served, Demand3}
use Rattle.promise.proofs.AnyBuild.{turned_goes}
use Rattle.promise.proofs.Ends.{End, turn, on_both}
use Rattle.promise.proofs.Phases.{is_open_lem}
use Rattle.promise.proofs.CallsKeep.{LeftIn, took_kept, handed_kept, sent_kept, wrote_kept}
use Rattle.promise.proofs.Begins.{begins}
use Rattle.promise.proofs.Promised as line
use Rattle.promise.proofs.OwnLine.{Passes, call_passes, call_accepted}
use Rattle.promise.proofs.NoCallLeftOut.{call_adds}
use Rattle.promise.proofs.StepsKeep.{Pair, run_kept, run_on, arrives_here, arrival_tests_lem, heard_kept}
use Rattle.promise.proofs.Accepts.{report_passes, take_passes, send_passes, held_rank, hand_passes, empty_passes}
use Rattle.promise.proofs.Drains.{drains, hands_go, hands_keep}
use Rattle.promise.proofs.NotesTrue.{notes_true}
use Rattle.promise.proofs.TakingSays.{taking_says}
use Rattle.promise.proofs.GoesOn.{takes_more, settles}

-- each way is the other seen from the other end
pub turned_run : {f : Does} {within i j identifier kind : ℕ} {g h : Gateway} {p q : Past} → runs.Run f within i j identifier kind g p h q → runs.Run f within j i identifier kind h q g p
turned_run r = record { store1 = r.store2; store2 = r.store1; lines = (r.lines.1, r.lines.0); long = (r.long.1, r.long.0); goes = turned_goes r.goes }

module _ {i j identifier kind : ℕ} {g h : Gateway} {p q : Past} (r : Run i j identifier kind g p h q) where
  abbrev k : Pair i j identifier kind g p h q
  k = run_kept r

  module _ (channel : ℕ) (v : reliable channel ≡ true) where
    -- "the messages taken for sending are always those handed out, in order and octet for octet, followed by those still waiting"
    pub in_order : p.taken channel ≡ q.handed channel ++ waiting (sends_by g i p channel) (receives_by h j q channel)
    in_order = line.in_order k.joined channel v

    -- "Each waiting message is held at one end or the other."
    pub held_somewhere : (n : ℕ) → (receives_by h j q channel).R ≤ n → n < (sends_by g i p channel).S → Full (get_or (p.taken channel) n [])
        × (((sends_by g i p channel).held n ≡ get_or (p.taken channel) n []) ⊎ ((receives_by h j q channel).stored n ≡ get_or (p.taken channel) n []))
    held_somewhere = line.held_somewhere k.joined channel v

    pub carried : Carried channel g i p h j q
    carried =
        let f = k.joined.there channel v in
        record {
          in_order = in_order;
          counted = f.count;
          next = ap length f.out ∙ length-take-le (receives_by h j q channel).R (p.taken channel) (omega (arith, f.count, f.mid));
          low = f.low;
          held = held_somewhere;
        }

    -- "Once both are there and every message still unacknowledged is sent and arrives, in any order, all can be handed out."
    pub all_out : InRelay h j q → AllCame channel g i p q → (outs : ℕ → List ℕ) → Ample outs → AllOut j channel p h q outs
    all_out a came outs ample = drains channel v outs ample k a came

    -- the hand-outs are steps of the run, whatever they are lent
    pub hands_run : InRelay h j q → (outs : ℕ → List ℕ) → {h' : Gateway} {q' : Past} → HandsOut j channel outs h q h' q' → Run i j identifier kind g p h' q'
    hands_run a outs hs = run_on r (hands_go channel v outs k a hs stay)

    -- message R is handed out where it is stored
    pub hand_accepted : InRelay h j q → Full ((receives_by h j q channel).stored (receives_by h j q channel).R) → (out : List ℕ) → largest ≤ length out
        → accepts (does h (call.hand_out j channel) out) ≡ true
    hand_accepted a full out space = call_accepted h (call.hand_out j channel) out (hand_passes k.yours a (turn k.joined) out channel v full space)

    -- so none is refused while any message waits, once all have come
    pub none_refused : InRelay h j q → AllCame channel g i p q → (receives_by h j q channel).R < (sends_by g i p channel).S → (out : List ℕ) → largest ≤ length out
        → accepts (does h (call.hand_out j channel) out) ≡ true
    none_refused a came l out space = hand_accepted a (line.all_have k.joined channel v came (receives_by h j q channel).R l (omega arith)) out space

    -- what is unacknowledged can be sent: the report is given, each rank below it is written, and each held message has one
    pub report_counts : InRelay g i p → report_by g i channel ≡ held_count (sending_of (line_at g i) channel)
    unfolding line_for effect
    report_counts a =
        ap (λ (vs : List ℕ). get_or vs 0 0) (own_values (call.report i channel) g.book g.store [] (report_passes k.mine a k.joined [] channel v))

    pub sends_accepted : InRelay g i p → (rank : ℕ) → rank < report_by g i channel → (out : List ℕ) → longest_packet (line_at g i) ≤ length out → accepts (does g (call.sending i channel rank) out) ≡ true
    sends_accepted a rank l out space =
        call_accepted g (call.sending i channel rank) out (send_passes k.mine a k.joined out channel v rank (omega (arith, report_counts a, l)) space)

    pub each_has_rank : InRelay g i p → (n : ℕ) → (sends_by g i p channel).h ≤ n → n < (sends_by g i p channel).S → Full ((sends_by g i p channel).held n)
        → (rank : ℕ) × (rank < report_by g i channel) × ((ranked_mark g i channel rank).number ≡ n)
    each_has_rank a n low high full =
        let d = held_rank k.mine a k.joined [] channel v n low high full in
        (d.0, omega (arith, d.1, report_counts a), d.2)

  -- from every state another message can come to be taken, unless it is SPENT
  pub can_take : InRelay g i p → InRelay h j q → (channel : ℕ) → reliable channel ≡ true → (m : Message) → 1 ≤ length m → length m ≤ largest → (sends_by g i p channel).S < cap
      → TakesMore i j identifier kind g p h q channel m
  can_take a b = takes_more k a b

  -- from every state the two can finish, at 64 packets each way: all is handed out, both reports are 0, and no acknowledgement is owed
  pub can_finish : InRelay g i p → InRelay h j q → Settles i j identifier kind g p h q
  can_finish a b = settles k a b

  -- no call is left out of a run: at the open line whatever is called leads on, if it keeps the line open and in modem relay and no packet breaks the proviso
  pub every_call : p.opened ≡ true → (c : Call) (out : List ℕ) → is_open (line_at (after g c out) i) ≡ true → (Relays g i → Relays (after g c out) i) → Provided i g p q out c
      → (p' : Past) × Run i j identifier kind (after g c out) p' h q
  every_call o c out still stays ok =
      let d = call_adds k.mine o q out c still ok in
      (d.0, run_on r (here stay (calls o c out still stays d.1)))

  -- every packet that the premise speaks of is let in
  pub arrival_accepted : InRelay g i p → (s : List ℕ) (packet : Packet) → Honest p q s packet → (out : List ℕ) → accepts (does g (call.arrival s) out) ≡ true
  arrival_accepted a s packet honest out = call_accepted g (call.arrival s) out (arrival_tests_lem k.mine k.yours a.0 k.joined s packet a.1 honest out)

-- "all can be handed out": on both channels
pub both_out : {i j identifier kind : ℕ} {g h : Gateway} {p q : Past} → Run i j identifier kind g p h q → InRelay h j q → AllCame 1 g i p q → AllCame 2 g i p q
    → (outs : ℕ → List ℕ) → Ample outs → BothOut i j identifier kind g p h q
both_out {g = g} {p = p} r a one two outs ample =
    let d = all_out r 1 refl a one outs ample in
    let kept = hands_keep 1 refl outs (run_kept r) a d.hands in
    let r' = hands_run r 1 refl a outs d.hands in
    let e = all_out r' 2 refl kept.inside (λ n low high full. subst (Memᴰ (record { channel = 2; number = n })) (sym kept.came) (two n low high full)) outs ample in
    let after = hands_keep 2 refl outs (run_kept r') kept.inside e.hands in
    record {
      gateway = e.gateway;
      past = e.past;
      goes = hands_go 2 refl outs (run_kept r') kept.inside e.hands (hands_go 1 refl outs (run_kept r) a d.hands stay);
      each = on_both (λ c. e.past.handed c ≡ p.taken c) (after.others 1 (λ q. absurd (omega arith)) ∙ d.all) e.all;
    }

-- "on each reliable channel, each way"
pub promised : {i j identifier kind : ℕ} {g h : Gateway} {p q : Past} → Run i j identifier kind g p h q → Promised g i p h j q
promised r = record { there = carried r; back = carried (turned_run r) }

-- an accepted call that leaves the line in modem relay
serves : {i identifier kind : ℕ} {g : Gateway} {p : Past} {f : End} (c : Call) (out : List ℕ) → Passes g c out → p.opened ≡ true → LeftIn i identifier kind f (after g c out) p
    → Serves result_of g i c out
serves {g = g} c out pass o left = record { accepted = call_accepted g c out pass; opened = (is_open_lem left.1.0 o).opened; inside = left.0 }

-- the line is served
all_served : {i j identifier kind : ℕ} {g h : Gateway} {p q : Past} → Run i j identifier kind g p h q → InRelay g i p → Served result_of bound i j identifier kind g p h q
all_served {i} {g = g} {p = p} r a =
    let k = run_kept r in
    let s = k.mine in
    let o = a.0 in
    record {
      takes = λ channel v m some few below space out.
          let pass = take_passes s a k.joined out channel v m some few below space in
          serves {p = took_past p channel m} (call.taking i channel m) out pass o (took_kept s o k.joined out channel m pass);
      numbers = λ channel m out e. taking_says g i p o channel m out e;
      ranks = λ channel v n low high full. each_has_rank r channel v a n low high full;
      sends = λ channel v rank l out space.
          let pass = call_passes g (call.sending i channel rank) out (sends_accepted r channel v a rank l out space) in
          serves {p = wrote_past p _} (call.sending i channel rank) out pass o (sent_kept s o k.joined out channel rank pass);
      empties = λ channel c out space.
          let pass = empty_passes s a k.joined out channel c space in
          serves {p = wrote_past p _} (call.empty i channel) out pass o (wrote_kept s o k.joined out channel pass);
      hands = λ channel v full out space.
          let pass = hand_passes s a k.joined out channel v full space in
          serves {p = handed_past p channel _} (call.hand_out i channel) out pass o (handed_kept s o k.joined out channel pass);
      arrives = λ x packet honest out. (
        arrives_here s k.yours o k.joined x packet a.1 honest out,
        serves {p = heard_past p packet} (call.arrival x) out (arrival_tests_lem s k.yours o k.joined x packet a.1 honest out) o (heard_kept s k.yours o k.joined x packet a.1 honest out),
      );
    }

-- OURS MEETS DEMAND 3
pub ours_demand3 : Demand3 ours
ours_demand3 =
    record {
      begins = begins;
      promised = promised;
      noted = notes_true;
      served = all_served;
      ends = λ r a b channel v. record { all_out = all_out r channel v b };
      goes_on = λ r a b. record { takes_more = can_take r a b; settles = can_finish r a b };
    }
