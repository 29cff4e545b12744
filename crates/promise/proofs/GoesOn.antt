-- It goes on, for ours: what is owed leaves, what is under way comes and is handed out, the bases are named; then nothing is held or owed at either
-- end, and another message is taken.
-- Assumes nothing.
use Rattle.promise.proofs.Quiets.{whole, quiets}
use Prim.Native.Nat.{ℕ, ◌-◌, ◌≤◌, ◌<◌}
use mathlib.Core.Path.{◌≡◌, refl, ap, ◌∙◌}
use mathlib.Core.Bool.{true}
use mathlib.Core.List.{List, [], ◌∷◌, map}
use native.Mathlib.Omega.{arith}
use lib.Dec.{lit<, eqb}
use lib.ListN.{length}
use Rattle.ground.specs.Answer.{accepted}
use Rattle.ground.proofs.Picks.{pick_by}
use Rattle.channel.specs.Channel.{window_of, cap, largest}
use Rattle.flow.specs.Flow.{Message}
use Rattle.owed.specs.Owed.{owed_of}
use Rattle.line.specs.Line.{sending_of}
use Rattle.line.specs.declared.Line.{Line}
use Rattle.relay.specs.RelayTests.{reliable}
use Rattle.calls.specs.Call as call
use Rattle.calls.specs.Result.{CallResult}
use Rattle.promise.specs.Past.{Past, took_past, more}
use Rattle.promise.specs.Run.{Gateway, line_at, part_in, took, stay, here}
use Rattle.promise.specs.Promise.{InRelay, sends_by}
use Rattle.promise.specs.Ours.{does, after, TakesMore, Settles}
use Rattle.promise.specs.Ends.{sends_of}
use Rattle.promise.specs.Demand2.{Ready}
use Rattle.promise.specs.ReportRule.{held_from}
use Rattle.promise.specs.GoesOn.{enough}
use Rattle.promise.specs.Notes.{mark_word}
use Rattle.promise.proofs.Phases.{is_open_lem}
use Rattle.promise.proofs.OwnLine.{call_accepted}
use Rattle.promise.proofs.CallsKeep.{joined_open, took_kept}
use Rattle.promise.proofs.StepsKeep.{Pair, turned}
use Rattle.promise.proofs.Accepts.{taking_passes}
use Rattle.promise.proofs.Drains.{relay_step}
use Rattle.promise.proofs.BaseHeard.{base_of}
use Rattle.promise.proofs.Exchanges.{Now}
use Rattle.promise.proofs.ReportCounts.{report_exact}

-- 22 packets for what is owed, 40 for what is under way, and 2 for the bases
pub enough_is : (l : Line) → enough l ≡ 64
enough_is l = refl

-- At one end.
module _ {i j identifier kind : ℕ} {g h : Gateway} {p q : Past} (k : Pair i j identifier kind g p h q) (a : InRelay g i p) where
  owed_none : p.owes ≡ [] → owed_of (line_at g i).owed ≡ []
  owed_none e = (whole k a).owed ∙ ap (map mark_word) e

  taken_count : (c : ℕ) → reliable c ≡ true → length (p.taken c) ≡ (sending_of (line_at g i) c).taken
  taken_count c v = ((joined_open k.mine a.0 k.joined []).there c v).count

  -- nothing is held once the base is the number of messages taken
  report_none : (c : ℕ) → reliable c ≡ true → length (p.taken c) ≤ base_of (line_at g i) c → (does g (call.report i c) []).answer ≡ accepted (0 ∷ [])
  unfolding held_from
  report_none c v l =
      let s = k.mine in
      let ready : Ready g i = record { fits = s.fits; shaped = s.shaped; long = s.long; small = s.small; opened = (is_open_lem s.phase a.0).opened } in
      let zero : (sending_of (line_at g i) c).taken - (sending_of (line_at g i) c).base ≡ 0 = omega (arith, l, taken_count c v) in
      ap (λ (d : CallResult). d.answer) (report_exact ready a.1 c v []) ∙ ap (λ (n : ℕ). accepted (held_from (sends_of (part_in g i) (line_at g i) c) n ∷ [])) zero

module _ {i j identifier kind : ℕ} {g h : Gateway} {p q : Past} (k : Pair i j identifier kind g p h q) (a : InRelay g i p) (b : InRelay h j q) where
  abbrev start : Now i j identifier kind g p h q
  start =
      record { here = g; mine = p; there = h; yours = q; goes = stay; pair = k; relays_here = a; relays_there = b; same_here = refl; same_there = refl }

  -- "Acknowledgements can bring the reports to 0": all is handed out, acknowledged, and nothing is owed
  pub settles : Settles i j identifier kind g p h q
  settles =
      let z = quiets start in
      let y = z.then in
      let back = turned y.pair in
      let here-same : (c : ℕ) → length (y.mine.taken c) ≡ length (p.taken c) = λ c. ap (λ (t : ℕ → List Message). length (t c)) y.same_here in
      let there-same : (c : ℕ) → length (y.yours.taken c) ≡ length (q.taken c) = λ c. ap (λ (t : ℕ → List Message). length (t c)) y.same_there in
      record {
        here = y.here;
        mine = y.mine;
        there = y.there;
        yours = y.yours;
        goes = y.goes;
        taken = (y.same_here, y.same_there);
        handed = λ c v. (z.done.handed_there c v, z.done.handed_here c v);
        reports = λ c v. (
          report_none y.pair y.relays_here c v (omega (arith, here-same c, z.base_here c v)),
          report_none back y.relays_there c v (omega (arith, there-same c, z.base_there c v)),
        );
        owed = (owed_none y.pair y.relays_here z.quiet, owed_none back y.relays_there z.done.calm.quiet);
        few = (z.since.wrote_here, z.since.wrote_there);
      }

  pub takes_more : (c : ℕ) → reliable c ≡ true → (m : Message) → 1 ≤ length m → length m ≤ largest → (sends_by g i p c).S < cap → TakesMore i j identifier kind g p h q c m
  takes_more c v m some small below =
      let z = quiets start in
      let y = z.then in
      let d = call.taking i c m in
      let count = taken_count y.pair y.relays_here c v in
      let same = ap (λ (t : ℕ → List Message). length (t c)) y.same_here in
      let pass = taking_passes y.pair.mine y.relays_here y.pair.joined [] c v m some small (omega (arith, count, same, below, (k.joined.there c v).count))
      (omega (arith, count, same, z.base_here c v, wide c)) in
      let left = took_kept y.pair.mine y.relays_here.0 y.pair.joined [] c m pass in
      let step = relay_step y.relays_here.0 d [] y.relays_here.0 left (took c m (call_accepted y.here d [] pass)) in
      record {
        here = after y.here d [];
        mine = took_past y.mine c m;
        there = y.there;
        yours = y.yours;
        goes = here y.goes step;
        taken = ap (λ (t : ℕ → List Message). more t c m) y.same_here;
        same = y.same_there;
      }
    where
      wide : (n : ℕ) → 0 < window_of n
      wide n = pick_by (λ (w : ℕ). 0 < w) (eqb n 1) (λ _. lit< tt) (λ _. lit< tt)
