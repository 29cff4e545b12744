-- What becomes of the two, part by part, until nothing is under way any more: what is owed leaves, what is under way comes and is handed out, and the
-- bases are named.
-- Assumes nothing.
use Prim.Native.Nat.{ℕ, ◌+◌, ◌≤◌}
use mathlib.Core.Path.{◌≡◌, refl, sym, ap, subst, ◌∙◌}
use mathlib.Core.Bool.{true}
use mathlib.Core.List.{List, []}
use native.Mathlib.Omega.{arith}
use lib.Dec.{lit≤}
use lib.ListN.{length, length-map, length-take}
use Rattle.channel.specs.Channel.{window_of}
use Rattle.flow.specs.Flow.{Message}
use Rattle.owed.proofs.Steps.{owed_ok}
use Rattle.line.proofs.Keeps.{line_ok}
use Rattle.relay.specs.RelayTests.{reliable}
use Rattle.promise.specs.Past.{Mark, Past}
use Rattle.promise.specs.Run.{Gateway, line_at, part_in, Each, none}
use Rattle.promise.specs.Promise.{InRelay}
use Rattle.promise.specs.Ours.{Recent}
use Rattle.promise.specs.GoesOn.{most_owed, packets_for, enough}
use Rattle.promise.specs.Notes.{mark_word}
use Rattle.promise.proofs.Ends.{Whole, on_both}
use Rattle.promise.proofs.Phases.{is_open_lem}
use Rattle.promise.proofs.CallsKeep.{joined_open}
use Rattle.promise.proofs.StepsKeep.{Pair, turned}
use Rattle.promise.proofs.BaseHeard.{base_of}
use Rattle.promise.proofs.Exchanges.{hush, Now, turned_now, Since, then_since, turned_since}
use Rattle.promise.proofs.Sweeps.{Calm, sweep}
use Rattle.promise.proofs.EndsEmpty.{empty_both}
use Rattle.promise.proofs.BasesNamed.{Done, name_both}

between : {a b c : ℕ} → a ≤ b → b ≤ c → a ≤ c
between l m = omega arith

-- at one end, what is owed is few
module _ {i j identifier kind : ℕ} {g h : Gateway} {p q : Past} (k : Pair i j identifier kind g p h q) (a : InRelay g i p) where
  pub whole : Whole (record { line = line_at g i; part = part_in g i; past = p })
  whole = (joined_open k.mine a.0 k.joined []).mine

  owed_few : length p.owes ≤ most_owed
  owed_few =
      let o = owed_ok (line_at g i).owed (line_ok (line_at g i) (is_open_lem k.mine.phase a.0).opened whole.fits).owed in
      omega (arith, o.few, ap length whole.owed, length-map p.owes mark_word, length-take (line_at g i).owed.count (line_at g i).owed.numbers)

module _ {i j identifier kind : ℕ} {g₀ h₀ : Gateway} {p₀ q₀ : Past} where
  -- what is owed at either end leaves
  record Stilled (x : Now i j identifier kind g₀ p₀ h₀ q₀) : Type 0 where
    then : Now i j identifier kind g₀ p₀ h₀ q₀
    since : Since (packets_for most_owed) (packets_for most_owed) x then
    calm : Calm then

  still : (x : Now i j identifier kind g₀ p₀ h₀ q₀) → Stilled x
  still x =
      let first = hush (packets_for most_owed) x (omega (arith, owed_few x.pair x.relays_here)) in
      let other = hush (packets_for most_owed) (turned_now first.then) (omega (arith, owed_few (turned x.pair) x.relays_there, ap length first.same)) in
      let y = turned_now other.then in
      let gone : y.mine.owes ≡ [] = other.same ∙ first.quiet in
      record {
        then = y;
        since = then_since first.since (turned_since other.since) (lit≤ tt) (lit≤ tt);
        calm = record { few = subst (λ (l : List Mark). length l ≤ 1) (sym gone) (lit≤ tt); recent = subst (Each (Recent y.yours.taken)) (sym gone) none; quiet = other.quiet };
      }

  -- all that is under way comes, and is handed out
  record Given (x : Now i j identifier kind g₀ p₀ h₀ q₀) : Type 0 where
    then : Now i j identifier kind g₀ p₀ h₀ q₀
    since : Since (window_of 1 + window_of 2) (window_of 1 + window_of 2) x then
    done : Done then

  give : (x : Now i j identifier kind g₀ p₀ h₀ q₀) → Calm x → Given x
  give x calm =
      let s = sweep 1 refl x calm in
      let t = sweep 2 refl s.then s.calm in
      let e = empty_both t.then (λ n l. t.since.came_there (s.there n l)) t.there (λ n l. t.since.came_here (s.here n l)) t.here in
      let swept : Since (window_of 1 + window_of 2) (window_of 1 + window_of 2) x t.then = then_since s.since t.since (lit≤ tt) (lit≤ tt) in
      record {
        then = e.then;
        since = then_since swept e.since (lit≤ tt) (lit≤ tt);
        done = record {
          handed_here = e.handed_here;
          handed_there = e.handed_there;
          calm = record {
            few = subst (λ (l : List Mark). length l ≤ 1) (sym e.owes_here) t.calm.few;
            recent = subst (λ (f : ℕ → List Message). Each (Recent f) e.then.mine.owes) (t.then.same_there ∙ sym e.then.same_there)
                (subst (Each (Recent t.then.yours.taken)) (sym e.owes_here) t.calm.recent);
            quiet = e.owes_there ∙ t.calm.quiet;
          };
        };
      }

  -- the bases are named: nothing is under way any more
  pub record Quiet (a b : ℕ) (x : Now i j identifier kind g₀ p₀ h₀ q₀) : Type 0 where
    pub then : Now i j identifier kind g₀ p₀ h₀ q₀
    pub since : Since a b x then
    pub done : Done then
    pub quiet : then.mine.owes ≡ []
    pub base_here : (c : ℕ) → reliable c ≡ true → length (p₀.taken c) ≤ base_of (line_at then.here i) c
    pub base_there : (c : ℕ) → reliable c ≡ true → length (q₀.taken c) ≤ base_of (line_at then.there j) c

  name : (x : Now i j identifier kind g₀ p₀ h₀ q₀) → Done x → Quiet 2 2 x
  name x done =
      let m = name_both 1 refl x done in
      let n = name_both 2 refl m.then m.done in
      record {
        then = n.then;
        since = then_since m.since n.since (lit≤ tt) (lit≤ tt);
        done = n.done;
        quiet = n.quiet;
        base_here = on_both (λ c. length (p₀.taken c) ≤ base_of (line_at n.then.here i) c) (between m.reached_here (n.base_here 1)) n.reached_here;
        base_there = on_both (λ c. length (q₀.taken c) ≤ base_of (line_at n.then.there j) c) (between m.reached_there (n.base_there 1)) n.reached_there;
      }

  pub quiets : (x : Now i j identifier kind g₀ p₀ h₀ q₀) → Quiet (enough (line_at x.here i)) (enough (line_at x.there j)) x
  quiets x =
      let s = still x in
      let e = give s.then s.calm in
      let n = name e.then e.done in
      record {
        then = n.then;
        since = then_since (then_since s.since e.since (self _) (self _)) n.since (lit≤ tt) (lit≤ tt);
        done = n.done;
        quiet = n.quiet;
        base_here = n.base_here;
        base_there = n.base_there;
      }
    where
      self : (n : ℕ) → n ≤ n
      self n = omega arith
