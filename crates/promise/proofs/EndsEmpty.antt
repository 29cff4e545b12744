-- Once every message has come to an end it hands them all out there, on both channels.
-- Assumes nothing.
use Prim.Native.Nat.{ℕ, ◌-◌, ◌<◌}
use mathlib.Core.Path.{◌≡◌, refl, sym, ap, ◌∙◌}
use mathlib.Core.Bool.{true}
use mathlib.Core.List.{List}
use native.Mathlib.Omega.{arith}
use lib.Dec.{lit≤}
use lib.ListN.{length}
use Rattle.flow.specs.Flow.{Message}
use Rattle.relay.specs.RelayTests.{reliable}
use Rattle.promise.specs.Past.{Past}
use Rattle.promise.specs.Run.{Gateway, stay}
use Rattle.promise.specs.Promise.{sends_by, receives_by}
use Rattle.promise.specs.Ours.{AllOut}
use Rattle.promise.specs.Notes.{mark}
use Rattle.promise.proofs.Ends.{on_both}
use Rattle.promise.proofs.StepsKeep.{goes_kept}
use Rattle.promise.proofs.CameStays.{CameTo}
use Rattle.promise.proofs.Drains.{hands_go, hands_keep, drained}
use Rattle.promise.proofs.Exchanges.{roomy, Now, turned_now, Since, then_since, turned_since}

module _ {i j identifier kind : ℕ} {g₀ h₀ : Gateway} {p₀ q₀ : Past} where
  -- every message of the channel has come to the other end
  abbrev pub AllThere : ℕ → Now i j identifier kind g₀ p₀ h₀ q₀ → Type 0
  AllThere c x = (n : ℕ) → n < length (p₀.taken c) → CameTo x.there j x.yours (mark c n)

  -- what the hand-outs of the other end leave
  pub record Emptied (c : ℕ) (x : Now i j identifier kind g₀ p₀ h₀ q₀) : Type 0 where
    pub then : Now i j identifier kind g₀ p₀ h₀ q₀
    pub since : Since 0 0 x then
    pub mine : then.mine ≡ x.mine
    pub owes : then.yours.owes ≡ x.yours.owes
    pub all : then.yours.handed c ≡ p₀.taken c
    pub others : (n : ℕ) → (n ≡ c → ⊥) → then.yours.handed n ≡ x.yours.handed n

  empty_one : (c : ℕ) → reliable c ≡ true → (x : Now i j identifier kind g₀ p₀ h₀ q₀) → AllThere c x → Emptied c x
  empty_one c v x come =
      let there = x.pair.joined.there c v in
      let count : length (p₀.taken c) ≡ (sends_by x.here i x.mine c).S = ap (λ (t : ℕ → List Message). length (t c)) (sym x.same_here) ∙ there.count in
      let a : AllOut j c x.mine x.there x.yours (λ n. roomy) = drained c v (λ n. roomy) (λ n. lit≤ tt) ((sends_by x.here i x.mine c).S - (receives_by x.there j x.yours c).R)
      x.pair x.relays_there (omega (arith, there.mid)) (λ n l. (come n (omega (arith, l, count))).have) in
      let kept = hands_keep c v (λ n. roomy) x.pair x.relays_there a.hands in
      record {
        then = record {
          here = x.here;
          mine = x.mine;
          there = a.gateway;
          yours = a.past;
          goes = hands_go c v (λ n. roomy) x.pair x.relays_there a.hands x.goes;
          pair = goes_kept x.pair (hands_go c v (λ n. roomy) x.pair x.relays_there a.hands stay);
          relays_here = x.relays_here;
          relays_there = kept.inside;
          same_here = x.same_here;
          same_there = kept.taken ∙ x.same_there;
        };
        since = record { wrote_here = omega arith; wrote_there = omega (arith, ap length kept.wrote); came_here = λ m. m; came_there = kept.stays };
        mine = refl;
        owes = kept.owes;
        all = a.all ∙ ap (λ (t : ℕ → List Message). t c) x.same_here;
        others = kept.others;
      }

  -- on both channels
  pub record AllEmptied (x : Now i j identifier kind g₀ p₀ h₀ q₀) : Type 0 where
    pub then : Now i j identifier kind g₀ p₀ h₀ q₀
    pub since : Since 0 0 x then
    pub mine : then.mine ≡ x.mine
    pub owes : then.yours.owes ≡ x.yours.owes
    pub all : (c : ℕ) → reliable c ≡ true → then.yours.handed c ≡ p₀.taken c

  empty_all : (x : Now i j identifier kind g₀ p₀ h₀ q₀) → AllThere 1 x → AllThere 2 x → AllEmptied x
  empty_all x one two =
      let a = empty_one 1 refl x one in
      let b = empty_one 2 refl a.then (λ n l. a.since.came_there (two n l)) in
      record {
        then = b.then;
        since = then_since a.since b.since (omega arith) (omega arith);
        mine = b.mine ∙ a.mine;
        owes = b.owes ∙ a.owes;
        all = on_both (λ c. b.then.yours.handed c ≡ p₀.taken c) (b.others 1 (λ q. absurd (omega arith)) ∙ a.all) b.all;
      }

-- at both ends
module _ {i j identifier kind : ℕ} {g₀ h₀ : Gateway} {p₀ q₀ : Past} where
  pub record BothEmptied (x : Now i j identifier kind g₀ p₀ h₀ q₀) : Type 0 where
    pub then : Now i j identifier kind g₀ p₀ h₀ q₀
    pub since : Since 0 0 x then
    pub owes_here : then.mine.owes ≡ x.mine.owes
    pub owes_there : then.yours.owes ≡ x.yours.owes
    pub handed_here : (c : ℕ) → reliable c ≡ true → then.mine.handed c ≡ q₀.taken c
    pub handed_there : (c : ℕ) → reliable c ≡ true → then.yours.handed c ≡ p₀.taken c

  pub empty_both : (x : Now i j identifier kind g₀ p₀ h₀ q₀) → AllThere 1 x → AllThere 2 x → AllThere 1 (turned_now x) → AllThere 2 (turned_now x) → BothEmptied x
  empty_both x one two three four =
      let a = empty_all x one two in
      let b = empty_all (turned_now a.then) (λ n l. a.since.came_here (three n l)) (λ n l. a.since.came_here (four n l)) in
      record {
        then = turned_now b.then;
        since = then_since a.since (turned_since b.since) (omega arith) (omega arith);
        owes_here = b.owes ∙ ap (λ (p : Past). p.owes) a.mine;
        owes_there = ap (λ (p : Past). p.owes) b.mine ∙ a.owes;
        handed_here = b.all;
        handed_there = λ c v. ap (λ (p : Past). p.handed c) b.mine ∙ a.all c v;
      }
