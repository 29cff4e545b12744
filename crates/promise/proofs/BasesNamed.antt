-- Once all is handed out, an empty packet on a channel tells the peer so: it names the base, and no message of the channel is held there any more.
-- Assumes nothing.
use Prim.Native.Nat.{ℕ, ◌≤◌}
use mathlib.Core.Path.{◌≡◌, refl, sym, ap, subst, ◌∙◌}
use mathlib.Core.Bool.{Bool, true}
use mathlib.Core.List.{List, [], ◌∷◌}
use native.Mathlib.Omega.{arith}
use lib.Dec.{eqb}
use lib.ListN.{length, drop}
use lib.Seq.{length-take-le}
use borrow.Author.Tests.{ne_eqb}
use Rattle.ground.specs.Pick.{pick}
use Rattle.ground.proofs.Picks.{pick_by}
use Rattle.channel.proofs.Windows.{window_narrow}
use Rattle.flow.specs.Flow.{Message}
use Rattle.line.specs.Line.{receiving_of}
use Rattle.line.specs.declared.Line.{Line}
use Rattle.relay.specs.RelayTests.{reliable}
use Rattle.relay.proofs.Lines.{channel_span}
use Rattle.writing.specs.Write.{wrote_line}
use Rattle.calls.specs.Call as call
use Rattle.calls.specs.Order.{line_for}
use Rattle.calls.specs.Result.{effect}
use Rattle.promise.specs.Past.{Past, enter_all}
use Rattle.promise.specs.Run.{Gateway, line_at, Each, none, also, base_mark}
use Rattle.promise.specs.Ours.{Recent, after}
use Rattle.promise.proofs.Lists.{each_take}
use Rattle.promise.specs.Notes.{mark}
use Rattle.promise.proofs.OwnLine.{line_left}
use Rattle.promise.proofs.CallsKeep.{joined_open}
use Rattle.promise.proofs.StepsKeep.{turned}
use Rattle.promise.proofs.BaseHeard.{base_of, base_on, base_reached}
use Rattle.promise.proofs.Exchanges.{none_left, roomy, Now, turned_now, Since, then_since, turned_since, Writes, empties, empty_of, lost, honest, arrived, arrived_since}
use Rattle.promise.proofs.Sweeps.{Calm}

module _ {i j identifier kind : ℕ} {g₀ h₀ : Gateway} {p₀ q₀ : Past} where
  -- the base of this end is named on channel c, and heard at the other
  record Named (c : ℕ) (x : Now i j identifier kind g₀ p₀ h₀ q₀) : Type 0 where
    then : Now i j identifier kind g₀ p₀ h₀ q₀
    since : Since 1 0 x then
    handed_here : then.mine.handed ≡ x.mine.handed
    handed_there : then.yours.handed ≡ x.yours.handed
    leaves : then.mine.owes ≡ drop 3 x.mine.owes
    owes : then.yours.owes ≡ x.yours.owes
    base_here : (d : ℕ) → base_of (line_at x.here i) d ≤ base_of (line_at then.here i) d
    base_there : (d : ℕ) → base_of (line_at x.there j) d ≤ base_of (line_at then.there j) d
    reached : length (q₀.taken c) ≤ base_of (line_at then.there j) c

  module _ (c : ℕ) (v : reliable c ≡ true) (x : Now i j identifier kind g₀ p₀ h₀ q₀) (recents : Each (Recent x.yours.taken) x.mine.owes) (out : x.mine.handed c ≡ q₀.taken c) where
    few : c ≤ 2
    few = (channel_span c v).1

    abbrev writes : Writes x
    writes = empty_of x c few

    -- the base is the number of messages handed out, which is all that were taken
    next : (receiving_of (line_at x.here i) c).next ≡ length (q₀.taken c)
    next =
        let back = (joined_open x.pair.mine x.relays_here.0 x.pair.joined roomy).back c v in
        let R = (receiving_of (line_at x.here i) c).next in
        sym (ap length back.out ∙ length-take-le R (x.yours.taken c) (omega (arith, back.mid, back.count))) ∙ ap length out

    near : Recent x.yours.taken (base_mark x.here i c)
    near = let back = (joined_open x.pair.mine x.relays_here.0 x.pair.joined roomy).back c v in omega (arith, back.count, back.high, back.low, window_narrow c)

    named : Each (Recent x.yours.taken) writes.packet.names
    named = pick_by (Each (Recent x.yours.taken)) (eqb c 0) (λ _. none) (λ _. also near none)

    names : writes.packet.names ≡ mark c (receiving_of (line_at x.here i) c).next ∷ []
    names = ap (λ (t : Bool). pick t [] (base_mark x.here i c ∷ [])) (ne_eqb c 0 (λ q. absurd (omega (arith, q, (channel_span c v).0))))

    -- a packet written leaves the base that was heard here
    wrote_base : (d : ℕ) → base_of (line_at (after x.here (call.empty i c) roomy) i) d ≡ base_of (line_at x.here i) d
    unfolding line_for effect wrote_line
    wrote_base d = ap (λ (l : Line). base_of l d) (line_left x.pair.mine (call.empty i c) roomy refl (empties x c few))

    name_base : Named c x
    unfolding enter_all
    name_base =
        let acks = each_take 3 recents in
        let k = turned (lost x writes).pair in
        let ok = honest x writes none named acks in
        record {
          then = arrived x writes none named acks;
          since = arrived_since x writes none named acks;
          handed_here = refl;
          handed_there = refl;
          leaves = refl;
          owes = refl;
          base_here = λ d. omega (arith, wrote_base d);
          base_there = base_on k x.relays_there writes.packet ok roomy;
          reached = omega (arith, next, base_reached k x.relays_there writes.packet ok roomy names);
        }

-- each way
module _ {i j identifier kind : ℕ} {g₀ h₀ : Gateway} {p₀ q₀ : Past} where
  -- all is handed out at both ends, and little is owed
  pub record Done (x : Now i j identifier kind g₀ p₀ h₀ q₀) : Type 0 where
    pub handed_here : (c : ℕ) → reliable c ≡ true → x.mine.handed c ≡ q₀.taken c
    pub handed_there : (c : ℕ) → reliable c ≡ true → x.yours.handed c ≡ p₀.taken c
    pub calm : Calm x

  pub record BothNamed (c : ℕ) (x : Now i j identifier kind g₀ p₀ h₀ q₀) : Type 0 where
    pub then : Now i j identifier kind g₀ p₀ h₀ q₀
    pub since : Since 1 1 x then
    pub done : Done then
    pub quiet : then.mine.owes ≡ []
    pub base_here : (d : ℕ) → base_of (line_at x.here i) d ≤ base_of (line_at then.here i) d
    pub base_there : (d : ℕ) → base_of (line_at x.there j) d ≤ base_of (line_at then.there j) d
    pub reached_here : length (p₀.taken c) ≤ base_of (line_at then.here i) c
    pub reached_there : length (q₀.taken c) ≤ base_of (line_at then.there j) c

  pub name_both : (c : ℕ) → reliable c ≡ true → (x : Now i j identifier kind g₀ p₀ h₀ q₀) → Done x → BothNamed c x
  name_both c v x k =
      let a = name_base c v x k.calm.recent (k.handed_here c v) in
      let y = a.then in
      let there : y.yours.owes ≡ [] = a.owes ∙ k.calm.quiet in
      let out : (d : ℕ) → reliable d ≡ true → y.yours.handed d ≡ p₀.taken d = λ d u. ap (λ (f : ℕ → List Message). f d) a.handed_there ∙ k.handed_there d u in
      let b = name_base c v (turned_now y) (subst (Each (Recent y.mine.taken)) (sym there) none) (out c v) in
      let z = turned_now b.then in
      let here : z.mine.owes ≡ [] = b.owes ∙ a.leaves ∙ none_left 3 x.mine.owes (omega (arith, k.calm.few)) in
      record {
        then = z;
        since = then_since a.since (turned_since b.since) (omega arith) (omega arith);
        done = record {
          handed_here = λ d u. ap (λ (f : ℕ → List Message). f d) (b.handed_there ∙ a.handed_here) ∙ k.handed_here d u;
          handed_there = λ d u. ap (λ (f : ℕ → List Message). f d) b.handed_here ∙ out d u;
          calm = record { few = omega (arith, ap length here); recent = subst (Each (Recent z.yours.taken)) (sym here) none; quiet = b.leaves ∙ ap (drop 3) there };
        };
        quiet = here;
        base_here = λ d. omega (arith, a.base_here d, b.base_there d);
        base_there = λ d. omega (arith, a.base_there d, b.base_here d);
        reached_here = b.reached;
        reached_there = omega (arith, a.reached, b.base_here c);
      }
