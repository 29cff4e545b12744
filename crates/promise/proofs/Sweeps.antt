-- Every message that is under way comes to the other end: in each round either end writes one packet, with a message that it holds or empty, and both
-- arrive. So what is owed at one end leaves with its next packet, and two rows of rounds, one of each channel, are enough.
-- Assumes nothing.
use Prim.Native.Nat.{ℕ, zero, suc, ◌+◌, ◌≤◌, ◌<◌}
use mathlib.Core.Path.{◌≡◌, refl, sym, ap, subst, ◌∙◌}
use mathlib.Core.Bool.{true}
use mathlib.Core.List.Memᴰ
use mathlib.Core.List.{List, []}
use native.Mathlib.Decide.{dec_lt}
use native.Mathlib.Omega.{arith}
use lib.Dec.{lit≤}
use lib.ListN.{length, drop}
use Rattle.ground.proofs.Every.{below_suc}
use Rattle.sending.specs.Sending.{held_count}
use Rattle.channel.specs.Channel.{window_of}
use Rattle.channel.proofs.Windows.{window_narrow}
use Rattle.flow.specs.Flow.{Message, Full}
use Rattle.flow.proofs.Flows.{none_or}
use Rattle.line.specs.Line.{sending_of}
use Rattle.relay.specs.RelayTests.{reliable}
use Rattle.writing.specs.Send.{ranked, held_in}
use Rattle.calls.specs.Call as call
use Rattle.promise.specs.Past.{Past, enter_all}
use Rattle.promise.specs.Run.{Gateway, line_at, Each, none, also, ranked_mark, base_mark, noted_held, sent}
use Rattle.promise.specs.Promise.{sends_by}
use Rattle.promise.specs.Ours.{Recent, does}
use Rattle.promise.proofs.Lists.{each_at, each_take}
use Rattle.promise.specs.Notes.{mark}
use Rattle.promise.proofs.OwnLine.{Passes, call_accepted}
use Rattle.promise.proofs.CallsKeep.{joined_open, sent_kept}
use Rattle.promise.proofs.StepsKeep.{Pair, turned}
use Rattle.promise.proofs.OwedNumbers.{enter_length, each_enter}
use Rattle.promise.proofs.Accepts.{held_rank, send_passes}
use Rattle.promise.proofs.CameStays.{CameTo, came_sent}
use Rattle.promise.proofs.Exchanges.{roomy, Now, turned_now, Since, then_since, none_since, turned_since, Writes, empty_of, arrived, arrived_since, none_left}

-- what lies below the base has come
below_base : {i j identifier kind : ℕ} {g h : Gateway} {p q : Past} → Pair i j identifier kind g p h q → (c : ℕ) → reliable c ≡ true → (n : ℕ) → n < (sends_by g i p c).h → CameTo h j q (mark c n)
below_base k c v n l = record { served = v; have = λ r. absurd (let there = k.joined.there c v in omega (arith, there.low)) }

module _ {i j identifier kind : ℕ} {g₀ h₀ : Gateway} {p₀ q₀ : Past} where
  -- A packet of this end has come to the other: after it message n of the channel has come there, if there is one.
  record Told (c n : ℕ) (x : Now i j identifier kind g₀ p₀ h₀ q₀) : Type 0 where
    then : Now i j identifier kind g₀ p₀ h₀ q₀
    since : Since 1 0 x then
    leaves : then.mine.owes ≡ drop 3 x.mine.owes
    few : length then.yours.owes ≤ suc (length x.yours.owes)
    recent : Each (Recent x.mine.taken) x.yours.owes → Each (Recent then.mine.taken) then.yours.owes
    has : n < length (x.mine.taken c) → CameTo then.there j then.yours (mark c n)

  module _ (x : Now i j identifier kind g₀ p₀ h₀ q₀) (c : ℕ) (v : reliable c ≡ true) (n : ℕ) (recents : Each (Recent x.yours.taken) x.mine.owes) where
    -- an empty one, if it has come already
    told_empty : (n < length (x.mine.taken c) → CameTo x.there j x.yours (mark c n)) → Told c n x
    unfolding enter_all
    told_empty has =
        let w = empty_of x 0 (omega arith) in
        let s = arrived_since x w none none (each_take 3 recents) in
        record {
          then = arrived x w none none (each_take 3 recents);
          since = s;
          leaves = refl;
          few = omega arith;
          recent = λ e. e;
          has = λ l. s.came_there (has l);
        }

    -- the message itself, if it is held
    module _ (low : (sends_by x.here i x.mine c).h ≤ n) (high : n < (sends_by x.here i x.mine c).S) (full : Full ((sends_by x.here i x.mine c).held n)) where
      held : (rank : ℕ) × (rank < held_count (sending_of (line_at x.here i) c)) × ((held_in (ranked (line_at x.here i) c rank)).number ≡ n)
      held = held_rank x.pair.mine x.relays_here x.pair.joined roomy c v n low high full

      pass : Passes x.here (call.sending i c held.0) roomy
      pass = send_passes x.pair.mine x.relays_here x.pair.joined roomy c v held.0 held.1 (lit≤ tt)

      abbrev writes : Writes x
      writes =
          let d = call.sending i c held.0 in
          let packet = noted_held x.here x.mine i c held.0 (does x.here d roomy) in
          record {
            by = d;
            packet = packet;
            adds = sent c held.0 (call_accepted x.here d roomy pass);
            left = sent_kept x.pair.mine x.relays_here.0 x.pair.joined roomy c held.0 pass;
            stays = λ m. came_sent x.pair x.relays_here m roomy c held.0 pass packet;
          }

      lately : Recent x.mine.taken (ranked_mark x.here i c held.0)
      lately = let there = x.pair.joined.there c v in omega (arith, there.count, there.high, window_narrow c, held.2, low)

      near : Recent x.yours.taken (base_mark x.here i c)
      near = let back = (joined_open x.pair.mine x.relays_here.0 x.pair.joined roomy).back c v in omega (arith, back.count, back.high, back.low, window_narrow c)

      told_message : Told c n x
      unfolding enter_all
      told_message =
          let y = arrived x writes (also lately none) (also near none) (each_take 3 recents) in
          let m = ranked_mark x.here i c held.0 in
          record {
            then = y;
            since = arrived_since x writes (also lately none) (also near none) (each_take 3 recents);
            leaves = refl;
            few = enter_length x.yours.owes m;
            recent = each_enter m lately;
            has = λ l. subst (λ (k : ℕ). CameTo y.there j y.yours (mark c k)) held.2 (each_at (Memᴰ.head refl) y.pair.joined.yours.came);
          }

    -- whichever it is
    told : Told c n x
    told = go (dec_lt n (sends_by x.here i x.mine c).h) (dec_lt n (sends_by x.here i x.mine c).S)
      where
        go : Dec (n < (sends_by x.here i x.mine c).h) → Dec (n < (sends_by x.here i x.mine c).S) → Told c n x
        go (yes q) e = told_empty (λ l. below_base x.pair c v n q)
        go (no q) (no e) = told_empty (λ l. absurd (let there = x.pair.joined.there c v in omega (arith, there.count)))
        go (no q) (yes e) =
            none_or ((sends_by x.here i x.mine c).held n)
            (λ u. told_empty (λ l. record { served = v; have = λ r. (x.pair.joined.there c v).safe n r e u }))
            (λ u. told_message (omega arith) e u)

  -- Little is owed here, and it can be told; nothing is owed there.
  pub record Calm (x : Now i j identifier kind g₀ p₀ h₀ q₀) : Type 0 where
    pub few : length x.mine.owes ≤ 1
    pub recent : Each (Recent x.yours.taken) x.mine.owes
    pub quiet : x.yours.owes ≡ []

-- A round: either end writes a packet, this one first, and both arrive.
module _ {i j identifier kind : ℕ} {g₀ h₀ : Gateway} {p₀ q₀ : Past} where
  record Round (c n m : ℕ) (x : Now i j identifier kind g₀ p₀ h₀ q₀) : Type 0 where
    then : Now i j identifier kind g₀ p₀ h₀ q₀
    since : Since 1 1 x then
    calm : Calm then
    there : n < length (p₀.taken c) → CameTo then.there j then.yours (mark c n)
    here : m < length (q₀.taken c) → CameTo then.here i then.mine (mark c m)

  round : (c n m : ℕ) → reliable c ≡ true → (x : Now i j identifier kind g₀ p₀ h₀ q₀) → Calm x → Round c n m x
  round c n m v x k =
      let a = told x c v n k.recent in
      let y = a.then in
      let ready = a.recent (subst (Each (Recent x.mine.taken)) (sym k.quiet) none) in
      let b = told (turned_now y) c v m ready in
      let z = turned_now b.then in
      let gone : y.mine.owes ≡ [] = a.leaves ∙ none_left 3 x.mine.owes (omega (arith, k.few)) in
      let back = turned_since b.since in
      record {
        then = z;
        since = then_since a.since back (omega arith) (omega arith);
        calm = record {
          few = omega (arith, b.few, ap length gone);
          recent = b.recent (subst (Each (Recent y.yours.taken)) (sym gone) none);
          quiet = b.leaves ∙ none_left 3 y.yours.owes (omega (arith, a.few, ap length k.quiet));
        };
        there = λ l. back.came_there (a.has (omega (arith, l, ap (λ (t : ℕ → List Message). length (t c)) x.same_here)));
        here = λ l. b.has (omega (arith, l, ap (λ (t : ℕ → List Message). length (t c)) y.same_there));
      }

  -- all messages of a channel have come, each way
  pub record Swept (c k : ℕ) (x : Now i j identifier kind g₀ p₀ h₀ q₀) : Type 0 where
    pub then : Now i j identifier kind g₀ p₀ h₀ q₀
    pub since : Since k k x then
    pub calm : Calm then
    pub there : (n : ℕ) → n < length (p₀.taken c) → CameTo then.there j then.yours (mark c n)
    pub here : (n : ℕ) → n < length (q₀.taken c) → CameTo then.here i then.mine (mark c n)

  -- from number n on there, and from m on here, in k rounds
  rounds : (c : ℕ) → reliable c ≡ true → (k n m : ℕ) (x : Now i j identifier kind g₀ p₀ h₀ q₀) → Calm x → length (p₀.taken c) ≤ n + k → length (q₀.taken c) ≤ m + k
      → ((r : ℕ) → r < n → r < length (p₀.taken c) → CameTo x.there j x.yours (mark c r))
      → ((r : ℕ) → r < m → r < length (q₀.taken c) → CameTo x.here i x.mine (mark c r)) → Swept c k x
  rounds c v zero n m x calm e f there here =
      record { then = x; since = none_since x; calm = calm; there = λ r l. there r (omega arith) l; here = λ r l. here r (omega arith) l }
  rounds c v (suc k) n m x calm e f there here =
      let y = round c n m v x calm in
      let rest = rounds c v k (suc n) (suc m) y.then y.calm (omega arith) (omega arith)
      (below_suc (λ r. r < length (p₀.taken c) → CameTo y.then.there j y.then.yours (mark c r)) n (λ r a l. y.since.came_there (there r a l)) y.there)
      (below_suc (λ r. r < length (q₀.taken c) → CameTo y.then.here i y.then.mine (mark c r)) m (λ r a l. y.since.came_here (here r a l)) y.here) in
      record {
        then = rest.then;
        since = then_since y.since rest.since (omega arith) (omega arith);
        calm = rest.calm;
        there = rest.there;
        here = rest.here;
      }

  pub sweep : (c : ℕ) → reliable c ≡ true → (x : Now i j identifier kind g₀ p₀ h₀ q₀) → Calm x → Swept c (window_of c) x
  sweep c v x calm =
      let there = x.pair.joined.there c v in
      let back = x.pair.joined.back c v in
      rounds c v (window_of c) (sends_by x.here i x.mine c).h (sends_by x.there j x.yours c).h x calm
      (omega (arith, there.count, there.high, ap (λ (t : ℕ → List Message). length (t c)) x.same_here))
      (omega (arith, back.count, back.high, ap (λ (t : ℕ → List Message). length (t c)) x.same_there))
      (λ r a l. below_base x.pair c v r a) (λ r a l. below_base (turned x.pair) c v r a)
