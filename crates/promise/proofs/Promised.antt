-- What the invariant promises of a reliable channel, from the end e to the end f: the order, where each waiting message lies, and that all can be
-- handed out once what is unacknowledged has come.
-- Assumes nothing.
use Prim.Native.Nat.{ℕ, ◌-◌, ◌≤◌, ◌<◌}
use mathlib.Core.Path.{◌≡◌, refl, sym, ap, ◌∙◌}
use mathlib.Core.Bool.{Bool, true, false}
use mathlib.Core.List.{List, [], ◌++◌, Memᴰ}
use mathlib.Core.Logic.{◌⊎◌, inl, inr}
use native.Mathlib.Nat.{sub_self}
use native.Mathlib.Omega.{arith}
use lib.ListN.{get_or}
use Rattle.ground.specs.Pick.{pick}
use Rattle.places.specs.Places.{mask_of, bit_of}
use Rattle.channel.specs.Channel.{window_of}
use Rattle.channel.specs.Distance.{place_of}
use Rattle.flow.specs.Flow.{Full, Have, waiting}
use Rattle.flow.specs.View.{Slots, message_at, message_of}
use Rattle.flow.proofs.Flows.{none_or, taken_all}
use Rattle.line.specs.Line.{receiving_of}
use Rattle.store.specs.declared.Way.TheVariants as way
use Rattle.relay.specs.RelayTests.{reliable}
use Rattle.promise.specs.Ends.{slots_of}
use Rattle.promise.proofs.Lists.{each_at}
use Rattle.promise.specs.Notes.{mark}
use Rattle.promise.proofs.Ends.{End, Joined, sent, got}

-- a place that has a message is in the set
pub full_bit : (w : ℕ) (slot : Slots) (sizes : List ℕ) (m origin i : ℕ) → Full (message_of w slot sizes m origin i) → bit_of m i ≡ true
full_bit w slot sizes m origin i v = go (bit_of m i) v
  where
    go : (t : Bool) → Full (pick t (message_at slot sizes (place_of origin i w)) []) → t ≡ true
    go true v = refl
    go false v = absurd v

module _ {e f : End} (j : Joined e f) (c : ℕ) (v : reliable c ≡ true) where
  -- "the messages taken for sending are always those handed out, in order and octet for octet, followed by those still waiting"
  pub in_order : e.past.taken c ≡ f.past.handed c ++ waiting (sent e c) (got f c)
  in_order = taken_all (j.there c v)

  -- "Each waiting message is held at one end or the other"
  pub held_somewhere : (n : ℕ) → (got f c).R ≤ n → n < (sent e c).S
      → Full (get_or (e.past.taken c) n []) × (((sent e c).held n ≡ get_or (e.past.taken c) n []) ⊎ ((got f c).stored n ≡ get_or (e.past.taken c) n []))
  held_somewhere n a q =
      let k = j.there c v in
      (k.solid n q, none_or ((sent e c).held n) (λ u. inr (k.keeps n a (k.safe n a q u)).1) (λ u. inl (k.sends n (omega (arith, k.low)) q u)))

  -- "Once .. every message still unacknowledged is sent and arrives, in any order": then every message has come
  pub all_have : ((n : ℕ) → (sent e c).h ≤ n → n < (sent e c).S → Full ((sent e c).held n) → Memᴰ (mark c n) f.past.came)
      → (n : ℕ) → n < (sent e c).S → Have (got f c) n
  all_have g n q a =
      let k = j.there c v in
      none_or ((sent e c).held n) (λ u. k.safe n a q u) (λ u. (each_at (g n (omega (arith, k.low)) q u) j.yours.came).have a)

-- a message that is stored as message R has its place in the set, and its number is that of a message taken
module _ {e f : End} (j : Joined e f) (c : ℕ) (v : reliable c ≡ true) (there : Full ((got f c).stored (got f c).R)) where
  pub next_there : bit_of (mask_of (receiving_of f.line c).stored) 0 ≡ true
  next_there =
      let r = receiving_of f.line c in
      let back : r.next - r.next ≡ 0 = sub_self r.next in
      ap (bit_of (mask_of r.stored)) (sym back)
      ∙ full_bit (window_of c) (slots_of f.line f.part way.Receiving c) r.sizes (mask_of r.stored) r.origin (r.next - r.next) there

  pub next_below : (got f c).R < (sent e c).S
  next_below = ((j.there c v).keeps (got f c).R (omega arith) there).0
