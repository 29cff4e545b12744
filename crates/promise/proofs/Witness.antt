-- Packets are lost, repeated and reordered in runs of ours, and all is handed out; and the oldest packet that may arrive is as old as the premise says.
-- Assumes nothing.
use Prim.Native.Nat.{ℕ, zero, suc, ◌≤◌, ◌<◌}
use mathlib.Core.Path.{◌≡◌, refl}
use mathlib.Core.Bool.{true}
use mathlib.Core.List.{List, [], ◌∷◌, Memᴰ}
use native.Mathlib.Omega.{arith}
use lib.Dec.{lit≤, lit<, eqb}
use lib.ListN.{length}
use Rattle.ground.proofs.Picks.{pick_by}
use Rattle.channel.specs.Channel.{window_of}
use Rattle.flow.specs.Flow.{Message}
use Rattle.line.specs.Fit.{settings_fit}
use Rattle.relay.specs.RelayTests.{reliable}
use Rattle.book.specs.Book.{fresh_book}
use Rattle.book.specs.Parts.{store_length}
use Rattle.promise.specs.Past.{Mark}
use Rattle.promise.specs.Run.{Each, none, also, taken_after}
use Rattle.promise.specs.Ours.{Recent}
use Rattle.promise.specs.Witness.{Sized, Passing, Losing, Repeating, Reordering}
use Rattle.promise.proofs.AnyWay.{any_way}

two_fit : (channel : ℕ) → 2 ≤ window_of channel
two_fit channel = pick_by (λ (w : ℕ). 2 ≤ w) (eqb channel 1) (λ _. lit≤ tt) (λ _. lit≤ tt)

-- the first of a list, and the second
first : {k : ℕ} {l : List ℕ} → Memᴰ k (k ∷ l)
first = Memᴰ.head refl

second : {k x : ℕ} {l : List ℕ} → Memᴰ k (x ∷ k ∷ l)
second = Memᴰ.tail first

-- For any two messages, on any lines, with any stores, on either reliable channel.
module _ (identifier kind : ℕ) (fitting : settings_fit (record { identifier = identifier; kind = kind; vbd = true; relay = true }) ≡ true) (i j : ℕ) (store1 store2 : List ℕ) (lines : (i < 4) × (j < 4))
    (long : (store_length fresh_book ≤ length store1) × (store_length fresh_book ≤ length store2)) (c : ℕ) (v : reliable c ≡ true) (m n : Message) (a : Sized m) (b : Sized n) where
  two_pass : (sent arrived : List ℕ) → Each (λ (k : ℕ). k < 2) sent → Each (λ (k : ℕ). Memᴰ k sent) arrived → Memᴰ 0 arrived → Memᴰ 1 arrived
      → Passing i j identifier kind c (m ∷ n ∷ []) sent arrived
  two_pass sent arrived below known zeroth other =
      any_way identifier kind fitting i j store1 store2 lines long c v (m ∷ n ∷ []) (also a (also b none)) (two_fit c) sent arrived below known both
    where
      both : (k : ℕ) → k < 2 → Memᴰ k arrived
      both zero l = zeroth
      both (suc zero) l = other
      both (suc (suc k)) l = absurd (omega arith)

  -- "lost": there is a run in which a packet is written and does not arrive, and both messages are handed out in order
  pub lost_passes : Losing i j identifier kind c m n
  lost_passes = two_pass (0 ∷ 1 ∷ 0 ∷ []) (0 ∷ 1 ∷ []) (also (lit< tt) (also (lit< tt) (also (lit< tt) none))) (also first (also second none)) first second

  -- "repeated": there is one in which a packet arrives twice, and each message is handed out once, in order
  pub repeated_passes : Repeating i j identifier kind c m n
  repeated_passes = two_pass (1 ∷ 0 ∷ []) (0 ∷ 1 ∷ 0 ∷ []) (also (lit< tt) (also (lit< tt) none)) (also second (also first (also second none))) first second

  -- "reordered": there is one in which the older packet arrives after the newer one, and both messages are handed out in order
  pub reordered_passes : Reordering i j identifier kind c m n
  reordered_passes = two_pass (1 ∷ 0 ∷ []) (0 ∷ 1 ∷ []) (also (lit< tt) (also (lit< tt) none)) (also second (also first none)) first second

-- "fewer than 16,352": a packet may arrive though 16,351 messages were taken after one that it carries, acknowledges or names as base
pub oldest : (taken : ℕ → List Message) (m : Mark) → taken_after taken m ≡ 16351 → Recent taken m
oldest taken m e = omega (arith, e)
