-- The laws of distances and of places, once over the window's size w, which need not divide 16,384. A packet may name messages
-- up to `stale` back; with w + stale at most 16,384 its 14 bits say which full number is meant.
-- Assumes nothing.
use Prim.Native.Nat.{ℕ, ◌+◌, ◌-◌, ◌%◌, ◌≤◌, ◌<◌}
use mathlib.Core.Path.{◌≡◌}
use native.Mathlib.Omega.{arith}
use Rattle.ground.proofs.Picks.{pick_lt}
use Rattle.channel.specs.Channel.{modulus}
use Rattle.channel.specs.Distance.{dist, place_of}

-- a distance is below the modulus, leads from h to n, and is the only such number
pub dist_lt : (n h : ℕ) → dist n h < modulus
dist_lt n h = omega arith

pub dist_leads : (n h : ℕ) → (h + dist n h) % modulus ≡ n % modulus
dist_leads n h = omega arith

pub dist_only : (n h d : ℕ) → d < modulus → (h + d) % modulus ≡ n % modulus → d ≡ dist n h
dist_only n h d l e = omega arith

-- of a number only the 14 bits that a packet carries are looked at
pub dist_field : (n h : ℕ) → dist (n % modulus) h ≡ dist n h
dist_field n h = omega arith

-- a number at or past h, and one before it
pub dist_up : (n h : ℕ) → h ≤ n → n < h + modulus → dist n h ≡ n - h
dist_up n h l s = omega arith

pub dist_down : (n h : ℕ) → n < h → h ≤ n + modulus → dist n h ≡ modulus - (h - n)
dist_down n h l s = omega arith

-- an acknowledgement that is not stale never names a message that is still to be taken
pub never_future : (w stale k S : ℕ) → w + stale ≤ modulus → k < S → S ≤ k + stale → w ≤ dist k S
never_future w stale k S wide l fresh = omega (arith, dist_down k S l (omega arith))

-- A place is one of the window's.
pub place_lt : (w origin i : ℕ) → origin < w → i ≤ w → place_of origin i w < w
place_lt w origin i l k = pick_lt (λ (p : ℕ). p < w) (origin + i) w (λ q. q) (λ q. omega arith)

-- two messages of one window have two places
pub place_once : (w origin i j : ℕ) → origin < w → i < w → j < w → place_of origin i w ≡ place_of origin j w → i ≡ j
place_once w origin i j l a b =
    pick_lt (λ (p : ℕ). p ≡ place_of origin j w → i ≡ j) (origin + i) w
    (λ q. pick_lt (λ (p : ℕ). origin + i ≡ p → i ≡ j) (origin + j) w (λ s e. omega arith) (λ s e. omega arith))
    (λ q. pick_lt (λ (p : ℕ). origin + i - w ≡ p → i ≡ j) (origin + j) w (λ s e. omega arith) (λ s e. omega arith))

-- a message stays in its place when the oldest moves on
pub place_stays : (w origin d i : ℕ) → origin < w → d + i ≤ w → place_of (place_of origin d w) i w ≡ place_of origin (d + i) w
place_stays w origin d i l k =
    pick_lt (λ (p : ℕ). place_of p i w ≡ place_of origin (d + i) w) (origin + d) w
    (λ q. pick_lt (λ (p : ℕ). p ≡ place_of origin (d + i) w) (origin + d + i) w
    (λ s. pick_lt (λ (p : ℕ). origin + d + i ≡ p) (origin + (d + i)) w (λ t. omega arith) (λ t. absurd (omega arith)))
    (λ s. pick_lt (λ (p : ℕ). origin + d + i - w ≡ p) (origin + (d + i)) w (λ t. absurd (omega arith)) (λ t. omega arith)))
    (λ q. pick_lt (λ (p : ℕ). p ≡ place_of origin (d + i) w) (origin + d - w + i) w
    (λ s. pick_lt (λ (p : ℕ). origin + d - w + i ≡ p) (origin + (d + i)) w (λ t. absurd (omega arith)) (λ t. omega arith))
    (λ s. absurd (omega arith)))
