-- The identifiers that rest, from call to call: closing adds one and puts out the oldest of seventeen, and nothing else changes them.
-- Assumes nothing.
use Prim.Native.Nat.{ℕ, suc, ◌+◌, ◌-◌, ◌≤◌, ◌<◌}
use mathlib.Core.Path.{◌≡◌, refl, sym, ap, subst, ◌∙◌}
use mathlib.Core.Bool.{Bool, true, false, ◌&&◌}
use mathlib.Core.List.{List, [], ◌∷◌, ◌++◌, append_assoc}
use native.Mathlib.Omega.{arith}
use lib.ListN.{length, drop, length-append}
use lib.Seq.{drop-append-le}
use borrow.Author.Tests.{eqb-true, eq-eqb}
use Rattle.std.specs.Prelude.{Ok, Err}
use Rattle.ground.specs.Pick.{pick}
use Rattle.ground.specs.Refusal.{Verdict, verdict}
use Rattle.ground.proofs.Picks.{both_true}
use Rattle.ground.proofs.Either.{or_true}
use Rattle.owed.specs.Owed.{member}
use Rattle.owed.proofs.Lists.{member_append}
use Rattle.line.specs.Line.{is_open}
use Rattle.line.specs.declared.Line.{Line}
use Rattle.book.specs.Book.{line_of, with_line, resting_of}
use Rattle.book.specs.Closing.{closed_at}
use Rattle.book.specs.Parts.{part_start}
use Rattle.book.specs.Resting.{rests, last_sixteen}
use Rattle.book.specs.declared.Book.{Book}
use Rattle.book.proofs.Closing.{closed_resting}
use Rattle.calls.specs.Call.{Call}
use Rattle.calls.specs.Call as call
use Rattle.calls.specs.Order.{line_for}
use Rattle.calls.specs.Stages.{tests}
use Rattle.calls.specs.Result.{CallResult, effect}
use Rattle.calls.proofs.OrderStages.{in_stages}
use Rattle.calls.proofs.Results.{did_refused}
use Rattle.laws.specs.Reached.{Turn, turned, reach, is_closing, closes, closings}
use Rattle.laws.proofs.LineFor.{pass_open}
use Rattle.laws.proofs.Unread.{resting_opens_none}
use Rattle.laws.proofs.OwnLine.{own, accepted_passes, passes_accepted, own_book}

-- the identifier rests, and n that were closed after it rest too
pub record RestsBefore (x n : ℕ) (resting : List ℕ) : Type 0 where
  pub older : List ℕ
  pub newer : List ℕ
  pub is : resting ≡ older ++ (x ∷ newer)
  pub many : length newer ≡ n

pub rests_there : {x n : ℕ} {resting : List ℕ} → RestsBefore x n resting → member x resting ≡ true
unfolding member
rests_there {x} r = rw (r.is, member_append x r.older (x ∷ r.newer), eq-eqb x x refl) (or_true (member x r.older))

-- its own closing puts it at the end
pub just_closed : (x : ℕ) (resting : List ℕ) → RestsBefore x 0 (rests resting x)
just_closed x resting =
    let m = resting ++ (x ∷ []) in
    record {
      older = drop (length m - 16) resting;
      newer = [];
      is = drop-append-le (length m - 16) resting (x ∷ []) (omega (arith, length-append resting (x ∷ [])));
      many = refl;
    }

-- one more is closed: it is still there, if fewer than fifteen were closed after it
one_more : {x n : ℕ} {resting : List ℕ} → RestsBefore x n resting → n < 15 → (y : ℕ) → RestsBefore x (suc n) (rests resting y)
one_more {x} {n} {resting} r few y =
    let behind = x ∷ (r.newer ++ (y ∷ [])) in
    let whole : resting ++ (y ∷ []) ≡ r.older ++ behind = ap (λ (l : List ℕ). l ++ (y ∷ [])) r.is ∙ append_assoc r.older (x ∷ r.newer) (y ∷ []) in
    let more : length (r.newer ++ (y ∷ [])) ≡ suc n = length-append r.newer (y ∷ []) ∙ omega (arith, r.many) in
    let long : length (r.older ++ behind) ≡ length r.older + suc (suc n) = length-append r.older behind ∙ omega (arith, more) in
    record {
      older = drop (length (r.older ++ behind) - 16) r.older;
      newer = r.newer ++ (y ∷ []);
      is = ap last_sixteen whole ∙ drop-append-le (length (r.older ++ behind) - 16) r.older behind (omega (arith, long, few));
      many = more;
    }

-- the sixteenth after it puts it out, and what is left are those that were closed after it
pub put_out : {x : ℕ} {resting : List ℕ} → RestsBefore x 15 resting → length resting ≤ 16 → (y : ℕ) → (resting ≡ x ∷ drop 1 resting) × (rests resting y ≡ drop 1 resting ++ (y ∷ []))
put_out {x} {resting} r most y = go r.older r.is
  where
    long : (older : List ℕ) → resting ≡ older ++ (x ∷ r.newer) → length resting ≡ length older + 16
    long older e = ap length e ∙ length-append older (x ∷ r.newer) ∙ omega (arith, r.many)

    go : (older : List ℕ) → resting ≡ older ++ (x ∷ r.newer) → (resting ≡ x ∷ drop 1 resting) × (rests resting y ≡ drop 1 resting ++ (y ∷ []))
    go [] e =
        let full : length resting ≡ 16 = long [] e in
        let one : length (resting ++ (y ∷ [])) - 16 ≡ 1 = omega (arith, length-append resting (y ∷ []), full) in (
          e ∙ ap (λ (l : List ℕ). x ∷ drop 1 l) (sym e),
          ap (λ (n : ℕ). drop n (resting ++ (y ∷ []))) one ∙ drop-append-le 1 resting (y ∷ []) (omega (arith, full)),
        )
    go (z ∷ older) e = absurd (omega (arith, long (z ∷ older) e, most))

-- only closing puts an identifier to rest
rests_effect : (k : Call) (i : ℕ) (l : Line) (start : ℕ) (store out : List ℕ) → (effect k i l start store out).rests ≡ is_closing k
unfolding effect
rests_effect (call.opening j s time) i l start store out = refl
rests_effect (call.closing j) i l start store out = refl
rests_effect (call.mode j a) i l start store out = refl
rests_effect (call.taking j channel message) i l start store out = refl
rests_effect (call.sending j channel rank) i l start store out = refl
rests_effect (call.empty j channel) i l start store out = refl
rests_effect (call.arrival s) i l start store out = refl
rests_effect (call.hand_out j channel) i l start store out = refl
rests_effect (call.report j channel) i l start store out = refl

module _ (b : Book) (t : Turn) where
  abbrev i : ℕ
  i = line_for t.call b

  abbrev its : Verdict
  its = verdict (tests t.call b (length t.store) (length t.out))

  -- the book that a turn leaves which passes its tests
  left : its ≡ Ok tt → (turned b t).book ≡ pick (is_closing t.call) (closed_at b i) (with_line b i (own t.call b t.store t.out).line)
  left pass =
      own_book t.call b t.store t.out pass
      ∙ ap (λ (c : Bool). pick c (closed_at b i) (with_line b i (own t.call b t.store t.out).line)) (rests_effect t.call i (line_of b i) (part_start b i) t.store t.out)

  -- a turn that closes a line
  module _ (e : closes b t ≡ true) where
    pub closing_passes : its ≡ Ok tt
    closing_passes = accepted_passes t.call b t.store t.out (eqb-true _ _ (both_true (is_closing t.call) _ e).1)

    pub closing_leaves : (turned b t).book ≡ closed_at b i
    closing_leaves = left closing_passes ∙ ap (λ (c : Bool). pick c (closed_at b i) (with_line b i (own t.call b t.store t.out).line)) (both_true (is_closing t.call) _ e).0

    pub closing_open : is_open (line_of b i) ≡ true
    closing_open =
        pass_open t.call b (length t.store) (length t.out) closing_passes
        (resting_opens_none t.call i (line_of b i) (part_start b i) t.store t.out (rests_effect t.call i (line_of b i) (part_start b i) t.store t.out ∙ (both_true (is_closing t.call) _ e).0))

    pub closing_rests : resting_of (turned b t).book ≡ rests (resting_of b) (line_of b i).identifier
    closing_rests = ap resting_of closing_leaves ∙ closed_resting b i

  -- and one that does not
  others_rest : closes b t ≡ false → resting_of (turned b t).book ≡ resting_of b
  others_rest e = go its refl
    where
      neither : (c : Bool) {d : Bool} → d ≡ true → (c && d) ≡ false → c ≡ false
      neither true p q = sym p ∙ q
      neither false p q = refl

      go : (v : Verdict) → its ≡ v → resting_of (turned b t).book ≡ resting_of b
      go (Ok tt) p =
          let none : is_closing t.call ≡ false = neither (is_closing t.call) (eq-eqb _ 0 (passes_accepted t.call b t.store t.out p)) e in
          ap resting_of (left p ∙ ap (λ (c : Bool). pick c (closed_at b i) (with_line b i (own t.call b t.store t.out).line)) none)
      go (Err r) p = ap (λ (d : CallResult). resting_of d.book) (did_refused t.call b t.store t.out (in_stages t.call b (length t.store) (length t.out) ∙ p))

-- Whatever is called, an identifier rests until sixteen have been closed after it.
pub rests_on : (ts : List Turn) (b : Book) (x n : ℕ) → RestsBefore x n (resting_of b) → n + closings b ts < 16 → RestsBefore x (n + closings b ts) (resting_of (reach b ts))
unfolding reach closings
rests_on [] b x n r few = subst (λ (m : ℕ). RestsBefore x m (resting_of b)) (let z : n ≡ n + 0 = omega arith in z) r
rests_on (t ∷ ts) b x n r few = go (closes b t) refl (rests_on ts (turned b t).book x) few
  where
    later : ℕ
    later = closings (turned b t).book ts

    go : (c : Bool) → closes b t ≡ c → ((m : ℕ) → RestsBefore x m (resting_of (turned b t).book) → m + later < 16 → RestsBefore x (m + later) (resting_of (reach (turned b t).book ts)))
        → n + (pick c 1 0 + later) < 16 → RestsBefore x (n + (pick c 1 0 + later)) (resting_of (reach (turned b t).book ts))
    go true q rest few =
        subst (λ (m : ℕ). RestsBefore x m (resting_of (reach (turned b t).book ts))) (let z : suc n + later ≡ n + (1 + later) = omega arith in z)
        (rest (suc n) (subst (RestsBefore x (suc n)) (sym (closing_rests b t q)) (one_more r (omega arith) (line_of b (line_for t.call b)).identifier)) (omega arith))
    go false q rest few =
        subst (λ (m : ℕ). RestsBefore x m (resting_of (reach (turned b t).book ts))) (let z : n + later ≡ n + (0 + later) = omega arith in z)
        (rest n (subst (RestsBefore x n) (sym (others_rest b t q)) r) (omega arith))
