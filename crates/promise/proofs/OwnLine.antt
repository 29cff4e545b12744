-- What an accepted call leaves of the line that it is for, and what it gives; and when it is accepted.
-- Assumes nothing.
use Prim.Native.Nat.{ℕ, ◌<◌}
use mathlib.Core.Path.{◌≡◌, ap, ◌∙◌}
use mathlib.Core.Bool.{true, false}
use mathlib.Core.List.{List, [], ◌∷◌, ◌++◌}
use native.Mathlib.Omega.{arith}
use lib.ListN.{length, take, drop, get_or}
use lib.Seq.{take-append_seam}
use borrow.Author.Tests.{eqb-true, eqb-false, eq-eqb}
use Rattle.std.specs.Prelude.{Ok}
use Rattle.ground.specs.Answer.{Answer}
use Rattle.ground.specs.Refusal.{verdict}
use Rattle.book.specs.Parts.{part_start, part_of, with_part}
use Rattle.book.proofs.Parts.{part_put, part_long}
use Rattle.calls.specs.Call.{Call}
use Rattle.calls.specs.Order.{line_for}
use Rattle.calls.specs.Stages.{tests}
use Rattle.calls.specs.Result.{effect}
use Rattle.laws.proofs.Others.{part_where}
use Rattle.laws.proofs.OwnLine.{accepted_passes, passes_accepted, Leaves, leaves_at}
use Rattle.calls.proofs.Refusing.{Unchanged, refusal_changes_nothing}
use Rattle.promise.specs.Past.{Past}
use Rattle.promise.specs.Run.{Gateway, accepts, given, line_at, part_in}
use Rattle.promise.specs.Ours.{does, after}
use Rattle.promise.proofs.Phases.{Sound}

-- all its tests hold
abbrev pub Passes : Gateway → Call → List ℕ → Type 0
Passes g c out = verdict (tests c g.book (length g.store) (length out)) ≡ Ok tt

pub call_passes : (g : Gateway) (c : Call) (out : List ℕ) → accepts (does g c out) ≡ true → Passes g c out
call_passes g c out e = accepted_passes c g.book g.store out (eqb-true _ _ e)

pub call_accepted : (g : Gateway) (c : Call) (out : List ℕ) → Passes g c out → accepts (does g c out) ≡ true
call_accepted g c out e = eq-eqb _ _ (passes_accepted c g.book g.store out e)

pub call_refused : (g : Gateway) (c : Call) (out : List ℕ) → accepts (does g c out) ≡ false → Unchanged g.book g.store out (does g c out)
call_refused g c out e =
    let n : (does g c out).answer.number ≡ 0 → ⊥ = eqb-false _ _ e in
    refusal_changes_nothing c g.book g.store out (positive (does g c out).answer.number n)
  where
    positive : (n : ℕ) → (n ≡ 0 → ⊥) → 0 < n
    positive n h = omega (arith, h)

module _ {i identifier kind : ℕ} {g : Gateway} {p : Past} (s : Sound i identifier kind g p) (c : Call) (out : List ℕ) (mine : line_for c g.book ≡ i) (pass : Passes g c out) where
  left : Leaves c g.book g.store out i
  left = leaves_at c g.book g.store out mine pass s.shaped

  pub line_left : line_at (after g c out) i ≡ (effect c i (line_at g i) (part_start g.book i) g.store out).line
  line_left = left.line

  pub store_left : (after g c out).store ≡ (effect c i (line_at g i) (part_start g.book i) g.store out).store
  store_left = left.store

  -- what it leaves of the line's part of the store, which is nowhere else than it was
  pub part_left : {part : List ℕ} → (effect c i (line_at g i) (part_start g.book i) g.store out).store ≡ with_part g.book i g.store part → length part ≡ length (part_in g i)
      → part_in (after g c out) i ≡ part
  part_left {part} e n =
      part_where c g.book g.store out i (after g c out).store
      ∙ ap (part_of g.book i) (store_left ∙ e)
      ∙ part_put g.book g.store s.long i s.small part (n ∙ part_long g.book g.store s.long i s.small)

  pub part_stays : (effect c i (line_at g i) (part_start g.book i) g.store out).store ≡ g.store → part_in (after g c out) i ≡ part_in g i
  part_stays e = part_where c g.book g.store out i (after g c out).store ∙ ap (part_of g.book i) (store_left ∙ e)

  -- a call that writes gives the octets that it put there
  pub octets_given : (octets : List ℕ) → (effect c i (line_at g i) (part_start g.book i) g.store out).values ≡ length octets ∷ []
      → (effect c i (line_at g i) (part_start g.book i) g.store out).out ≡ octets ++ drop (length octets) out → given (does g c out) ≡ octets
  octets_given octets v o =
      let values = ap (λ (a : Answer). a.values) left.answer ∙ v in
      let there = left.out ∙ o in
      (λ t. take (get_or (values t) 0 0) (there t)) ∙ take-append_seam octets (drop (length octets) out)
