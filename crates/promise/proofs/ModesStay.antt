-- Which calls change the modes of a line: its opening, its closing and its mode calls, and no other; and what an opening and a closing leave.
-- Assumes nothing.
use Prim.Native.Nat.{ℕ}
use mathlib.Core.Bool.{false, true}
use mathlib.Core.List.{List}
use mathlib.Core.Path.{◌∙◌, ◌≡◌, ap, refl, subst, sym}
use native.Mathlib.Decide.{ℕ_discrete}
use borrow.Author.Tests.{eq-eqb}
use lib.ListN.{length}
use Rattle.arriving.proofs.Stays.{arrived_stays}
use Rattle.book.specs.Book.{line_of}
use Rattle.book.specs.Parts.{part_start}
use Rattle.book.specs.Shape.{BookShaped}
use Rattle.book.specs.declared.Book.{Book}
use Rattle.calls.specs.Call.{Call}
use Rattle.calls.specs.Order.{line_for}
use Rattle.calls.proofs.Results.{result_accepted}
use Rattle.calls.specs.Result.{accepted_result, effect}
use Rattle.ground.proofs.Either.{by_test}
use Rattle.ground.proofs.Picks.{clash}
use Rattle.laws.proofs.Others.{others_stay}
use Rattle.laws.proofs.OwnLine.{own_line}
use Rattle.line.specs.declared.Line.{Line}
use Rattle.line.specs.declared.Settings.{Settings}
use Rattle.promise.proofs.OwnLine.{call_passes, call_refused}
use Rattle.promise.specs.Demand2.{May, closed_result, of_modes, opened_result}
use Rattle.promise.specs.Ours.{after, does}
use Rattle.promise.specs.Run.{Gateway, accepts, line_at}
use Rattle.relay.proofs.Keeps.{handed_line_same, took_line_same}
use Rattle.writing.proofs.Keeps.{wrote_line_same}
use Rattle.calls.specs.Call as call

-- what such a call makes of its line has the modes that the line had
own_modes : (c : Call) (b : Book) (l : Line) (start : ℕ) (store out : List ℕ) → of_modes c (line_for c b) ≡ false → (effect c (line_for c b) l start store out).line.modes ≡ l.modes
unfolding line_for effect
own_modes (call.opening i s time) b l start store out e = clash (sym e ∙ eq-eqb i i refl)
own_modes (call.closing i) b l start store out e = clash (sym e ∙ eq-eqb i i refl)
own_modes (call.mode i a) b l start store out e = clash (sym e ∙ eq-eqb i i refl)
own_modes (call.taking i channel message) b l start store out e = (took_line_same l channel (length message)).modes
own_modes (call.sending i channel rank) b l start store out e = (wrote_line_same l).modes
own_modes (call.empty i channel) b l start store out e = (wrote_line_same l).modes
own_modes (call.arrival s) b l start store out e = (arrived_stays l s).modes
own_modes (call.hand_out i channel) b l start store out e = (handed_line_same l channel).modes
own_modes (call.report i channel) b l start store out e = refl

module _ (g : Gateway) (shaped : BookShaped g.book) where
  pub modes_stay : (c : Call) (out : List ℕ) (j : ℕ) → of_modes c j ≡ false → (line_at (after g c out) j).modes ≡ (line_at g j).modes
  modes_stay c out j e =
      by_test (accepts (does g c out))
      (λ t. go t (ℕ_discrete (line_for c g.book) j))
      (λ t. ap (λ (b : Book). (line_of b j).modes) (call_refused g c out t).book)
    where
      go : accepts (does g c out) ≡ true → Dec (line_for c g.book ≡ j) → (line_at (after g c out) j).modes ≡ (line_at g j).modes
      go t (yes q) =
          subst (λ (k : ℕ). (line_at (after g c out) k).modes ≡ (line_at g k).modes) q
          (ap (λ (l : Line). l.modes) (own_line c g.book g.store out (call_passes g c out t) shaped)
          ∙ own_modes c g.book (line_at g (line_for c g.book)) (part_start g.book (line_for c g.book)) g.store out (ap (of_modes c) q ∙ e))
      go t (no n) = ap (λ (l : Line). l.modes) (others_stay c g.book g.store out j n)

-- an opening that may be made opens the line, and a closing closes it
pub opens_line : (g : Gateway) (i : ℕ) (s : Settings) (time : ℕ) (out : List ℕ) → May g (call.opening i s time) out → does g (call.opening i s time) out ≡ opened_result g i s time out
unfolding accepted_result effect line_for
opens_line g i s time out may = result_accepted (call.opening i s time) g.book g.store out may

pub closes_line : (g : Gateway) (i : ℕ) (out : List ℕ) → May g (call.closing i) out → does g (call.closing i) out ≡ closed_result g i out
unfolding accepted_result effect line_for
closes_line g i out may = result_accepted (call.closing i) g.book g.store out may
