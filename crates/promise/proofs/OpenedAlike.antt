-- How two gateways come to have the same line: of one gateway, whatever is called there on other lines, by the same opening.
-- Assumes nothing.
use Prim.Native.Nat.{ℕ, ◌≤◌, ◌<◌}
use mathlib.Core.Path.{◌≡◌, refl, sym, ap, ◌∙◌}
use mathlib.Core.Bool.{true, false}
use mathlib.Core.List.{List, [], ◌∷◌}
use lib.ListN.{length}
use Rattle.ground.proofs.Picks.{clash}
use Rattle.line.specs.Line.{is_open, opened_line}
use Rattle.line.specs.declared.Settings.{Settings}
use Rattle.book.specs.Book.{book_fits}
use Rattle.book.specs.Parts.{store_length, part_of}
use Rattle.book.specs.Shape.{BookShaped}
use Rattle.calls.specs.Call.{Call}
use Rattle.calls.specs.Call as call
use Rattle.calls.specs.Order.{line_for}
use Rattle.calls.specs.Result.{effect}
use Rattle.laws.proofs.Others.{part_where}
use Rattle.laws.proofs.OwnLine.{Leaves, leaves_at}
use Rattle.promise.specs.Build.{ours}
use Rattle.promise.specs.Run.{Gateway, accepts, line_at, part_in}
use Rattle.promise.specs.Ours.{does, after}
use Rattle.promise.specs.Demand2.{Ready}
use Rattle.promise.specs.Isolation.{SameLine, Calling, calls_for}
use Rattle.promise.specs.Isolation as iso
use Rattle.promise.proofs.OwnLine.{call_passes}
use Rattle.promise.proofs.Isolation.{Fit, fit_after, Between, idle}

-- A gateway whose book passes, with line i closed, and an opening of the line.
module _ (i : ℕ) (small : i < 4) (g : Gateway) (fits : book_fits g.book ≡ true) (shaped : BookShaped g.book) (long : store_length g.book ≤ length g.store) (closed : is_open (line_at g i) ≡ false) (s : Settings) (time : ℕ) where
  abbrev opening : Call
  opening = call.opening i s time

  abbrev later : Gateway → List Calling → Gateway
  later = iso.after_all ours.does

  fit_later : (cs : List Calling) (h : Gateway) → Fit h → Fit (later h cs)
  fit_later [] h k = k
  fit_later (c ∷ cs) h k = fit_later cs (after h c.call c.out) (fit_after h k c.call c.out)

  abbrev fit_now : Fit g
  fit_now = record { fits = fits; shaped = shaped; long = long }

  module _ (cs : List Calling) (none : calls_for i s.identifier cs ≡ []) (out : List ℕ) (taken : accepts (does (later g cs) opening out) ≡ true) where
    abbrev h : Gateway
    h = later g cs

    left : Leaves opening h.book h.store out i
    unfolding line_for
    left = leaves_at opening h.book h.store out refl (call_passes h opening out taken) (fit_later cs g fit_now).shaped

    line_opened : line_at (after h opening out) i ≡ opened_line s time
    unfolding effect
    line_opened = left.line

    part_opened : part_in (after h opening out) i ≡ part_in g i
    unfolding effect
    part_opened =
        let b : Between i s.identifier small g g = record { mine = fit_now; yours = fit_now; has = λ o. clash (sym closed ∙ o); line = refl; part = refl } in
        part_where opening h.book h.store out i (after h opening out).store ∙ ap (part_of h.book i) left.store ∙ sym (idle i s.identifier small cs b (sym none)).part

    opened_ready : Ready (after h opening out) i
    opened_ready =
        let k = fit_after h (fit_later cs g fit_now) opening out in
        record { fits = k.fits; shaped = k.shaped; long = k.long; small = small; opened = ap is_open line_opened }

  -- THE PROMISE: whatever was called before on the other lines, in the one case and in the other, the same opening leaves the same line in both.
  pub same_once_opened : (cs ds : List Calling) → calls_for i s.identifier cs ≡ [] → calls_for i s.identifier ds ≡ [] → (out lent : List ℕ)
      → accepts (does (later g cs) opening out) ≡ true → accepts (does (later g ds) opening lent) ≡ true
      → SameLine i (after (later g cs) opening out) (after (later g ds) opening lent)
  same_once_opened cs ds e f out lent p q =
      record {
        here = opened_ready cs e out p;
        there = opened_ready ds f lent q;
        line = line_opened cs e out p ∙ sym (line_opened ds f lent q);
        part = part_opened cs e out p ∙ sym (part_opened ds f lent q);
      }
