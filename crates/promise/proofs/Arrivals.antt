-- A packet that arrives: what it does where it is let in, and that it leaves all lines outside modem relay as they were.
-- Assumes nothing.
use Prim.Native.Nat.{◌<◌, ℕ}
use mathlib.Core.List.{List, [], ◌∷◌}
use mathlib.Core.Path.{◌∙◌, ◌≡◌, ap, refl, subst, sym}
use native.Mathlib.Omega.{arith}
use lib.ListN.{length}
use Rattle.arriving.proofs.Arrivals.{arrive_relaying}
use Rattle.arriving.proofs.Keeps.{arrived_in_store}
use Rattle.arriving.specs.Arrive.{arrived_line}
use Rattle.book.proofs.Parts.{part_in_lem, parts_alike}
use Rattle.book.specs.Book.{line_of, with_line}
use Rattle.book.specs.Parts.{part_start}
use Rattle.book.specs.Shape.{BookShaped}
use Rattle.book.specs.declared.Book.{Book}
use Rattle.calls.proofs.OrderStages.{in_stages}
use Rattle.calls.proofs.Results.{result_accepted}
use Rattle.calls.specs.Call.{Call}
use Rattle.calls.specs.Order.{line_for}
use Rattle.calls.specs.Stages.{tests}
use Rattle.calls.specs.Result.{accepted_result, effect, result_with}
use Rattle.ground.proofs.Either.{by_test}
use Rattle.ground.specs.Answer.{accepted}
use Rattle.incoming.proofs.Passing.{addressed}
use Rattle.laws.proofs.Others.{others_stay, parts_stay}
use Rattle.promise.proofs.LineStays.{part_same}
use Rattle.promise.proofs.OwnLine.{call_refused}
use Rattle.promise.proofs.Packets.{answers, arrival_entitled}
use Rattle.promise.specs.Demand2.{May, Stays, arrived_result}
use Rattle.promise.specs.Ours.{after, does}
use Rattle.promise.specs.Run.{Gateway, Relays, accepts, line_at}
use Rattle.calls.specs.Call as call

module _ (g : Gateway) (shaped : BookShaped g.book) (s out : List ℕ) where
  abbrev c : Call
  c = call.arrival s

  abbrev at : ℕ
  at = line_for c g.book

  pub let_in : May g c out → does g c out ≡ arrived_result g at s out
  unfolding accepted_result effect line_for tests
  let_in may =
      let p = addressed g.book (length g.store) s (sym (in_stages c g.book (length g.store) (length out)) ∙ may) in
      let small : at < 4 = omega (arith, p.number, shaped.lines) in
      let l = line_at g at in
      result_accepted c g.book g.store out may
      ∙ ap (λ (x : List ℕ). result_with (accepted (at ∷ [])) (with_line g.book at (arrived_line l s)) x out)
      (sym (arrived_in_store l (arrive_relaying l s p.line p.fits p.opened) (part_start g.book at) g.store (part_in_lem g.book g.store p.store at small) s p.line))

  -- where it is let in its line is in modem relay, so it is for another line; else nothing changes
  pub outside_stays : (j : ℕ) → (Relays g j → ⊥) → Stays g (after g c out) j
  unfolding line_for
  outside_stays j away =
      by_test (accepts (does g c out))
      (λ e.
      let other : at ≡ j → ⊥ = λ q. away (subst (Relays g) (answers g s out e ∙ q) (arrival_entitled g s out e).inside) in (
        others_stay c g.book g.store out j other,
        parts_alike (after g c out).book g.book j (λ k. refl) (after g c out).store ∙ parts_stay c g.book g.store out shaped j other,
      ))
      (λ e.
      let u = call_refused g c out e in (
        ap (λ (b : Book). line_of b j) u.book,
        part_same g (after g c out) j u.store,
      ))
