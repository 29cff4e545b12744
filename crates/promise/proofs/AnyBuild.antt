-- Continuations of any build: seen from the other end, one after another, and that they stay in modem relay.
-- Assumes nothing.
use Prim.Native.Nat.{ℕ}
use mathlib.Core.Path.{◌≡◌, refl, sym, ◌∙◌}
use mathlib.Core.List.{List}
use Rattle.ground.proofs.Picks.{clash}
use Rattle.calls.specs.Call.{Call}
use Rattle.promise.specs.Build.{Does}
use Rattle.promise.specs.Past.{Past}
use Rattle.promise.specs.Run.{Gateway, Adds, refused, elsewhere, moded, reported, took, handed, sent, wrote, heard, Step, before, opens, calls, Goes, stay, here, there}
use Rattle.promise.specs.Promise.{InRelay}

module _ {f : Does} {within i j identifier kind : ℕ} where
  pub turned_goes : {g h : Gateway} {p q : Past} {g' h' : Gateway} {p' q' : Past} → Goes f within i j identifier kind g p h q g' p' h' q' → Goes f within j i identifier kind h q g p h' q' g' p'
  turned_goes stay = stay
  turned_goes (here w s) = there (turned_goes w) s
  turned_goes (there w s) = here (turned_goes w) s

  pub goes_after : {g g' h h' : Gateway} {p p' q q' : Past} {g'' h'' : Gateway} {p'' q'' : Past} → Goes f within i j identifier kind g p h q g' p' h' q' → Goes f within i j identifier kind g' p' h' q' g'' p'' h'' q''
      → Goes f within i j identifier kind g p h q g'' p'' h'' q''
  goes_after a stay = a
  goes_after a (here w s) = here (goes_after a w) s
  goes_after a (there w s) = there (goes_after a w) s

-- what a call adds leaves the line open
adds_open : {f : Does} {within i : ℕ} {g : Gateway} {p q : Past} {out : List ℕ} {c : Call} {p' : Past} → Adds f within i g p q out c p' → p'.opened ≡ p.opened
adds_open (refused c e) = refl
adds_open (elsewhere c n) = refl
adds_open (moded a) = refl
adds_open (reported channel) = refl
adds_open (took channel m e) = refl
adds_open (handed channel e) = refl
adds_open (sent channel rank e) = refl
adds_open (wrote channel e) = refl
adds_open (heard s k l r honest) = refl

step_inside : {f : Does} {within i identifier kind : ℕ} {g g' : Gateway} {p p' q : Past} → InRelay g i p → Step f within i identifier kind q g p g' p' → InRelay g' i p'
step_inside a (before e c out) = clash (sym e ∙ a.0)
step_inside a (opens e s time out m n t) = clash (sym e ∙ a.0)
step_inside a (calls o c out still stays adds) = (adds_open adds ∙ o, stays a.1)

-- an end that is in modem relay is so for as long as the two go on
pub goes_inside : {f : Does} {within i j identifier kind : ℕ} {g h : Gateway} {p q : Past} {g' h' : Gateway} {p' q' : Past} → InRelay g i p → Goes f within i j identifier kind g p h q g' p' h' q' → InRelay g' i p'
goes_inside a stay = a
goes_inside a (here w s) = step_inside (goes_inside a w) s
goes_inside a (there w s) = goes_inside a w
