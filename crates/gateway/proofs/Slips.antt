-- The slip of a line that BOOK lets pass may be written.
-- Assumes nothing.
use Prim.Native.Nat.{ℕ, ◌≤◌}
use mathlib.Core.Path.{◌≡◌, refl}
use mathlib.Core.Bool.{Bool, true, false}
use mathlib.Core.List.{[], ◌∷◌}
use native.Mathlib.Omega.{arith}
use lib.Dec.{ltb, leb, lit≤}
use borrow.Author.Tests.{lt-ltb, leb-true}
use Rattle.std.specs.Prelude.{Ok}
use Rattle.ground.specs.Pick.{bit}
use Rattle.ground.specs.Refusal.{verdict}
use Rattle.ground.proofs.Picks.{each, together}
use Rattle.ground.proofs.Verdicts.{passed, passes}
use Rattle.slip.specs.Slip.{slip_fits, write_tests}
use Rattle.receiving.specs.Receiving.{receiving_fits}
use Rattle.receiving.specs.declared.Receiving.{Receiving}
use Rattle.flow.proofs.Keeps.{receiving_ok}
use Rattle.places.specs.Places.{widest}
use Rattle.mode.specs.Moved.{ended}
use Rattle.line.specs.Line.{is_open}
use Rattle.line.specs.Fit.{line_fits}
use Rattle.line.specs.Figures.{receive_window, receive_largest}
use Rattle.line.specs.declared.Line.{Line}
use Rattle.line.proofs.Keeps.{line_ok}
use Rattle.calls.specs.Stages.{close_tests}
use Rattle.calls.specs.Result.{slip_of}

-- "handed out at most as many": a count has its 24 bits
counted : (w z : ℕ) (r : Receiving) → w ≤ widest → receiving_fits w z r ≡ true → ltb r.next 16777216 ≡ true
counted w z r narrow f =
    let k = receiving_ok w z r narrow f in
    lt-ltb r.next 16777216 (omega (arith, k.capped))

flag : (t : Bool) → leb (bit t) 1 ≡ true
flag true = refl
flag false = refl

pub slip_fits_lem : (l : Line) → is_open l ≡ true → line_fits l ≡ true → slip_fits (slip_of l) ≡ true
unfolding slip_fits slip_of
slip_fits_lem l o f =
    let k = line_ok l o f in
    let s = each (leb l.identifier 127 ∷ leb 96 l.kind ∷ leb l.kind 127 ∷ []) k.settings in
    let i : l.identifier ≤ 127 = leb-true _ _ s.0 in
    let t : l.kind ≤ 127 = leb-true _ _ s.1.1.0 in
    together (ltb l.identifier 128 ∷ leb 96 l.kind ∷ ltb l.kind 128 ∷ ltb l.receiving.one.next 16777216 ∷ ltb l.receiving.two.next 16777216 ∷ leb (bit (ended l.modes)) 1 ∷ [])
    (lt-ltb l.identifier 128 (omega arith), (s.1.0, (lt-ltb l.kind 128 (omega arith), (counted (receive_window l 1) (receive_largest l) l.receiving.one (lit≤ tt) k.receiving1, (counted (receive_window l 2) (receive_largest l) l.receiving.two (lit≤ tt) k.receiving2, (flag (ended l.modes), tt))))))

-- so closing writes it
pub slip_passes : (l : Line) (space : ℕ) → line_fits l ≡ true → verdict (close_tests l space) ≡ Ok tt → verdict (write_tests (slip_of l) space) ≡ Ok tt
unfolding close_tests
slip_passes l space f e =
    let t = passed (close_tests l space) e in
    passes (write_tests (slip_of l) space) (slip_fits_lem l t.0 f, (t.1.0, tt))
