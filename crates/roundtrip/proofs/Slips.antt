-- A slip that may be written reads back as what was written, every slip has one reading, and a slip that is read is written again as it came.
-- Assumes nothing.
use mathlib.Core.Path.{◌≡◌, refl, ap, sym, ◌∙◌}
use mathlib.Core.List.{List, [], ◌∷◌}
use Prim.Native.Nat.{ℕ, ◌≤◌}
use native.Mathlib.Omega.{arith}
use lib.ListN.{length}
use lib.Dec.{eqb}
use borrow.Author.Tests.{eq-eqb, eqb-true, le-leb}
use Rattle.std.specs.Prelude.{Ok, Err}
use Rattle.ground.specs.Refusal.{verdict}
use Rattle.ground.proofs.Picks.{each, together}
use Rattle.ground.proofs.Verdicts.{passed, passes}
use Rattle.ground.proofs.Settled.{settles_took}
use Rattle.field.specs.Bits.{bits_at}
use Rattle.field.specs.Layout.{Reads}
use Rattle.field.proofs.Packs.{reads_whole}
use Rattle.slip.specs.Slip.{layout, slip_at, slip_fits, form_fits, slip_octets, slip_read, read_tests, write_tests}
use Rattle.slip.specs.declared.Slip.{Slip}
use Rattle.slip.proofs.Writes.{fits_room}
use Rattle.roundtrip.specs.Again.{Octets}
use Rattle.roundtrip.proofs.Octets.{packs_whole}

-- a slip that may be written reads back
pub round : (v : Slip) (space : ℕ) → verdict (write_tests v space) ≡ Ok tt → slip_read (slip_octets v) ≡ Ok v
unfolding slip_at slip_octets form_fits
round v space ok =
    let t = passed (write_tests v space) ok in
    let r = reads_whole 12 (layout v) (fits_room v t.0) refl in
    let s : List ℕ = slip_octets v in
    let q = r.1 in
    let e : slip_at s ≡ v = λ i. record { identifier = q.0 i; kind = q.1.0 i; count1 = q.1.1.0 i; count2 = q.1.1.1.0 i; reason = q.1.1.1.1.0 i } in
    let f = together (eqb (bits_at s 0 4) 1 ∷ eqb (bits_at s 74 22) 0 ∷ []) (eq-eqb _ _ r.0, (eq-eqb _ _ q.1.1.1.1.1.0, tt)) in
    sym (settles_took (verdict (read_tests s)) Err (Ok (slip_at s)) refl (passes (read_tests s) (refl, (f, (ap slip_fits e ∙ t.0, tt)))) (ap Ok (sym e)))

-- Two slips that are written alike are one.
pub written_once : (v w : Slip) (m n : ℕ) → verdict (write_tests v m) ≡ Ok tt → verdict (write_tests w n) ≡ Ok tt → slip_octets v ≡ slip_octets w → v ≡ w
written_once v w m n p q e =
    let x = round v m p in
    let y = round w n q in
    let s : slip_read (slip_octets v) ≡ slip_read (slip_octets w) = ap slip_read e in
    cc

-- a slip that is read may be written, and is written as it was read
pub octets_round : (s : List ℕ) → Octets s → verdict (read_tests s) ≡ Ok tt → (space : ℕ) → length s ≤ space
    → (verdict (write_tests (slip_at s) space) ≡ Ok tt) × (slip_octets (slip_at s) ≡ s)
unfolding slip_at slip_octets form_fits
octets_round s o ok space h =
    let t = passed (read_tests s) ok in
    let l : length s ≡ 12 = eqb-true _ _ t.0 in
    let f = each (eqb (bits_at s 0 4) 1 ∷ eqb (bits_at s 74 22) 0 ∷ []) t.1.0 in
    let r : Reads s 0 (layout (slip_at s)) = (eqb-true _ _ f.0, (refl, (refl, (refl, (refl, (refl, (eqb-true _ _ f.1.0, tt))))))) in
    (passes (write_tests (slip_at s) space) (t.1.1.0, (le-leb 12 space (omega arith), tt)), packs_whole s (layout (slip_at s)) o (omega arith) r)
