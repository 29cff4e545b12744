-- A BREAK body that may be written reads back as what was written, every body has one reading, and a body that is read is written again as it came.
-- Assumes nothing.
use mathlib.Core.Path.{◌≡◌, refl, ap, sym, ◌∙◌}
use mathlib.Core.List.{List}
use Prim.Native.Nat.{ℕ, ◌≤◌}
use native.Mathlib.Omega.{arith}
use lib.ListN.{length}
use borrow.Author.Tests.{eqb-true, le-leb}
use Rattle.std.specs.Prelude.{Ok, Err}
use Rattle.ground.specs.Refusal.{verdict}
use Rattle.ground.proofs.Verdicts.{passed, passes}
use Rattle.ground.proofs.Settled.{settles_took}
use Rattle.field.proofs.Packs.{reads_whole}
use Rattle.breaks.specs.Break.{layout, break_at, break_fits, break_octets, break_read, read_tests, write_tests}
use Rattle.breaks.specs.declared.Break.{Break}
use Rattle.breaks.proofs.Writes.{fits_room}
use Rattle.roundtrip.specs.Again.{Octets}
use Rattle.roundtrip.proofs.Octets.{packs_whole}

-- a body that may be written reads back
pub round : (b : Break) (space : ℕ) → verdict (write_tests b space) ≡ Ok tt → break_read (break_octets b) ≡ Ok b
unfolding break_at break_octets
round b space ok =
    let t = passed (write_tests b space) ok in
    let r = reads_whole 2 (layout b) (fits_room b t.0) refl in
    let s : List ℕ = break_octets b in
    let e : break_at s ≡ b = λ i. record { source = r.0 i; kind = r.1.0 i; lasts = r.1.1.0 i } in
    sym (settles_took (verdict (read_tests s)) Err (Ok (break_at s)) refl (passes (read_tests s) (refl, (ap break_fits e ∙ t.0, tt))) (ap Ok (sym e)))

-- two bodies that are written alike are one
pub written_once : (b d : Break) (m n : ℕ) → verdict (write_tests b m) ≡ Ok tt → verdict (write_tests d n) ≡ Ok tt → break_octets b ≡ break_octets d → b ≡ d
written_once b d m n p q e =
    let x = round b m p in
    let y = round d n q in
    let s : break_read (break_octets b) ≡ break_read (break_octets d) = ap break_read e in
    cc

-- a body that is read may be written, and is written as it was read
pub octets_round : (s : List ℕ) → Octets s → verdict (read_tests s) ≡ Ok tt → (space : ℕ) → length s ≤ space
    → (verdict (write_tests (break_at s) space) ≡ Ok tt) × (break_octets (break_at s) ≡ s)
unfolding break_at break_octets
octets_round s o ok space h =
    let t = passed (read_tests s) ok in
    let l : length s ≡ 2 = eqb-true _ _ t.0 in
    (passes (write_tests (break_at s) space) (t.1.0, (le-leb 2 space (omega arith), tt)), packs_whole s (layout (break_at s)) o (omega arith) (refl, (refl, (refl, tt))))
