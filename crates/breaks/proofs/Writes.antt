-- A BREAK body as the word that the code joins, and what the tests before writing show.
-- Assumes nothing.
use mathlib.Core.Path.{◌≡◌, refl, ap, sym, ◌∙◌}
use mathlib.Core.Bool.{true}
use mathlib.Core.List.{List, [], ◌∷◌}
use Prim.Native.Nat.{ℕ, ◌*◌, ◌%◌, ◌^◌, ◌≤◌, ◌<◌}
use native.Mathlib.Omega.{arith}
use lib.Dec.{lit≤, ltb, leb}
use lib.ListN.{length}
use lib.Seq.{sets}
use lib.Bits.{bit_or}
use borrow.Author.Tests.{ltb-true, leb-true}
use Rattle.std.specs.Prelude.{Ok}
use Rattle.ground.specs.Refusal.{Verdict, verdict}
use Rattle.ground.specs.Answer.{Writes}
use Rattle.ground.proofs.Picks.{each}
use Rattle.ground.proofs.Verdicts.{passed}
use Rattle.field.specs.Layout.{octets, join, InWidth}
use Rattle.field.proofs.Laws.{chain}
use Rattle.field.proofs.Stores.{stored_writes}
use Rattle.breaks.specs.Break.{layout, break_fits, break_octets, write_tests}
use Rattle.breaks.specs.declared.Break.{Break}

pub fits_room : (b : Break) → break_fits b ≡ true → InWidth (layout b)
unfolding break_fits
fits_room b e =
    let t = each (ltb b.source 3 ∷ ltb b.kind 4 ∷ leb b.lasts 255 ∷ []) e in
    let s : b.source < 3 = ltb-true _ _ t.0 in
    let k : b.kind < 4 = ltb-true _ _ t.1.0 in
    let l : b.lasts ≤ 255 = leb-true _ _ t.1.1.0 in
    (omega arith, (omega arith, (omega arith, tt)))

-- all tests pass: then the word that is stored is the body
pub write_done : (b : Break) (l : List ℕ) {v : Verdict} → v ≡ verdict (write_tests b (length l)) → v ≡ Ok tt → {l₁ : List ℕ}
    → l₁ ≡ sets l 0 (octets 2 (bit_or (bit_or (b.source * 2 ^ 4 % 2 ^ 16) b.kind * 2 ^ 8 % 2 ^ 16) b.lasts))
    → Writes (write_tests b (length l)) (break_octets b) l l₁ (Ok 2)
unfolding break_octets
write_done b l e k q =
    let t = passed (write_tests b (length l)) (sym e ∙ k) in
    let r = fits_room b t.0 in
    let x : bit_or (bit_or (b.source * 2 ^ 4 % 2 ^ 16) b.kind * 2 ^ 8 % 2 ^ 16) b.lasts ≡ join 0 (layout b) = (chain 8 8 16 (chain 4 4 16 (refl, r.0) r.1.0 (lit≤ tt)) r.1.1.0 (lit≤ tt)).0 ∙ omega arith in
    stored_writes (write_tests b (length l)) (break_octets b) l e k (leb-true _ _ t.1.0) refl (q ∙ ap (λ (n : ℕ). sets l 0 (octets 2 n)) x)
