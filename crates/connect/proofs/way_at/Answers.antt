use mathlib.Core.Path.{◌≡◌, ap, ◌∙◌}
use Prim.Native.Nat.{ℕ, ◌+◌, ◌*◌}
use native.Mathlib.Omega.{arith}
use Rattle.field.specs.Bits.{bits_at}
use Rattle.field.proofs.Laws.{octet_of}
use Rattle.connect.specs.Read.{way_at}
use borrow.Author.Rules.{rules}
use Rattle.connect.proofs.way_at.Goals as goal

pub returns : goal.returns
unfolding way_at
returns c =
    let s = c.args.s.now in
    let k = c.args.way in
    let p : 8 * (2 + 2 * k) ≡ 16 + 16 * k = omega arith in
    let q : 8 * (8 + 2 * k) ≡ 64 + 16 * k = omega arith in
    let u : 8 * (12 + k) ≡ 96 + 8 * k = omega arith in
    let v : 8 * (14 + 2 * k) ≡ 112 + 16 * k = omega arith in
    let o = octet_of s (12 + k) c.octet_at-string.ensures (search rules) in
    λ i. record { rate = (c.word_at-rate.ensures ∙ ap (λ (b : ℕ). bits_at s b 16) p) i; dictionary = (c.word_at-dictionary.ensures ∙ ap (λ (b : ℕ). bits_at s b 16) q) i; string = (o ∙ ap (λ (b : ℕ). bits_at s b 8) u) i; history = (c.word_at-history.ensures ∙ ap (λ (b : ℕ). bits_at s b 16) v) i }
