-- A slip as the three numbers of 32 bits that the code joins, and what the tests before writing show.
-- Assumes nothing.
use mathlib.Core.Path.{◌≡◌, refl, ap, sym, ◌∙◌}
use mathlib.Core.Bool.{true}
use mathlib.Core.List.{List, [], ◌∷◌, ◌++◌}
use Prim.Native.Nat.{ℕ, ◌-◌, ◌*◌, ◌/◌, ◌%◌, ◌^◌, ◌≤◌, ◌<◌}
use native.Mathlib.Omega.{arith}
use lib.Dec.{lit≤, lit<, ltb, leb}
use lib.ListN.{length}
use lib.Seq.{sets}
use lib.Pow.{shl_exact}
use lib.Bits.{bit_and, bit_or, and_mask}
use borrow.Author.Tests.{ltb-true, leb-true}
use Rattle.std.specs.Prelude.{Ok}
use Rattle.ground.specs.Refusal.{Verdict, verdict}
use Rattle.ground.specs.Answer.{Writes}
use Rattle.ground.proofs.Picks.{each}
use Rattle.ground.proofs.Verdicts.{Holds, passed}
use Rattle.field.specs.Layout.{Field, of, octets, join, InWidth}
use Rattle.field.proofs.Laws.{chain}
use Rattle.field.proofs.Packs.{pack_cut, join_cut}
use Rattle.field.proofs.Stores.{stored_writes}
use Rattle.slip.specs.Slip.{layout, slip_fits, slip_octets, write_tests}
use Rattle.slip.specs.declared.Slip.{Slip}

module _ (v : Slip) where
  pub fits_room : slip_fits v ≡ true → InWidth (layout v)
  unfolding slip_fits
  fits_room e =
      let t = each (ltb v.identifier 128 ∷ leb 96 v.kind ∷ ltb v.kind 128 ∷ ltb v.count1 16777216 ∷ ltb v.count2 16777216 ∷ leb v.reason 1 ∷ []) e in
      let r : v.reason ≤ 1 = leb-true _ _ t.1.1.1.1.1.0 in
      (lit< tt, (ltb-true _ _ t.0, (ltb-true _ _ t.1.1.0, (ltb-true _ _ t.1.1.1.0, (ltb-true _ _ t.1.1.1.1.0, (omega arith, (lit< tt, tt)))))))

  -- the two counts lie across the ends of the first and the second number
  abbrev one : List Field
  one = of 4 1 ∷ of 7 v.identifier ∷ of 7 v.kind ∷ of 14 (v.count1 / 2 ^ 10) ∷ []

  abbrev two : List Field
  two = of 10 (v.count1 % 2 ^ 10) ∷ of 22 (v.count2 / 2 ^ 2) ∷ []

  abbrev three : List Field
  three = of 2 (v.count2 % 2 ^ 2) ∷ of 8 v.reason ∷ of 22 0 ∷ []

  module _ (r : InWidth (layout v)) where
    count1_lt : v.count1 < 2 ^ 24
    count1_lt = r.1.1.1.0

    count2_lt : v.count2 < 2 ^ 24
    count2_lt = r.1.1.1.1.0

    slip_longs : slip_octets v ≡ octets 4 (join 0 one) ++ (octets 4 (join 0 two) ++ octets 4 (join 0 three))
    unfolding slip_octets
    slip_longs =
        let a : ℕ = join 0 (of 4 1 ∷ of 7 v.identifier ∷ of 7 v.kind ∷ []) in
        let b : ℕ = join a (of 14 (v.count1 / 2 ^ 10) ∷ of 10 (v.count1 % 2 ^ 10) ∷ []) in
        let x : join 0 (layout v) ≡ join 0 (one ++ (two ++ three)) =
        join_cut a 14 10 v.count1 (of 24 v.count2 ∷ of 8 v.reason ∷ of 22 0 ∷ []) ∙ join_cut b 22 2 v.count2 (of 8 v.reason ∷ of 22 0 ∷ []) in
        let rc : InWidth three = (omega arith, (r.1.1.1.1.1.0, (lit< tt, tt))) in
        let rb : InWidth (two ++ three) = (omega arith, (omega (arith, count2_lt), rc)) in
        ap (octets 12) x ∙ pack_cut 4 8 one (two ++ three) refl rb ∙ ap (λ (l : List ℕ). octets 4 (join 0 one) ++ l) (pack_cut 4 4 two three refl rc)

    -- the numbers that the code joins
    one_is : bit_or (bit_or (bit_or (1 * 2 ^ 7 % 2 ^ 32) v.identifier * 2 ^ 7 % 2 ^ 32) v.kind * 2 ^ 14 % 2 ^ 32) (v.count1 / 2 ^ 10) ≡ join 0 one
    one_is =
        let f : v.count1 / 2 ^ 10 < 2 ^ 14 = omega (arith, count1_lt) in
        (chain 18 14 32 (chain 11 7 32 (chain 4 7 32 (refl, r.0) r.1.0 (lit≤ tt)) r.1.1.0 (lit≤ tt)) f (lit≤ tt)).0 ∙ omega arith

    two_is : bit_or (bit_and v.count1 (2 ^ 10 - 1) * 2 ^ 22 % 2 ^ 32) (v.count2 / 2 ^ 2) ≡ join 0 two
    two_is =
        let f : v.count1 % 2 ^ 10 < 2 ^ 10 = omega arith in
        let s : v.count2 / 2 ^ 2 < 2 ^ 22 = omega (arith, count2_lt) in
        (chain 10 22 32 (and_mask v.count1 10, f) s (lit≤ tt)).0 ∙ omega arith

    three_is : bit_or (bit_and v.count2 (2 ^ 2 - 1) * 2 ^ 8 % 2 ^ 32) v.reason * 2 ^ 22 % 2 ^ 32 ≡ join 0 three
    three_is =
        let f : v.count2 % 2 ^ 2 < 2 ^ 2 = omega arith in
        let c = chain 2 8 32 (and_mask v.count2 2, f) r.1.1.1.1.1.0 (lit≤ tt) in
        ap (λ (n : ℕ). n * 2 ^ 22 % 2 ^ 32) c.0 ∙ shl_exact 10 22 32 c.1 (lit≤ tt) ∙ omega arith

    -- stored one after the other they are the slip
    pub slip_stored : (l : List ℕ) {l₁ l₂ l₃ : List ℕ}
        → l₁ ≡ sets l 0 (octets 4 (bit_or (bit_or (bit_or (1 * 2 ^ 7 % 2 ^ 32) v.identifier * 2 ^ 7 % 2 ^ 32) v.kind * 2 ^ 14 % 2 ^ 32) (v.count1 / 2 ^ 10)))
        → l₂ ≡ sets l₁ 4 (octets 4 (bit_or (bit_and v.count1 (2 ^ 10 - 1) * 2 ^ 22 % 2 ^ 32) (v.count2 / 2 ^ 2)))
        → l₃ ≡ sets l₂ 8 (octets 4 (bit_or (bit_and v.count2 (2 ^ 2 - 1) * 2 ^ 8 % 2 ^ 32) v.reason * 2 ^ 22 % 2 ^ 32))
        → l₃ ≡ sets l 0 (slip_octets v)
    slip_stored l e₁ e₂ e₃ =
        e₃ ∙ (λ i. sets (e₂ i) 8 (octets 4 (three_is i))) ∙ (λ i. sets (sets (e₁ i) 4 (octets 4 (two_is i))) 8 (octets 4 (join 0 three)))
        ∙ (λ i. sets (sets (sets l 0 (octets 4 (one_is i))) 4 (octets 4 (join 0 two))) 8 (octets 4 (join 0 three))) ∙ ap (sets l 0) (sym slip_longs)

-- all tests before writing pass: then the numbers fit, and what is stored is the slip
module _ (v : Slip) (l : List ℕ) {w : Verdict} (e : w ≡ verdict (write_tests v (length l))) (k : w ≡ Ok tt) where
  tests : Holds (write_tests v (length l))
  tests = passed (write_tests v (length l)) (sym e ∙ k)

  pub write_fits : slip_fits v ≡ true
  write_fits = tests.0

  pub write_done : {l₁ : List ℕ} → l₁ ≡ sets l 0 (slip_octets v) → Writes (write_tests v (length l)) (slip_octets v) l l₁ (Ok 12)
  unfolding slip_octets
  write_done q = stored_writes (write_tests v (length l)) (slip_octets v) l e k (leb-true _ _ tests.1.0) refl q
