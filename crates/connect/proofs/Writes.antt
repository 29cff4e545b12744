-- A CONNECT body as the words that the code joins, and what the tests before writing show.
-- Assumes nothing.
use mathlib.Core.Path.{◌≡◌, refl, ap, sym, ◌∙◌}
use mathlib.Core.Bool.{Bool, true, false}
use mathlib.Core.List.{List, [], ◌∷◌, ◌++◌}
use Prim.Native.Nat.{ℕ, ◌*◌, ◌/◌, ◌%◌, ◌^◌, ◌≤◌, ◌<◌}
use native.Mathlib.Omega.{arith}
use lib.Dec.{lit≤, lit<, ltb, leb, eqb}
use lib.ListN.{length, take}
use lib.Seq.{sets}
use lib.Pow.{shl_exact}
use lib.Bits.{bit_or}
use borrow.Author.Tests.{ltb-true, leb-true, eqb-true}
use mir.Val.{bool_byte}
use Rattle.std.specs.Prelude.{Ok}
use Rattle.ground.specs.Pick.{pick, bit}
use Rattle.ground.specs.Refusal.{Verdict, verdict}
use Rattle.ground.specs.Answer.{Writes}
use Rattle.ground.proofs.Picks.{each, both_true, pick_by}
use Rattle.ground.proofs.Verdicts.{Holds, passed}
use Rattle.field.specs.Layout.{Field, of, word_octets, join, packed, InWidth}
use Rattle.field.proofs.Laws.{join_is, chain}
use Rattle.field.proofs.Packs.{Words, joined, words_packed, words_take}
use Rattle.field.proofs.Stores.{stored_writes}
use Rattle.connect.specs.Spans.{nothing, bis_way, rich_way, size_of, sizes_fit, numbers_fit}
use Rattle.connect.specs.Write.{flag_fields, base_fields, bis_fields, history_fields, size_fields, connect_octets, write_tests}
use Rattle.connect.specs.declared.Way.{Way}
use Rattle.connect.specs.declared.Connect.{Connect}

-- a flag that is cast to a number
pub bit_byte : (b : Bool) → bool_byte b ≡ bit b
bit_byte true = refl
bit_byte false = refl

pub bit_lt : (b : Bool) → bit b < 2 ^ 1
bit_lt true = lit< tt
bit_lt false = lit< tt

-- six flags and ten bits of 0, as the code joins them
pub flags_join : {a b c d e f : ℕ} → a < 2 ^ 1 → b < 2 ^ 1 → c < 2 ^ 1 → d < 2 ^ 1 → e < 2 ^ 1 → f < 2 ^ 1
    → bit_or (bit_or (bit_or (bit_or (bit_or (a * 2 ^ 1 % 2 ^ 16) b * 2 ^ 1 % 2 ^ 16) c * 2 ^ 1 % 2 ^ 16) d * 2 ^ 1 % 2 ^ 16) e * 2 ^ 1 % 2 ^ 16) f * 2 ^ 10 % 2 ^ 16
    ≡ join 0 (of 1 a ∷ of 1 b ∷ of 1 c ∷ of 1 d ∷ of 1 e ∷ of 1 f ∷ of 10 0 ∷ [])
flags_join a b c d e f =
    let r = chain 5 1 16 (chain 4 1 16 (chain 3 1 16 (chain 2 1 16 (chain 1 1 16 (refl, a) b (lit≤ tt)) c (lit≤ tt)) d (lit≤ tt)) e (lit≤ tt)) f (lit≤ tt) in
    ap (λ (n : ℕ). n * 2 ^ 10 % 2 ^ 16) r.0 ∙ shl_exact 6 10 16 r.1 (lit≤ tt) ∙ omega arith

module _ (c : Connect) where
  abbrev front : List Field
  front = of 6 c.modulation ∷ of 2 c.direction ∷ of 4 c.compression ∷ of 4 c.correction ∷ []

  -- the body at its longest, as nine words
  abbrev groups : List (List Field)
  groups =
      front ∷ (of 16 c.transmit.rate ∷ []) ∷ (of 16 c.receive.rate ∷ []) ∷ flag_fields c
      ∷ (of 16 c.transmit.dictionary ∷ []) ∷ (of 16 c.receive.dictionary ∷ []) ∷ (of 8 c.transmit.string ∷ of 8 c.receive.string ∷ [])
      ∷ (of 16 c.transmit.history ∷ []) ∷ (of 16 c.receive.history ∷ []) ∷ []

  -- what the tests show of one direction
  pub record Small (w : Way) : Type 0 where
    pub dictionary : w.dictionary < 2 ^ 16
    pub string : w.string < 2 ^ 8
    pub history : w.history < 2 ^ 16

  none_small : (w : Way) → nothing w ≡ true → Small w
  none_small w e =
      let t = each (eqb w.dictionary 0 ∷ eqb w.string 0 ∷ eqb w.history 0 ∷ []) e in
      let a : w.dictionary ≡ 0 = eqb-true _ _ t.0 in
      let b : w.string ≡ 0 = eqb-true _ _ t.1.0 in
      let d : w.history ≡ 0 = eqb-true _ _ t.1.1.0 in
      record { dictionary = omega arith; string = omega arith; history = omega arith }

  bis_small : (w : Way) → bis_way w ≡ true → Small w
  bis_small w e =
      let t = each (leb 512 w.dictionary ∷ leb w.dictionary 65535 ∷ leb 6 w.string ∷ leb w.string 250 ∷ eqb w.history 0 ∷ []) e in
      let a : w.dictionary ≤ 65535 = leb-true _ _ t.1.0 in
      let b : w.string ≤ 250 = leb-true _ _ t.1.1.1.0 in
      let d : w.history ≡ 0 = eqb-true _ _ t.1.1.1.1.0 in
      record { dictionary = omega arith; string = omega arith; history = omega arith }

  rich_small : (w : Way) → rich_way w ≡ true → Small w
  rich_small w e =
      let t = each (leb 256 w.dictionary ∷ leb w.dictionary 65535 ∷ leb 32 w.string ∷ leb w.string 255 ∷ leb 512 w.history ∷ leb w.history 65535 ∷ []) e in
      let a : w.dictionary ≤ 65535 = leb-true _ _ t.1.0 in
      let b : w.string ≤ 255 = leb-true _ _ t.1.1.1.0 in
      let d : w.history ≤ 65535 = leb-true _ _ t.1.1.1.1.1.0 in
      record { dictionary = omega arith; string = omega arith; history = omega arith }

  pub sizes_small : sizes_fit c ≡ true → Small c.transmit × Small c.receive
  unfolding sizes_fit
  sizes_small =
      pick_by (λ (t : Bool). t ≡ true → Small c.transmit × Small c.receive) (eqb c.compression 1)
      (λ _ e. let b = both_true (bis_way c.transmit) (nothing c.receive) e in (bis_small c.transmit b.0, none_small c.receive b.1))
      (λ _. pick_by (λ (t : Bool). t ≡ true → Small c.transmit × Small c.receive) (eqb c.compression 2)
      (λ _ e. let b = both_true (rich_way c.transmit) (rich_way c.receive) e in (rich_small c.transmit b.0, rich_small c.receive b.1))
      (λ _ e. let b = both_true (nothing c.transmit) (nothing c.receive) e in (none_small c.transmit b.0, none_small c.receive b.1)))

  -- the first four words have room where the numbers fit
  pub base_room : numbers_fit c ≡ true → InWidth (base_fields c)
  unfolding numbers_fit
  base_room e =
      let t = each (ltb c.modulation 31 ∷ ltb c.direction 4 ∷ ltb c.compression 4 ∷ ltb c.correction 3 ∷ leb c.transmit.rate 65535 ∷ leb c.receive.rate 65535 ∷ []) e in
      let m : c.modulation < 31 = ltb-true _ _ t.0 in
      let d : c.direction < 4 = ltb-true _ _ t.1.0 in
      let p : c.compression < 4 = ltb-true _ _ t.1.1.0 in
      let k : c.correction < 3 = ltb-true _ _ t.1.1.1.0 in
      let x : c.transmit.rate ≤ 65535 = leb-true _ _ t.1.1.1.1.0 in
      let y : c.receive.rate ≤ 65535 = leb-true _ _ t.1.1.1.1.1.0 in (
        omega arith,
        (
          omega arith,
          (
            omega arith,
            (
              omega arith,
              (
                omega arith,
                (
                  omega arith,
                  (bit_lt c.dlci, (bit_lt c.octet, (bit_lt c.rawbit, (bit_lt c.frame, (bit_lt c.charstat, (bit_lt c.chardyn, (lit< tt, tt))))))),
                ),
              ),
            ),
          ),
        ),
      )

  module _ (f : numbers_fit c ≡ true) (g : sizes_fit c ≡ true) where
    pub body_words : Words groups
    body_words =
        let r = base_room f in
        let q = r.1.1.1.1 in
        let s = sizes_small g in (
          refl,
          (r.0, (r.1.0, (r.1.1.0, (r.1.1.1.0, tt)))),
          (
            refl,
            (q.0, tt),
            (
              refl,
              (q.1.0, tt),
              (
                refl,
                q.1.1,
                (
                  refl,
                  (s.0.dictionary, tt),
                  (
                    refl,
                    (s.1.dictionary, tt),
                    (
                      refl,
                      (s.0.string, (s.1.string, tt)),
                      (refl, (s.0.history, tt), (refl, (s.1.history, tt), tt)),
                    ),
                  ),
                ),
              ),
            ),
          ),
        )

    -- the octets of the body are the first words, as many as the compression says
    octets_words : connect_octets c ≡ word_octets (take (size_of c.compression / 2) (joined groups))
    unfolding connect_octets size_fields size_of
    octets_words = go (eqb c.compression 1) (eqb c.compression 2)
      where
        go : (x y : Bool) → packed (base_fields c ++ pick x (bis_fields c) (pick y (bis_fields c ++ history_fields c) [])) ≡ word_octets (take (pick x 14 (pick y 18 8) / 2) (joined groups))
        go true y = words_packed (take 7 groups) (words_take 7 groups body_words)
        go false true = words_packed groups body_words
        go false false = words_packed (take 4 groups) (words_take 4 groups body_words)

    -- the words that the code joins, stored, are the body
    pub body_stored : (l : List ℕ) {l₁ : List ℕ} {n flags : ℕ} → n ≡ size_of c.compression → flags ≡ join 0 (flag_fields c)
        → l₁ ≡ sets l 0 (word_octets (take (n / 2) (bit_or (bit_or (bit_or (c.modulation * 2 ^ 2 % 2 ^ 16) c.direction * 2 ^ 4 % 2 ^ 16) c.compression * 2 ^ 4 % 2 ^ 16) c.correction
        ∷ c.transmit.rate ∷ c.receive.rate ∷ flags ∷ c.transmit.dictionary ∷ c.receive.dictionary ∷ bit_or (c.transmit.string * 2 ^ 8 % 2 ^ 16) c.receive.string
        ∷ c.transmit.history ∷ c.receive.history ∷ [])))
        → l₁ ≡ sets l 0 (connect_octets c)
    body_stored l k w e =
        let r = base_room f in
        let s = sizes_small g in
        let x : bit_or (bit_or (bit_or (c.modulation * 2 ^ 2 % 2 ^ 16) c.direction * 2 ^ 4 % 2 ^ 16) c.compression * 2 ^ 4 % 2 ^ 16) c.correction ≡ join 0 front =
        (chain 12 4 16 (chain 8 4 16 (chain 6 2 16 (refl, r.0) r.1.0 (lit≤ tt)) r.1.1.0 (lit≤ tt)) r.1.1.1.0 (lit≤ tt)).0 ∙ omega arith in
        let y : bit_or (c.transmit.string * 2 ^ 8 % 2 ^ 16) c.receive.string ≡ join 0 (of 8 c.transmit.string ∷ of 8 c.receive.string ∷ []) =
        join_is 8 8 16 s.0.string s.1.string (lit≤ tt) ∙ omega arith in
        e ∙ (λ i. sets l 0 (word_octets (take (k i / 2) (x i ∷ alone c.transmit.rate i ∷ alone c.receive.rate i ∷ w i ∷ alone c.transmit.dictionary i ∷ alone c.receive.dictionary i ∷ y i
        ∷ alone c.transmit.history i ∷ alone c.receive.history i ∷ []))))
        ∙ ap (sets l 0) (sym octets_words)
      where
        -- a word of one field
        alone : (n : ℕ) → n ≡ join 0 (of 16 n ∷ [])
        alone n = omega arith

  pub body_length : length (connect_octets c) ≡ size_of c.compression
  unfolding connect_octets size_fields size_of
  body_length = go (eqb c.compression 1) (eqb c.compression 2)
    where
      go : (x y : Bool) → length (packed (base_fields c ++ pick x (bis_fields c) (pick y (bis_fields c ++ history_fields c) []))) ≡ pick x 14 (pick y 18 8)
      go true y = refl
      go false true = refl
      go false false = refl

-- no more than nine words
pub half_size : (c : ℕ) {n : ℕ} → n ≡ size_of c → n / 2 ≤ 9
unfolding size_of
half_size c e = rw e (pick_by (λ (n : ℕ). n / 2 ≤ 9) (eqb c 1) (λ _. lit≤ tt) (λ _. pick_by (λ (n : ℕ). n / 2 ≤ 9) (eqb c 2) (λ _. lit≤ tt) (λ _. lit≤ tt)))

-- and no fewer than eight octets
pub size_least : (c : ℕ) → 8 ≤ size_of c
unfolding size_of
size_least c = pick_by (λ (n : ℕ). 8 ≤ n) (eqb c 1) (λ _. lit≤ tt) (λ _. pick_by (λ (n : ℕ). 8 ≤ n) (eqb c 2) (λ _. lit≤ tt) (λ _. lit≤ tt))

-- all tests before writing pass: then the numbers fit, and what is stored is the body
module _ (c : Connect) (l : List ℕ) {v : Verdict} (e : v ≡ verdict (write_tests c (length l))) (k : v ≡ Ok tt) where
  tests : Holds (write_tests c (length l))
  tests = passed (write_tests c (length l)) (sym e ∙ k)

  pub write_fits : (numbers_fit c ≡ true) × (sizes_fit c ≡ true)
  write_fits = both_true (numbers_fit c) (sizes_fit c) tests.1.0

  pub write_done : {l₁ : List ℕ} {n : ℕ} → n ≡ size_of c.compression → l₁ ≡ sets l 0 (connect_octets c) → Writes (write_tests c (length l)) (connect_octets c) l l₁ (Ok n)
  write_done p q = stored_writes (write_tests c (length l)) (connect_octets c) l e k (leb-true _ _ tests.1.1.0) (p ∙ sym (body_length c)) q
