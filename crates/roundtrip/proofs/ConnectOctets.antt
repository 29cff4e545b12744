-- A CONNECT body that is read is written again as it came, but for the ten bits that are not read; and when it may be written.
-- Assumes nothing.
use mathlib.Core.Path.{◌≡◌, refl, ap, ◌∙◌}
use mathlib.Core.Bool.{Bool, true, false, ◌&&◌}
use mathlib.Core.List.{List, [], ◌∷◌, ◌++◌}
use Prim.Native.Nat.{ℕ, zero, suc, ◌+◌, ◌*◌, ◌≤◌, ◌<◌}
use native.Mathlib.Omega.{arith}
use lib.Dec.{ltb, leb, eqb}
use lib.ListN.{length}
use borrow.Author.Tests.{ltb-true, leb-true, eqb-true, lt-ltb, le-leb, lt-leb}
use Rattle.std.specs.Prelude.{Ok}
use Rattle.ground.specs.Pick.{pick, all_hold, bit}
use Rattle.ground.specs.Refusal.{must, verdict}
use Rattle.ground.specs.declared.Refusal.TheVariants.{RANGE, ROOM}
use Rattle.ground.proofs.Verdicts.{Holds, passed}
use Rattle.field.specs.Bits.{bits_at}
use Rattle.field.specs.Layout.{packed, Reads}
use Rattle.field.proofs.Laws.{bits_lt}
use Rattle.field.proofs.Packs.{reads_append}
use Rattle.connect.specs.Spans.{size_of, numbers_fit}
use Rattle.connect.specs.Read.{compression_at, flag_at, way_at, connect_at, read_tests}
use Rattle.connect.specs.Write.{base_fields, bis_fields, history_fields, size_fields, connect_octets, write_tests}
use Rattle.connect.specs.declared.Connect.{Connect}
use Rattle.roundtrip.specs.Again.{Octets, connect_again}
use Rattle.roundtrip.proofs.Octets.{packs_whole, cleared_length, cleared_octets, cleared_there, cleared_before, cleared_after, cleared_none}

-- a bit, read as a flag and written
bit_is : (x : ℕ) → x < 2 → x ≡ bit (eqb x 1)
bit_is zero h = refl
bit_is (suc zero) h = refl
bit_is (suc (suc x)) h = absurd (omega arith)

and-true : (b : Bool) → (b && true) ≡ b
and-true true = refl
and-true false = refl

-- of the numbers' tests two are left, where the others hold
two_left : (x y : Bool) → all_hold (x ∷ true ∷ true ∷ y ∷ true ∷ true ∷ []) ≡ (x && y)
two_left true true = refl
two_left true false = refl
two_left false true = refl
two_left false false = refl

module _ (s : List ℕ) (ok : verdict (read_tests s) ≡ Ok tt) where
  abbrev c : Connect
  c = connect_at s

  tests : Holds (read_tests s)
  tests = passed (read_tests s) ok

  least : 8 ≤ length s
  least = leb-true _ _ tests.0

  room : 54 + 10 ≤ 8 * length s
  room = omega (arith, least)

  -- a flag stands in its bit
  flag : (b : ℕ) → b + 1 ≤ 54 → bits_at (connect_again s) b 1 ≡ bit (flag_at s b)
  flag b h = cleared_before s 54 10 room b 1 h ∙ bit_is (bits_at s b 1) (bits_lt s b 1)

  base_read : Reads (connect_again s) 0 (base_fields c)
  unfolding connect_at way_at
  base_read =
      let b = cleared_before s 54 10 room in (
        b 0 6 (omega arith),
        (
          b 6 2 (omega arith),
          (
            b 8 4 (omega arith),
            (
              b 12 4 (omega arith),
              (
                b 16 16 (omega arith),
                (
                  b 32 16 (omega arith),
                  (
                    flag 48 (omega arith),
                    (flag 49 (omega arith), (flag 50 (omega arith), (flag 51 (omega arith), (flag 52 (omega arith), (flag 53 (omega arith), (cleared_there s 54 10 room, tt)))))),
                  ),
                ),
              ),
            ),
          ),
        ),
      )

  bis_read : 14 ≤ length s → Reads (connect_again s) 64 (bis_fields c)
  unfolding connect_at way_at
  bis_read l =
      let a = cleared_after s 54 10 room in
      (a 64 16 (omega arith) (omega arith), (a 80 16 (omega arith) (omega arith), (a 96 8 (omega arith) (omega arith), (a 104 8 (omega arith) (omega arith), tt))))

  history_read : 18 ≤ length s → Reads (connect_again s) 112 (history_fields c)
  unfolding connect_at way_at
  history_read l =
      let a = cleared_after s 54 10 room in
      (a 112 16 (omega arith) (omega arith), (a 128 16 (omega arith) (omega arith), tt))

  -- in each of the three lengths
  by_length : (x y : Bool) → length s ≡ pick x 14 (pick y 18 8) → packed (base_fields c ++ pick x (bis_fields c) (pick y (bis_fields c ++ history_fields c) [])) ≡ connect_again s
  by_length true y l =
      packs_whole (connect_again s) (base_fields c ++ bis_fields c) (cleared_octets s 54 10) (omega (arith, cleared_length s 54 10, l))
      (reads_append (connect_again s) 0 (base_fields c) (bis_fields c) base_read (bis_read (omega (arith, l))))
  by_length false true l =
      packs_whole (connect_again s) (base_fields c ++ (bis_fields c ++ history_fields c)) (cleared_octets s 54 10) (omega (arith, cleared_length s 54 10, l))
      (reads_append (connect_again s) 0 (base_fields c) (bis_fields c ++ history_fields c) base_read
      (reads_append (connect_again s) 64 (bis_fields c) (history_fields c) (bis_read (omega (arith, l))) (history_read (omega (arith, l)))))
  by_length false false l =
      packs_whole (connect_again s) (base_fields c ++ []) (cleared_octets s 54 10) (omega (arith, cleared_length s 54 10, l))
      (reads_append (connect_again s) 0 (base_fields c) [] base_read tt)

  -- a body that is read is written as it was read, with the ten unread bits 0
  pub octets_round : connect_octets (connect_at s) ≡ connect_again s
  unfolding connect_at connect_octets size_fields size_of
  octets_round = by_length (eqb (compression_at s) 1) (eqb (compression_at s) 2) (eqb-true _ _ tests.1.1.0)

  -- where the ten bits are 0, as it was read
  pub octets_back : Octets s → bits_at s 54 10 ≡ 0 → connect_octets (connect_at s) ≡ s
  octets_back o e = octets_round ∙ cleared_none s 54 10 room o e

  -- it may be written, if its modulation is below 31, its error correction below 3, and the output has room: these are the only ones that
  -- are refused (RULES 11.8)
  pub written_again : (space : ℕ) → verdict (write_tests (connect_at s) space) ≡ verdict (must (ltb (bits_at s 0 6) 31 && ltb (bits_at s 12 4) 3) RANGE ∷ must (leb (length s) space) ROOM ∷ [])
  unfolding connect_at way_at numbers_fit
  written_again space =
      let k : bits_at s 8 4 < 4 = ltb-true _ _ tests.1.0 in
      let l : length (connect_octets (connect_at s)) ≡ length s = ap length octets_round ∙ cleared_length s 54 10 in
      rw (
        lt-leb 4 (bits_at s 8 4) k,
        lt-ltb (bits_at s 6 2) 4 (bits_lt s 6 2),
        lt-ltb (bits_at s 8 4) 4 k,
        le-leb (bits_at s 16 16) 65535 (omega (arith, bits_lt s 16 16)),
        le-leb (bits_at s 32 16) 65535 (omega (arith, bits_lt s 32 16)),
        two_left (ltb (bits_at s 0 6) 31) (ltb (bits_at s 12 4) 3),
        tests.1.1.1.0,
        and-true (ltb (bits_at s 0 6) 31 && ltb (bits_at s 12 4) 3),
        l,
      ) refl
