-- A CONNECT body that may be written reads back as what was written, and no two are written alike.
-- Assumes nothing.
use mathlib.Core.Path.{◌≡◌, refl, ap, sym, ◌∙◌}
use mathlib.Core.Bool.{Bool, true, false, ◌&&◌}
use mathlib.Core.List.{List, [], ◌∷◌, ◌++◌}
use Prim.Native.Nat.{ℕ, ◌≤◌, ◌<◌}
use native.Mathlib.Omega.{arith}
use lib.Dec.{lit≤, ltb, leb, eqb}
use lib.ListN.{length}
use borrow.Author.Tests.{ltb-true, le-leb, lt-ltb, eq-eqb, eqb-true}
use Rattle.std.specs.Prelude.{Ok, Err}
use Rattle.ground.specs.Pick.{pick, bit}
use Rattle.ground.specs.Refusal.{verdict}
use Rattle.ground.proofs.Picks.{each, both_true}
use Rattle.ground.proofs.Verdicts.{passed, passes}
use Rattle.ground.proofs.Settled.{settles_took}
use Rattle.field.specs.Layout.{packed, InWidth, Reads}
use Rattle.field.proofs.Laws.{bits_past}
use Rattle.field.proofs.Packs.{room_append, reads_whole, reads_append}
use Rattle.connect.specs.Spans.{nothing, bis_way, rich_way, size_of, sizes_fit, numbers_fit}
use Rattle.connect.specs.Read.{compression_at, way_at, connect_at, read_tests, connect_read}
use Rattle.connect.specs.Write.{base_fields, bis_fields, history_fields, size_fields, connect_octets, write_tests}
use Rattle.connect.specs.declared.Way.{Way}
use Rattle.connect.specs.declared.Connect.{Connect}
use Rattle.connect.proofs.Writes.{Small, sizes_small, base_room, body_length, size_least}

bit_back : (b : Bool) {x : ℕ} → x ≡ bit b → eqb x 1 ≡ b
bit_back true e = ap (λ (n : ℕ). eqb n 1) e
bit_back false e = ap (λ (n : ℕ). eqb n 1) e

-- what the tests show of a direction that has nothing to tell
none_zero : (w : Way) → nothing w ≡ true → (w.dictionary ≡ 0) × (w.string ≡ 0) × (w.history ≡ 0)
none_zero w e =
    let t = each (eqb w.dictionary 0 ∷ eqb w.string 0 ∷ eqb w.history 0 ∷ []) e in
    (eqb-true _ _ t.0, eqb-true _ _ t.1.0, eqb-true _ _ t.1.1.0)

bis_zero : (w : Way) → bis_way w ≡ true → w.history ≡ 0
bis_zero w e = eqb-true _ _ (each (leb 512 w.dictionary ∷ leb w.dictionary 65535 ∷ leb 6 w.string ∷ leb w.string 250 ∷ eqb w.history 0 ∷ []) e).1.1.1.1.0

module _ (c : Connect) (f : numbers_fit c ≡ true) (g : sizes_fit c ≡ true) where
  space : InWidth (base_fields c)
  space = base_room c f

  small : Small c c.transmit × Small c c.receive
  small = sizes_small c g

  bis_room : InWidth (bis_fields c)
  bis_room = (small.0.dictionary, (small.1.dictionary, (small.0.string, (small.1.string, tt))))

  history_room : InWidth (history_fields c)
  history_room = (small.0.history, (small.1.history, tt))

  -- all fields of Table 25 are read at their places, in each length; those with no place are 0
  whole : (x y : Bool) → pick x (bis_way c.transmit && nothing c.receive) (pick y (rich_way c.transmit && rich_way c.receive) (nothing c.transmit && nothing c.receive)) ≡ true
      → Reads (packed (base_fields c ++ pick x (bis_fields c) (pick y (bis_fields c ++ history_fields c) []))) 0 (base_fields c ++ (bis_fields c ++ history_fields c))
  whole true y e =
      let s : List ℕ = packed (base_fields c ++ bis_fields c) in
      let b = both_true (bis_way c.transmit) (nothing c.receive) e in
      reads_append s 0 (base_fields c ++ bis_fields c) (history_fields c)
      (reads_whole 14 (base_fields c ++ bis_fields c) (room_append (base_fields c) (bis_fields c) space bis_room) refl)
      (bits_past s 112 16 (lit≤ tt) ∙ sym (bis_zero c.transmit b.0), (bits_past s 128 16 (lit≤ tt) ∙ sym (none_zero c.receive b.1).2, tt))
  whole false true e =
      reads_whole 18 (base_fields c ++ (bis_fields c ++ history_fields c)) (room_append (base_fields c) (bis_fields c ++ history_fields c) space (room_append (bis_fields c) (history_fields c) bis_room history_room)) refl
  whole false false e =
      let s : List ℕ = packed (base_fields c ++ []) in
      let b = both_true (nothing c.transmit) (nothing c.receive) e in
      let t = none_zero c.transmit b.0 in
      let r = none_zero c.receive b.1 in
      reads_append s 0 (base_fields c) (bis_fields c ++ history_fields c) (reads_whole 8 (base_fields c) space refl) (
        bits_past s 64 16 (lit≤ tt) ∙ sym t.0,
        (
          bits_past s 80 16 (lit≤ tt) ∙ sym r.0,
          (
            bits_past s 96 8 (lit≤ tt) ∙ sym t.1,
            (
              bits_past s 104 8 (lit≤ tt) ∙ sym r.1,
              (bits_past s 112 16 (lit≤ tt) ∙ sym t.2, (bits_past s 128 16 (lit≤ tt) ∙ sym r.2, tt)),
            ),
          ),
        ),
      )

  reads : Reads (connect_octets c) 0 (base_fields c ++ (bis_fields c ++ history_fields c))
  unfolding connect_octets size_fields sizes_fit
  reads = whole (eqb c.compression 1) (eqb c.compression 2) g

  connect_back : connect_at (connect_octets c) ≡ c
  unfolding connect_at way_at
  connect_back =
      let r = reads in
      let q = r.1.1.1.1 in
      let b = q.1.1 in
      let d = b.1.1.1.1.1.1.1 in
      let h = d.1.1.1.1 in
      λ i. record {
        modulation = r.0 i;
        direction = r.1.0 i;
        compression = r.1.1.0 i;
        correction = r.1.1.1.0 i;
        transmit = record { rate = q.0 i; dictionary = d.0 i; string = d.1.1.0 i; history = h.0 i };
        receive = record { rate = q.1.0 i; dictionary = d.1.0 i; string = d.1.1.1.0 i; history = h.1.0 i };
        dlci = bit_back c.dlci b.0 i;
        octet = bit_back c.octet b.1.0 i;
        rawbit = bit_back c.rawbit b.1.1.0 i;
        frame = bit_back c.frame b.1.1.1.0 i;
        charstat = bit_back c.charstat b.1.1.1.1.0 i;
        chardyn = bit_back c.chardyn b.1.1.1.1.1.0 i;
      }

-- a body that may be written reads back
module _ (c : Connect) (space : ℕ) (ok : verdict (write_tests c space) ≡ Ok tt) where
  pub round : connect_read (connect_octets c) ≡ Ok c
  unfolding numbers_fit
  round =
      let s : List ℕ = connect_octets c in
      let t = passed (write_tests c space) ok in
      let b = both_true (numbers_fit c) (sizes_fit c) t.1.0 in
      let e = connect_back c b.0 b.1 in
      let p : compression_at s ≡ c.compression = (reads c b.0 b.1).1.1.0 in
      let n = each (ltb c.modulation 31 ∷ ltb c.direction 4 ∷ ltb c.compression 4 ∷ ltb c.correction 3 ∷ leb c.transmit.rate 65535 ∷ leb c.receive.rate 65535 ∷ []) b.0 in
      let k : c.compression < 4 = ltb-true _ _ n.1.1.0 in
      let l : length s ≡ size_of (compression_at s) = body_length c ∙ ap size_of (sym p) in
      let q : compression_at s < 4 = omega arith in
      let eight : 8 ≤ length s = omega (arith, body_length c, size_least c.compression) in
      sym (settles_took (verdict (read_tests s)) Err (Ok (connect_at s)) refl
      (passes (read_tests s) (le-leb _ _ eight, (lt-ltb _ _ q, (eq-eqb _ _ l, (ap sizes_fit e ∙ b.1, tt))))) (ap Ok (sym e)))

-- two bodies that are written alike are one
pub written_once : (c d : Connect) (m n : ℕ) → verdict (write_tests c m) ≡ Ok tt → verdict (write_tests d n) ≡ Ok tt → connect_octets c ≡ connect_octets d → c ≡ d
written_once c d m n p q e =
    let a = round c m p in
    let b = round d n q in
    let s : connect_read (connect_octets c) ≡ connect_read (connect_octets d) = ap connect_read e in
    cc
