-- Of any build that meets demand 2: a body that may be read is written again as it came, if it may be written. In a CONNECT the ten bits that are not
-- read are 0 then.
-- Assumes nothing.
use Prim.Native.Nat.{ℕ, ◌≤◌, ◌<◌}
use mathlib.Core.Path.{◌≡◌, refl, ◌∙◌}
use mathlib.Core.List.{List}
use lib.ListN.{length}
use borrow.Author.Tests.{lt-ltb, le-leb}
use Rattle.std.specs.Prelude.{Ok}
use Rattle.ground.specs.Refusal.{verdict}
use Rattle.field.specs.Bits.{bits_at}
use Rattle.connect.specs.Read.{connect_at}
use Rattle.connect.specs.Read as connect
use Rattle.connect.specs.Write as body
use Rattle.breaks.specs.Break.{break_at}
use Rattle.breaks.specs.Break as breaks
use Rattle.roundtrip.specs.Again.{Octets, connect_again}
use Rattle.roundtrip.proofs.Breaks as break_back
use Rattle.roundtrip.proofs.ConnectOctets as connect_back
use Rattle.promise.specs.Build.{Left, octets_left, Build}
use Rattle.promise.specs.Demand2.{Demand2}

-- the body is written, in these octets
abbrev LeavesOctets : Left → List ℕ → Type 0
LeavesOctets w octets = (w.answer.number ≡ 0) × (octets_left w ≡ octets)

-- a BREAK is written as it was read
pub break_again : {b : Build} → Demand2 b → (s : List ℕ) → Octets s → verdict (breaks.read_tests s) ≡ Ok tt → (out : List ℕ) → length s ≤ length out
    → LeavesOctets (b.bodies.break_write (break_at s) out) s
break_again d s o ok out h =
    let r = break_back.octets_round s o ok (length out) h in
    let k = d.break_back (break_at s) out r.0 in
    (k.written, k.stands ∙ r.1)

-- a CONNECT is written as it was read, with the ten bits 0, if its modulation is below 31 and its error correction below 3
pub connect_again_lem : {b : Build} → Demand2 b → (s : List ℕ) → verdict (connect.read_tests s) ≡ Ok tt → bits_at s 0 6 < 31 → bits_at s 12 4 < 3 → (out : List ℕ) → length s ≤ length out
    → LeavesOctets (b.bodies.connect_write (connect_at s) out) (connect_again s)
connect_again_lem d s ok m e out h =
    let p : verdict (body.write_tests (connect_at s) (length out)) ≡ Ok tt =
    connect_back.written_again s ok (length out) ∙ rw (lt-ltb (bits_at s 0 6) 31 m, lt-ltb (bits_at s 12 4) 3 e, le-leb (length s) (length out) h) refl in
    let k = d.connect_back (connect_at s) out p in
    (k.written, k.stands ∙ connect_back.octets_round s ok)
