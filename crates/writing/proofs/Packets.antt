-- A packet that a line writes may be written: what BOOK asks of the line gives all that the packet's own tests ask.
-- Assumes nothing.
use Prim.Native.Nat.{ℕ, zero, suc, ◌≤◌, ◌<◌, min}
use mathlib.Core.Path.{◌≡◌, refl, ap, ◌∙◌}
use mathlib.Core.Bool.{Bool, true}
use mathlib.Core.List.{List, [], ◌∷◌, ◌++◌}
use native.Mathlib.Omega.{arith}
use lib.Dec.{ltb, leb, eqb}
use lib.ListN.{length, get_or, drop, get_or-eq_default}
use borrow.Author.Tests.{lt-ltb, le-leb, eq-eqb, leb-true}
use Rattle.std.specs.Prelude.{Result, Ok, Err}
use Rattle.ground.specs.Refusal.{Verdict, Test, verdict, settle}
use Rattle.ground.specs.Answer.{Writes, contents}
use Rattle.ground.proofs.Picks.{each, together, both_true, pick_by, pick_lt}
use Rattle.ground.proofs.Verdicts.{Holds, passed, passes}
use Rattle.field.specs.Word.{served}
use Rattle.packet.specs.Acks.{named, blank, acks_served, acks_blank}
use Rattle.packet.specs.Read.{size_fits}
use Rattle.packet.specs.Write.{packet_octets, numbers_placed, fields_fit, write_tests}
use Rattle.packet.proofs.Writes.{packet_length}
use Rattle.owed.specs.Owed.{owed_of, first_three, all_spans, owed_fits}
use Rattle.owed.proofs.Steps.{owed_ok}
use Rattle.line.specs.Fit.{line_fits}
use Rattle.line.specs.Figures.{send_largest}
use Rattle.line.specs.declared.Line.{Line}
use Rattle.line.proofs.Keeps.{LineOk, line_ok}
use Rattle.writing.specs.Write.{acks_for, base_for, head_for, header_length_for, empty_packet, empty_tests}
use Rattle.ground.specs.declared.Refusal.{Refusal}

spans_at : (ws : List ℕ) (k : ℕ) → all_spans ws ≡ true → k < length ws → served (get_or ws k 0) ≡ true
unfolding all_spans
spans_at [] k e l = absurd (omega arith)
spans_at (w ∷ ws) zero e l = (both_true (served w) (all_spans ws) e).0
spans_at (w ∷ ws) (suc k) e l = spans_at ws k (both_true (served w) (all_spans ws) e).1 (omega arith)

-- the k-th of the first three, whether it is there or not
module _ (ws : List ℕ) (k : ℕ) (few : k < 3) where
  blank_at : blank (min 3 (length ws)) k (get_or ws k 0) ≡ true
  blank_at =
      pick_lt (λ (t : Bool). t ≡ true) k (min 3 (length ws)) (λ l. refl)
      (λ l. let h : length ws ≤ k = omega arith in eq-eqb _ _ (get_or-eq_default ws 0 h))

  named_at : all_spans ws ≡ true → named (min 3 (length ws)) k (get_or ws k 0) ≡ true
  named_at e = pick_lt (λ (t : Bool). t ≡ true) k (min 3 (length ws)) (λ l. spans_at ws k e (omega arith)) (λ l. refl)

module _ (l : Line) where
  abbrev ws : List ℕ
  ws = owed_of l.owed

  pub acks_few : (acks_for l).count ≤ 3
  unfolding acks_for first_three
  acks_few = omega arith

  pub acks_blank_lem : acks_blank (acks_for l) ≡ true
  unfolding acks_for first_three acks_blank
  acks_blank_lem =
      together (blank (min 3 (length ws)) 0 (get_or ws 0 0) ∷ blank (min 3 (length ws)) 1 (get_or ws 1 0) ∷ blank (min 3 (length ws)) 2 (get_or ws 2 0) ∷ [])
      (blank_at ws 0 (omega arith), (blank_at ws 1 (omega arith), (blank_at ws 2 (omega arith), tt)))

  pub acks_served_lem : owed_fits l.owed ≡ true → acks_served (acks_for l) ≡ true
  unfolding acks_for first_three acks_served
  acks_served_lem f =
      let e = (owed_ok l.owed f).spans in
      together (named (min 3 (length ws)) 0 (get_or ws 0 0) ∷ named (min 3 (length ws)) 1 (get_or ws 1 0) ∷ named (min 3 (length ws)) 2 (get_or ws 2 0) ∷ [])
      (named_at ws 0 (omega arith) e, (named_at ws 1 (omega arith) e, (named_at ws 2 (omega arith) e, tt)))

  base_lt : (channel : ℕ) → base_for l channel < 16384
  unfolding base_for
  base_lt channel = pick_by (λ (n : ℕ). n < 16384) (eqb channel 0) (λ _. omega arith) (λ _. omega arith)

  -- with a number of 14 bits that has its place, a payload of a size that fits, and room
  pub packet_passes : LineOk l → (channel number space : ℕ) (payload : List ℕ) → channel ≤ 2 → number < 16384
      → numbers_placed (head_for l channel number) (length payload) ≡ true → size_fits channel (length payload) (send_largest l) ≡ true
      → length (packet_octets (head_for l channel number) (acks_for l) payload) ≤ space
      → verdict (write_tests (head_for l channel number) (acks_for l) payload (send_largest l) space) ≡ Ok tt
  unfolding fields_fit
  packet_passes k channel number space payload c n p z r =
      let s = each (leb l.identifier 127 ∷ leb 96 l.kind ∷ leb l.kind 127 ∷ []) k.settings in
      let i : l.identifier ≤ 127 = leb-true _ _ s.0 in
      let t : l.kind ≤ 127 = leb-true _ _ s.1.1.0 in
      let f = together (ltb l.identifier 128 ∷ ltb l.kind 128 ∷ ltb number 16384 ∷ ltb (base_for l channel) 16384 ∷ leb (acks_for l).count 3 ∷ acks_blank (acks_for l) ∷ numbers_placed (head_for l channel number) (length payload) ∷ [])
      (lt-ltb l.identifier 128 (omega arith), (lt-ltb l.kind 128 (omega arith), (lt-ltb _ _ n, (lt-ltb _ _ (base_lt channel), (le-leb _ _ acks_few, (acks_blank_lem, (p, tt))))))) in
      let g = together (ltb channel 3 ∷ acks_served (acks_for l) ∷ []) (lt-ltb channel 3 (omega arith), (acks_served_lem k.owed, tt)) in
      passes (write_tests (head_for l channel number) (acks_for l) payload (send_largest l) space) (f, (g, (z, (le-leb _ _ r, tt))))

-- an empty packet is its header
pub empty_length : (l : Line) (channel : ℕ) → length (empty_packet l channel) ≡ header_length_for l
unfolding empty_packet
empty_length l channel = packet_length (head_for l channel 0) (acks_for l) (acks_few l) [] ∙ omega arith

-- all tests before an empty packet is written pass: then it is written
module _ (l : Line) (fits : line_fits l ≡ true) (channel space : ℕ) (pass : verdict (empty_tests l channel space) ≡ Ok tt) where
  tests : Holds (empty_tests l channel space)
  tests = passed (empty_tests l channel space) pass

  ok : LineOk l
  unfolding empty_tests
  ok = line_ok l tests.0 fits

  pub empty_owes : l.owed.count ≤ 64
  empty_owes = (owed_ok l.owed ok.owed).few

  placed : numbers_placed (head_for l channel 0) 0 ≡ true
  unfolding numbers_placed base_for
  placed = pick_by (λ (t : Bool). t ≡ true) (eqb channel 0) (λ e. rw e) (λ e. refl)

  fitting : size_fits channel 0 (send_largest l) ≡ true
  unfolding size_fits
  fitting = pick_by (λ (t : Bool). t ≡ true) (eqb channel 0) (λ e. refl) (λ e. refl)

  pub empty_passes : verdict (write_tests (head_for l channel 0) (acks_for l) [] (send_largest l) space) ≡ Ok tt
  unfolding empty_tests empty_packet
  empty_passes = packet_passes l ok channel 0 space [] (leb-true _ _ tests.1.1.0) (omega arith) placed fitting (rw (empty_length l channel) (leb-true _ _ tests.1.1.1.0))

-- what the packet's writer promises, where its tests pass
pub written_out : {ts : List Test} {octets before after : List ℕ} {r : Result ℕ Refusal} → Writes ts octets before after r → verdict ts ≡ Ok tt
    → (r ≡ Ok (length octets)) × (after ≡ octets ++ drop (length octets) before)
written_out {octets = octets} {before = before} w e =
    let p = w.gives.is ∙ ap (λ (v : Verdict). settle v Err (Ok (length octets))) e in
    (p, w.leaves ∙ ap (λ (v : Result ℕ Refusal). contents v octets before) p)
