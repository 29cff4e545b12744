-- A message taken or handed out leaves a line that BOOK lets pass, with its settings and its modes as they were.
-- Assumes nothing.
use Prim.Native.Nat.{ℕ, ◌+◌, ◌≤◌}
use mathlib.Core.Path.{◌≡◌, ap, ◌∙◌}
use mathlib.Core.Bool.{true}
use native.Mathlib.Omega.{arith}
use mathlib.Core.List.{List}
use lib.ListN.{length, length-set}
use lib.Seq.{sets, length-sets}
use Rattle.std.specs.Prelude.{Ok}
use Rattle.ground.specs.Refusal.{verdict}
use Rattle.sending.specs.Sending.{next_place, took_one}
use Rattle.receiving.specs.Receiving.{handed_out}
use Rattle.flow.proofs.Keeps.{took_keeps, handed_keeps}
use Rattle.line.specs.Line.{sending_of, receiving_of}
use Rattle.line.specs.Fit.{line_fits}
use Rattle.line.specs.Figures.{send_window, receive_window, send_largest, receive_largest}
use Rattle.line.specs.Part.{part_length, region_of, region_in}
use Rattle.line.specs.Shape.{Shaped}
use Rattle.store.specs.Store.{slot_at, part_at, with_part_at}
use Rattle.store.proofs.Parts.{part_sets}
use Rattle.store.specs.declared.Way.TheVariants.{Sending}
use Rattle.line.specs.declared.Line.{Line}
use Rattle.line.proofs.Keeps.{ok_line, sending_side, receiving_side, with_sending_ok, with_receiving_ok}
use Rattle.line.proofs.Same.{SameSettings, with_sending_same, with_receiving_same}
use Rattle.line.proofs.Shape.{sending_long, receiving_long, with_sending_shaped, with_receiving_shaped}
use Rattle.relay.specs.Take.{take_call_tests, took_line, took_part, took_store}
use Rattle.relay.specs.HandOut.{hand_call_tests, handed_line}
use Rattle.relay.proofs.Lines.{ok, inside, slot_in, take_asked, take_reliable, take_fits, take_size, take_place, take_side, take_steps, hand_asked, hand_side, hand_steps}

-- what opening named, and the modes
pub took_line_same : (l : Line) (channel n : ℕ) → SameSettings l (took_line l channel n)
took_line_same l channel n = with_sending_same l channel (took_one (send_window l channel) (sending_of l channel) n)

pub handed_line_same : (l : Line) (channel : ℕ) → SameSettings l (handed_line l channel)
handed_line_same l channel = with_receiving_same l channel (handed_out (receive_window l channel) (receiving_of l channel))

-- where all tests pass, what BOOK asks is kept, and so are the lengths of the line's arrays
pub took_line_keeps : (l : Line) (channel n : ℕ) → line_fits l ≡ true → Shaped l → verdict (take_call_tests l channel n) ≡ Ok tt
    → (line_fits (took_line l channel n) ≡ true) × Shaped (took_line l channel n)
unfolding took_one
took_line_keeps l channel n fits shaped pass =
    let w = send_window l channel in
    let s = sending_of l channel in
    let asked = take_asked l fits channel n pass in
    let k = ok l fits channel asked in
    let m = inside l fits channel asked in
    let z = sending_long l shaped channel in
    let narrow = (take_steps l fits channel n pass).narrow in
    let t = took_keeps w (send_largest l) narrow s (sending_side l k m channel) n (omega (arith, z, narrow)) (take_side l fits channel n pass) (take_fits l fits channel n pass) in
    (ok_line (took_line l channel n) (with_sending_ok l k m channel (took_one w s n) t), with_sending_shaped l shaped channel (took_one w s n) (length-set s.sizes (next_place w s) n ∙ z))

pub handed_line_keeps : (l : Line) (channel space : ℕ) → line_fits l ≡ true → Shaped l → verdict (hand_call_tests l channel space) ≡ Ok tt
    → (line_fits (handed_line l channel) ≡ true) × Shaped (handed_line l channel)
unfolding handed_out
handed_line_keeps l channel space fits shaped pass =
    let w = receive_window l channel in
    let r = receiving_of l channel in
    let asked = hand_asked l fits channel space pass in
    let k = ok l fits channel asked in
    let m = inside l fits channel asked in
    let t = handed_keeps w (receive_largest l) (hand_steps l fits channel space pass).narrow r (receiving_side l k m channel) (hand_side l fits channel space pass) in
    (ok_line (handed_line l channel) (with_receiving_ok l k m channel (handed_out w r) t), with_receiving_shaped l shaped channel (handed_out w r) (receiving_long l shaped channel))

-- the line's part of the store stays as long as it was
pub took_part_length : (l : Line) (channel : ℕ) (message part : List ℕ) → length (took_part l channel message part) ≡ length part
took_part_length l channel message part = length-sets part (slot_at (region_of l Sending channel) (next_place (send_window l channel) (sending_of l channel))) message

-- what is put into the part is put into the store
pub took_in_store : (l : Line) (channel : ℕ) (message store : List ℕ) (start : ℕ) → line_fits l ≡ true → verdict (take_call_tests l channel (length message)) ≡ Ok tt → start + part_length l ≤ length store
    → with_part_at start (part_length l) store (took_part l channel message (part_at start (part_length l) store)) ≡ took_store l start channel message store
took_in_store l channel message store start fits pass inside =
    let n = length message in
    let g = region_of l Sending channel in
    let p = next_place (send_window l channel) (sending_of l channel) in
    let r = slot_in l Sending channel p (part_length l) (take_reliable l fits channel n pass) (take_place l fits channel n pass) (omega arith) in
    let e : start + slot_at g p ≡ slot_at (region_in start l Sending channel) p = omega arith in
    part_sets start (part_length l) store inside (slot_at g p) message (omega (arith, r.inside, take_size l fits channel n pass)) ∙ ap (λ (k : ℕ). sets store k message) e
