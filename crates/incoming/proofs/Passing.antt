-- What the passing tests of a call give to the step that it makes: a packet's line, and the length of a message handed out.
-- Assumes nothing.
use Prim.Native.Nat.{ℕ, ◌≤◌, ◌<◌}
use mathlib.Core.Path.{◌≡◌, refl, sym, ap, ◌∙◌}
use mathlib.Core.Bool.{true}
use mathlib.Core.List.{List, [], ◌∷◌}
use native.Mathlib.Omega.{arith}
use lib.ListN.{length, drop, length-drop, length-take}
use borrow.Author.Tests.{leb-true}
use Rattle.std.specs.Prelude.{Option, Some, None, Result, Ok, Err, is_some}
use Rattle.ground.specs.Answer.{answered}
use Rattle.ground.specs.Refusal.{must, verdict}
use Rattle.ground.specs.declared.Refusal.{Refusal}
use Rattle.ground.specs.declared.Refusal.TheVariants.{NOLINE}
use Rattle.ground.proofs.Verdicts.{passed, pass_both}
use Rattle.packet.specs.Read.{head_at, head_tests}
use Rattle.receiving.specs.Receiving.{next_size}
use Rattle.line.specs.Fit.{line_fits}
use Rattle.line.specs.Line.{is_open, receiving_of}
use Rattle.line.specs.declared.Line.{Line}
use Rattle.line.specs.Part.{part_length, region_of}
use Rattle.line.proofs.Part.{region_size}
use Rattle.store.specs.Store.{slot_at}
use Rattle.store.specs.declared.Way.TheVariants.{Receiving}
use Rattle.relay.specs.HandOut.{hand_call_tests, handed_octets}
use Rattle.relay.proofs.Lines.{slot_in, hand_reliable, hand_steps, hand_size}
use Rattle.arriving.specs.Arrive.{arrive_tests}
use Rattle.book.specs.Book.{book_fits, line_of}
use Rattle.book.specs.Parts.{store_length}
use Rattle.book.specs.declared.Book.{Book}
use Rattle.book.proofs.Facts.{line_fits_lem}
use Rattle.book.proofs.OneOwner.{whose_at}
use Rattle.calls.specs.Order.{arrive_order, packet_line, owner_line}
use Rattle.calls.specs.Stages.{fit_book, roomy, address_tests, arrival_tests}
use Rattle.calls.proofs.Accepted.{answer_refuses, answer_passes, answer_is}
use Rattle.calls.proofs.Lent.{Lent}
use Rattle.calls.proofs.OrderStages.{arrive_stages}
use Rattle.incoming.specs.Reading.{arriving_at}
use Rattle.incoming.specs.declared.Arriving.{Arriving}

-- a packet's line and what it passed there
pub record Addressed (b : Book) (n : ℕ) (s : List ℕ) (i : ℕ) : Type 0 where
  pub book : book_fits b ≡ true
  pub store : store_length b ≤ n
  pub owner : packet_line b s ≡ Some i
  pub number : i < length b.lines
  pub opened : is_open (line_of b i) ≡ true
  pub fits : line_fits (line_of b i) ≡ true
  pub head : verdict (head_tests s) ≡ Ok tt
  pub line : verdict (arrive_tests (line_of b i) s) ≡ Ok tt

-- a packet whose address passes has its owner
pub address_owner : (b : Book) (s : List ℕ) → verdict (address_tests b s) ≡ Ok tt → packet_line b s ≡ Some (owner_line (packet_line b s))
unfolding address_tests
address_owner b s e =
    let h = pass_both (head_tests s) (must (is_some (packet_line b s)) NOLINE ∷ []) e in
    somebody (packet_line b s) (passed (must (is_some (packet_line b s)) NOLINE ∷ []) h.1).0
  where
    somebody : (w : Option ℕ) → is_some w ≡ true → w ≡ Some (owner_line w)
    somebody (Some j) t = refl
    somebody None t = absurd (let z : ◌≡◌ {A = ℕ} 0 1 = cc in omega arith)

pub addressed : (b : Book) (n : ℕ) (s : List ℕ) → verdict (fit_book b ∷ roomy b n ∷ arrival_tests b s) ≡ Ok tt → Addressed b n s (owner_line (packet_line b s))
unfolding arrival_tests address_tests
addressed b n s e =
    let i = owner_line (packet_line b s) in
    let p = pass_both (fit_book b ∷ roomy b n ∷ []) (arrival_tests b s) e in
    let t = passed (fit_book b ∷ roomy b n ∷ []) p.0 in
    let q = pass_both (address_tests b s) (arrive_tests (line_of b i) s) p.1 in
    let h = pass_both (head_tests s) (must (is_some (packet_line b s)) NOLINE ∷ []) q.0 in
    let o = address_owner b s q.0 in
    let w = whose_at b (head_at s).identifier i o in
    record { book = t.0; store = leb-true _ _ t.1.0; owner = o; number = w.0; opened = w.1; fits = line_fits_lem b t.0 i; head = h.0; line = q.1 }

-- a packet that may arrive is for the line that its octets name, and the store is lent for that line
module _ (b : Book) (n : ℕ) (s : List ℕ) where
  abbrev its : Arriving
  its = arriving_at (owner_line (packet_line b s)) s

  module _ {r : Result Arriving Refusal} (e : r ≡ answered (arrive_order b n s) its) where
    pub arrive_refuses : {x : Refusal} → r ≡ Err x → verdict (arrive_order b n s) ≡ Err x
    arrive_refuses p = answer_refuses (arrive_order b n s) its e p

    module _ {a : Arriving} (p : r ≡ Ok a) where
      pub arrive_passes : verdict (arrive_order b n s) ≡ Ok tt
      arrive_passes = answer_passes (arrive_order b n s) its e p

      -- what was read is what the octets say
      pub arrive_is : a ≡ its
      arrive_is = answer_is (arrive_order b n s) its e p

      pub arrive_line : owner_line (packet_line b s) ≡ a.line
      arrive_line = sym (ap (λ (x : Arriving). x.line) arrive_is)

      pub arrive_addressed : Addressed b n s a.line
      arrive_addressed = rw arrive_line at (addressed b n s (sym (ap verdict (arrive_stages b n s)) ∙ arrive_passes))

      pub arrive_lent : length b.lines ≡ 4 → Lent b a.line n (arrive_tests (line_of b a.line) s)
      arrive_lent k = let d = arrive_addressed in record { number = omega (arith, d.number); line = d.fits; room = d.store; own = d.line }

-- the message handed out has as many octets as its size says
pub handed_length : (l : Line) (channel space : ℕ) (part : List ℕ) → line_fits l ≡ true → part_length l ≤ length part → verdict (hand_call_tests l channel space) ≡ Ok tt
    → length (handed_octets l channel part) ≡ next_size (receiving_of l channel)
handed_length l channel space part fits large e =
    let g = region_of l Receiving channel in
    let p = (receiving_of l channel).origin in
    let r = slot_in l Receiving channel p (length part) (hand_reliable l fits channel space e) (hand_steps l fits channel space e).placed large in
    let z = region_size l Receiving channel in
    let m = hand_size l fits channel space e in
    let d = length-drop (slot_at g p) part in
    length-take (next_size (receiving_of l channel)) (drop (slot_at g p) part) ∙ omega (arith, r.inside, z, m, d)
