-- What a call does on an open line depends on that line alone: on its record and on its part of the store, wherever the part lies.
-- Assumes nothing.
use Prim.Native.Nat.{ℕ, ◌≤◌, ◌<◌}
use mathlib.Core.Path.{◌≡◌, refl, sym, ap, subst, ◌∙◌}
use mathlib.Core.Bool.{true, false}
use mathlib.Core.List.{List, [], ◌∷◌, ◌++◌}
use native.Mathlib.Omega.{arith}
use lib.Dec.{leb}
use lib.ListN.{length, drop}
use borrow.Author.Tests.{eqb-true, le-leb}
use Rattle.std.specs.Prelude.{Option, Some, Ok, Err, is_some}
use Rattle.ground.specs.Answer.{accepted}
use Rattle.ground.specs.Refusal.{Verdict, Test, must, verdict}
use Rattle.ground.specs.declared.Refusal.TheVariants.{NOLINE, TAKEN}
use Rattle.ground.proofs.Verdicts.{pass_both}
use Rattle.packet.specs.Read.{head_at, head_tests}
use Rattle.line.specs.Line.{is_open}
use Rattle.line.specs.Part.{part_length}
use Rattle.line.specs.declared.Line.{Line}
use Rattle.store.specs.Store.{part_at}
use Rattle.relay.specs.RelayTests.{relay_channel_tests}
use Rattle.relay.specs.Take.{take_call_tests, took_part}
use Rattle.relay.specs.HandOut.{hand_call_tests, handed_octets}
use Rattle.relay.proofs.Keeps.{took_part_length, took_in_store}
use Rattle.writing.specs.Write.{empty_tests}
use Rattle.writing.specs.Send.{send_tests, ranked, held_in, held_packet}
use Rattle.arriving.specs.Arrive.{arrive_tests, arrived_part}
use Rattle.arriving.proofs.Arrivals.{arrive_relaying}
use Rattle.arriving.proofs.Keeps.{arrived_part_length, arrived_in_store}
use Rattle.book.specs.Book.{line_of, book_fits, owner_of}
use Rattle.book.specs.Parts.{part_start, store_length, part_of}
use Rattle.book.specs.Shape.{BookShaped}
use Rattle.book.specs.declared.Book.{Book}
use Rattle.book.proofs.Facts.{line_fits_lem}
use Rattle.book.proofs.OneOwner.{whose_found}
use Rattle.book.proofs.Parts.{part_in_lem, part_long, part_put}
use Rattle.calls.specs.Call.{Call}
use Rattle.calls.specs.Call as call
use Rattle.calls.specs.Order.{line_for, packet_line, owner_line}
use Rattle.calls.specs.Stages.{tests, fit_book, roomy, line_number, open_tests, close_tests, mode_tests, address_tests, arrival_tests}
use Rattle.calls.specs.Result.{Effect, result_of, effect}
use Rattle.calls.proofs.OrderStages.{in_stages}
use Rattle.calls.proofs.Results.{did_refused}
use Rattle.laws.specs.LineCalls.{for_line, SameOnLine}
use Rattle.laws.proofs.OwnLine.{leaves_at}
use Rattle.laws.proofs.Others.{part_where}

-- a book that passes, with line i open, and a store that is long enough
pub record OpenAt (b : Book) (store : List ℕ) (i : ℕ) : Type 0 where
  pub fits : book_fits b ≡ true
  pub shaped : BookShaped b
  pub long : store_length b ≤ length store
  pub small : i < 4
  pub opened : is_open (line_of b i) ≡ true

-- what a call for an open line asks of it, BOOK and ROOM for the store aside; opening it is TAKEN
unfoldable pub own_tests : Call → Line → ℕ → List Test
own_tests (call.opening _ s time) l space = must false TAKEN ∷ []
own_tests (call.closing _) l space = close_tests l space
own_tests (call.mode _ a) l space = mode_tests l a
own_tests (call.taking _ channel message) l space = take_call_tests l channel (length message)
own_tests (call.sending _ channel rank) l space = send_tests l channel rank space
own_tests (call.empty _ channel) l space = empty_tests l channel space
own_tests (call.arrival s) l space = head_tests s ++ arrive_tests l s
own_tests (call.hand_out _ channel) l space = hand_call_tests l channel space
own_tests (call.report _ channel) l space = relay_channel_tests l channel

-- what a call makes of the line's part of the store
unfoldable own_part : Call → Line → List ℕ → List ℕ
own_part (call.opening _ s time) l part = part
own_part (call.closing _) l part = part
own_part (call.mode _ a) l part = part
own_part (call.taking _ channel message) l part = took_part l channel message part
own_part (call.sending _ channel rank) l part = part
own_part (call.empty _ channel) l part = part
own_part (call.arrival s) l part = arrived_part l s part
own_part (call.hand_out _ channel) l part = part
own_part (call.report _ channel) l part = part

module _ {b : Book} {store : List ℕ} {i : ℕ} (o : OpenAt b store i) where
  -- a packet with the line's identifier is the line's
  owner : (s : List ℕ) → (head_at s).identifier ≡ (line_of b i).identifier → packet_line b s ≡ Some i
  owner s e = ap (owner_of b) e ∙ whose_found b o.fits o.shaped i o.small o.opened

  pub line_for_lem : (k : Call) → for_line i (line_of b i).identifier k ≡ true → line_for k b ≡ i
  unfolding line_for
  line_for_lem (call.opening j s time) e = eqb-true j i e
  line_for_lem (call.closing j) e = eqb-true j i e
  line_for_lem (call.mode j a) e = eqb-true j i e
  line_for_lem (call.taking j channel message) e = eqb-true j i e
  line_for_lem (call.sending j channel rank) e = eqb-true j i e
  line_for_lem (call.empty j channel) e = eqb-true j i e
  line_for_lem (call.arrival s) e = ap owner_line (owner s (eqb-true _ _ e))
  line_for_lem (call.hand_out j channel) e = eqb-true j i e
  line_for_lem (call.report j channel) e = eqb-true j i e

  -- the book passes, the store is long enough, and the line is one of the four: the line decides
  numbered : leb i 3 ≡ true
  numbered = le-leb i 3 (omega (arith, o.small))

  lent : leb (store_length b) (length store) ≡ true
  lent = le-leb _ _ o.long

  on_line : (f : Line → List Test) (j : ℕ) → j ≡ i → verdict (fit_book b ∷ line_number j ∷ f (line_of b j)) ≡ verdict (f (line_of b i))
  on_line f j e = ap (λ (n : ℕ). verdict (fit_book b ∷ line_number n ∷ f (line_of b n))) e ∙ rw (o.fits, numbered)

  on_lent : (f : Line → List Test) (j : ℕ) → j ≡ i → verdict (fit_book b ∷ roomy b (length store) ∷ line_number j ∷ f (line_of b j)) ≡ verdict (f (line_of b i))
  on_lent f j e = ap (λ (n : ℕ). verdict (fit_book b ∷ roomy b (length store) ∷ line_number n ∷ f (line_of b n))) e ∙ rw (o.fits, lent, numbered)

  pub own_verdict : (k : Call) → for_line i (line_of b i).identifier k ≡ true → (space : ℕ) → verdict (tests k b (length store) space) ≡ verdict (own_tests k (line_of b i) space)
  unfolding tests own_tests open_tests arrival_tests address_tests
  own_verdict (call.opening j s time) e space = ap (λ (n : ℕ). verdict (fit_book b ∷ line_number n ∷ open_tests b n s)) (eqb-true j i e) ∙ rw (o.fits, numbered, o.opened)
  own_verdict (call.closing j) e space = on_line (λ l. close_tests l space) j (eqb-true j i e)
  own_verdict (call.mode j a) e space = on_line (λ l. mode_tests l a) j (eqb-true j i e)
  own_verdict (call.taking j channel message) e space = on_lent (λ l. take_call_tests l channel (length message)) j (eqb-true j i e)
  own_verdict (call.sending j channel rank) e space = on_lent (λ l. send_tests l channel rank space) j (eqb-true j i e)
  own_verdict (call.empty j channel) e space = on_line (λ l. empty_tests l channel space) j (eqb-true j i e)
  own_verdict (call.arrival s) e space =
      ap (λ (w : Option ℕ). verdict (fit_book b ∷ roomy b (length store) ∷ ((head_tests s ++ (must (is_some w) NOLINE ∷ [])) ++ arrive_tests (line_of b (owner_line w)) s))) (owner s (eqb-true _ _ e))
      ∙ rw (o.fits, lent)
  own_verdict (call.hand_out j channel) e space = on_lent (λ l. hand_call_tests l channel space) j (eqb-true j i e)
  own_verdict (call.report j channel) e space = on_line (λ l. relay_channel_tests l channel) j (eqb-true j i e)

  -- what is left in the part
  own_part_lem : (k : Call) (out : List ℕ) → verdict (own_tests k (line_of b i) (length out)) ≡ Ok tt → part_of b i (effect k i (line_of b i) (part_start b i) store out).store ≡ own_part k (line_of b i) (part_of b i store)
  unfolding own_tests own_part effect
  own_part_lem (call.opening j s time) out e = refl
  own_part_lem (call.closing j) out e = refl
  own_part_lem (call.mode j a) out e = refl
  own_part_lem (call.taking j channel message) out e =
      let l = line_of b i in
      ap (part_of b i) (sym (took_in_store l channel message store (part_start b i) (line_fits_lem b o.fits i) e (part_in_lem b store o.long i o.small)))
      ∙ part_put b store o.long i o.small (took_part l channel message (part_of b i store)) (took_part_length l channel message (part_of b i store) ∙ part_long b store o.long i o.small)
  own_part_lem (call.sending j channel rank) out e = refl
  own_part_lem (call.empty j channel) out e = refl
  own_part_lem (call.arrival s) out e =
      let l = line_of b i in
      let p = (pass_both (head_tests s) (arrive_tests l s) e).1 in
      ap (part_of b i) (sym (arrived_in_store l (arrive_relaying l s p (line_fits_lem b o.fits i) o.opened) (part_start b i) store (part_in_lem b store o.long i o.small) s p))
      ∙ part_put b store o.long i o.small (arrived_part l s (part_of b i store)) (arrived_part_length l s (part_of b i store) ∙ part_long b store o.long i o.small)
  own_part_lem (call.hand_out j channel) out e = refl
  own_part_lem (call.report j channel) out e = refl

-- Of the store a call answers and writes what lies in the line's part.
record SameEffect (d e : Effect) : Type 0 where
  values : d.values ≡ e.values
  line : d.line ≡ e.line
  out : d.out ≡ e.out

by_part : (k : Call) (i : ℕ) (l : Line) (start begin : ℕ) (store kept out : List ℕ) → part_at start (part_length l) store ≡ part_at begin (part_length l) kept
    → SameEffect (effect k i l start store out) (effect k i l begin kept out)
unfolding effect
by_part (call.opening _ s time) i l start begin store kept out e = record { values = refl; line = refl; out = refl }
by_part (call.closing _) i l start begin store kept out e = record { values = refl; line = refl; out = refl }
by_part (call.mode _ a) i l start begin store kept out e = record { values = refl; line = refl; out = refl }
by_part (call.taking _ channel message) i l start begin store kept out e = record { values = refl; line = refl; out = refl }
by_part (call.sending _ channel rank) i l start begin store kept out e =
    let written : List ℕ → List ℕ = λ part. held_packet l channel (held_in (ranked l channel rank)) part in
    record { values = ap (λ (p : List ℕ). length (written p) ∷ []) e; line = refl; out = ap (λ (p : List ℕ). written p ++ drop (length (written p)) out) e }
by_part (call.empty _ channel) i l start begin store kept out e = record { values = refl; line = refl; out = refl }
by_part (call.arrival s) i l start begin store kept out e = record { values = refl; line = refl; out = refl }
by_part (call.hand_out _ channel) i l start begin store kept out e =
    record { values = ap (λ (p : List ℕ). length (handed_octets l channel p) ∷ []) e; line = refl; out = ap (λ (p : List ℕ). handed_octets l channel p ++ drop (length (handed_octets l channel p)) out) e }
by_part (call.report _ channel) i l start begin store kept out e = record { values = refl; line = refl; out = refl }

-- THE PROMISE: two books that have the same line i, open, and stores with the same part of it. A call for the line comes to the same with both.
module _ {b c : Book} {store kept : List ℕ} {i : ℕ} (p : OpenAt b store i) (q : OpenAt c kept i) (line : line_of b i ≡ line_of c i) (part : part_of b i store ≡ part_of c i kept) where
  pub line_alone : (k : Call) → for_line i (line_of b i).identifier k ≡ true → (out : List ℕ) → SameOnLine i (result_of k b store out) (result_of k c kept out)
  line_alone k e out = go (verdict (own_tests k (line_of b i) (length out))) refl
    where
      same : for_line i (line_of c i).identifier k ≡ true
      same = ap (λ (l : Line). for_line i l.identifier k) (sym line) ∙ e

      here : verdict (tests k b (length store) (length out)) ≡ verdict (own_tests k (line_of b i) (length out))
      here = own_verdict p k e (length out)

      there : verdict (tests k c (length kept) (length out)) ≡ verdict (own_tests k (line_of b i) (length out))
      there = own_verdict q k same (length out) ∙ ap (λ (l : Line). verdict (own_tests k l (length out))) (sym line)

      effects : SameEffect (effect k i (line_of b i) (part_start b i) store out) (effect k i (line_of c i) (part_start c i) kept out)
      effects =
          subst (λ (l : Line). SameEffect (effect k i (line_of b i) (part_start b i) store out) (effect k i l (part_start c i) kept out)) line
          (by_part k i (line_of b i) (part_start b i) (part_start c i) store kept out (part ∙ ap (λ (l : Line). part_at (part_start c i) (part_length l) kept) (sym line)))

      go : (v : Verdict) → verdict (own_tests k (line_of b i) (length out)) ≡ v → SameOnLine i (result_of k b store out) (result_of k c kept out)
      go (Ok tt) v =
          let d = leaves_at k b store out (line_for_lem p k e) (here ∙ v) p.shaped in
          let f = leaves_at k c kept out (line_for_lem q k same) (there ∙ v) q.shaped in
          record {
            answer = d.answer ∙ ap accepted effects.values ∙ sym f.answer;
            out = d.out ∙ effects.out ∙ sym f.out;
            line = d.line ∙ effects.line ∙ sym f.line;
            part =
                part_where k b store out i (result_of k b store out).store ∙ ap (part_of b i) d.store ∙ own_part_lem p k out v
                ∙ (λ t. own_part k (line t) (part t))
                ∙ sym (part_where k c kept out i (result_of k c kept out).store ∙ ap (part_of c i) f.store ∙ own_part_lem q k out (ap (λ (l : Line). verdict (own_tests k l (length out))) (sym line) ∙ v));
          }
      go (Err r) v =
          rw (did_refused k b store out (in_stages k b (length store) (length out) ∙ here ∙ v), did_refused k c kept out (in_stages k c (length kept) (length out) ∙ there ∙ v))
          (record { answer = refl; out = refl; line = line; part = part })
