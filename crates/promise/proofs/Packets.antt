-- Packets: every message that a line in modem relay holds is written, so is an empty packet, and both read back; and what a packet that is let in
-- asks of its line.
-- Assumes nothing.
use Rattle.promise.proofs.Phases.{part_there}
use Rattle.promise.specs.Run.{part_in}
use Rattle.packet.specs.Read.{longest_header}
use Rattle.writing.specs.Send.{longest_packet}
use Prim.Native.Nat.{ℕ, ◌%◌, ◌≤◌, ◌<◌}
use mathlib.Core.Path.{◌≡◌, refl, sym, ap, subst, ◌∙◌}
use mathlib.Core.Bool.{true}
use mathlib.Core.List.{List, [], ◌∷◌}
use native.Mathlib.Omega.{arith}
use lib.ListN.{length, get_or}
use borrow.Author.Tests.{le-leb, eqb-true}
use Rattle.std.specs.Prelude.{Option, Some, None, Ok, Err, is_some}
use Rattle.ground.specs.Refusal.{Verdict, Test, must, verdict, settle}
use Rattle.ground.specs.declared.Refusal.TheVariants.{NOLINE}
use Rattle.ground.proofs.Picks.{clash}
use Rattle.ground.proofs.Verdicts.{passed, passes, pass_both, verdict_on}
use Rattle.packet.specs.Read.{head_at, head_tests}
use Rattle.channel.specs.Channel.{modulus, largest}
use Rattle.sending.specs.Sending.{held_count}
use Rattle.sending.specs.declared.Held.{Held}
use Rattle.line.specs.Fit.{line_fits}
use Rattle.line.specs.Line.{sending_of}
use Rattle.line.specs.declared.Line.{Line}
use Rattle.relay.specs.RelayTests.{reliable}
use Rattle.writing.specs.Write.{acks_for, head_for, empty_packet, empty_tests}
use Rattle.writing.specs.Send.{held_packet, send_tests, send_verdict, Sendable}
use Rattle.writing.proofs.Packets as written
use Rattle.writing.proofs.Sends.{may_sendable, send_passes}
use Rattle.arriving.specs.Arrive.{arrive_tests}
use Rattle.book.proofs.Facts.{line_fits_lem}
use Rattle.book.proofs.OneOwner.{whose_at}
use Rattle.calls.specs.Call as call
use Rattle.calls.specs.Order.{line_for, packet_line}
use Rattle.calls.specs.Stages.{tests, fit_book, roomy, line_number, address_tests, arrival_tests}
use Rattle.calls.specs.Order as order
use Rattle.calls.specs.Result.{effect}
use Rattle.laws.proofs.OwnLine.{own_values}
use Rattle.promise.specs.Run.{Gateway, accepts, given, line_at, Relays}
use Rattle.promise.specs.Ours.{does}
use Rattle.promise.specs.Demand2.{Says, Writes, Ready, held_by, octets_by, Entitled}
use Rattle.promise.proofs.PacketBack.{packet_says}
use Rattle.promise.proofs.OwnLine.{Passes, call_passes, call_accepted, octets_given}
use Rattle.promise.proofs.Accepts.{send_may_by, empty_may}
use Rattle.promise.proofs.Bodies.{ready_sound}

module _ {g : Gateway} {i : ℕ} (r : Ready g i) (inside : Relays g i) (channel : ℕ) (out : List ℕ) where
  abbrev l : Line
  l = line_at g i

  fits : line_fits l ≡ true
  fits = line_fits_lem g.book r.fits i

  -- a held message is written, by its rank
  module _ (v : reliable channel ≡ true) (rank : ℕ) (few : rank < held_count (sending_of l channel)) (space : longest_packet (line_at g i) ≤ length out) where
    abbrev m : Held
    m = held_by g i channel rank

    may_pass : verdict (send_tests l channel rank (length out)) ≡ Ok tt
    may_pass = send_may_by l r.opened inside fits channel rank (length out) v space few

    pass : Passes g (call.sending i channel rank) out
    unfolding tests
    pass =
        let before = fit_book g.book ∷ roomy g.book (length g.store) ∷ line_number i ∷ [] in
        verdict_on before (send_tests l channel rank (length out)) (passes before (r.fits, (le-leb _ _ r.long, (le-leb i 3 (omega (arith, r.small)), tt)))) ∙ may_pass

    able : Sendable l channel (length out) m
    unfolding send_verdict
    able = may_sendable l channel rank (length out) fits (ap (λ (x : Verdict). settle x Err (Ok m)) may_pass)

    sent : given (does g (call.sending i channel rank) out) ≡ held_packet l channel m (part_in g i)
    unfolding line_for effect
    sent = octets_given (ready_sound r) (call.sending i channel rank) out refl pass (held_packet l channel m (part_in g i)) refl refl

    pub sending_writes : Writes (does g (call.sending i channel rank) out) (head_for l channel (m.number % modulus)) (acks_for l) (octets_by g i channel m)
    unfolding held_packet
    sending_writes =
        let h = head_for l channel (m.number % modulus) in (
          call_accepted g (call.sending i channel rank) out pass,
          subst (λ (s : List ℕ). Says s h (acks_for l) (octets_by g i channel m)) (sym sent)
              (packet_says h (acks_for l) (octets_by g i channel m) largest (length out) (send_passes l fits channel (length out) m able (part_in g i) (part_there g i r.long r.small))),
        )

  -- an empty packet is written
  module _ (c : channel ≤ 2) (space : longest_header ≤ length out) where
    empty_pass : verdict (empty_tests l channel (length out)) ≡ Ok tt
    empty_pass = empty_may l r.opened inside channel (length out) c space

    goes : Passes g (call.empty i channel) out
    unfolding tests
    goes =
        let before = fit_book g.book ∷ line_number i ∷ [] in
        verdict_on before (empty_tests l channel (length out)) (passes before (r.fits, (le-leb i 3 (omega (arith, r.small)), tt))) ∙ empty_pass

    wrote : given (does g (call.empty i channel) out) ≡ empty_packet l channel
    unfolding line_for effect
    wrote = octets_given (ready_sound r) (call.empty i channel) out refl goes (empty_packet l channel) refl refl

    pub empty_writes : Writes (does g (call.empty i channel) out) (head_for l channel 0) (acks_for l) []
    unfolding empty_packet
    empty_writes = (
      call_accepted g (call.empty i channel) out goes,
      subst (λ (s : List ℕ). Says s (head_for l channel 0) (acks_for l) []) (sym wrote)
          (packet_says (head_for l channel 0) (acks_for l) [] largest (length out) (written.empty_passes l fits channel (length out) empty_pass)),
    )

-- "No relay packet is accepted outside modem relay": it is accepted at the line that has its identifier, its type, and is in modem relay
module _ (g : Gateway) (s out : List ℕ) (taken : accepts (does g (call.arrival s) out) ≡ true) where
  abbrev at : ℕ
  at = order.owner_line (packet_line g.book s)

  admitted : verdict (arrival_tests g.book s) ≡ Ok tt
  unfolding tests
  admitted = (pass_both (fit_book g.book ∷ roomy g.book (length g.store) ∷ []) (arrival_tests g.book s) (call_passes g (call.arrival s) out taken)).1

  halves : (verdict (address_tests g.book s) ≡ Ok tt) × (verdict (arrive_tests (line_at g at) s) ≡ Ok tt)
  unfolding arrival_tests
  halves = pass_both (address_tests g.book s) (arrive_tests (line_at g at) s) admitted

  found : packet_line g.book s ≡ Some at
  unfolding address_tests
  found = go (packet_line g.book s) (passed last (pass_both (head_tests s) last halves.0).1).0
    where
      last : List Test
      last = must (is_some (packet_line g.book s)) NOLINE ∷ []

      go : (w : Option ℕ) → is_some w ≡ true → w ≡ Some (order.owner_line w)
      go (Some j) e = refl
      go None e = clash e

  -- the answer names the line that the packet is for
  pub answers : get_or (does g (call.arrival s) out).answer.values 0 0 ≡ at
  unfolding line_for effect
  answers = ap (λ (vs : List ℕ). get_or vs 0 0) (own_values (call.arrival s) g.book g.store out (call_passes g (call.arrival s) out taken))

  pub arrival_entitled : Entitled (line_at g (get_or (does g (call.arrival s) out).answer.values 0 0)) s
  unfolding arrive_tests
  arrival_entitled =
      let t = passed (arrive_tests (line_at g at) s) halves.1 in
      let w = whose_at g.book (head_at s).identifier at found in
      subst (λ (i : ℕ). Entitled (line_at g i) s) (sym answers)
      (record { opened = w.1; inside = eqb-true _ _ t.1.0; named = w.2; typed = sym (eqb-true _ _ t.0) })
