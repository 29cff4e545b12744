-- Each call on the open line keeps the two ends joined: a message taken or handed out, a packet written.
-- Assumes nothing.
use Prim.Native.Nat.{ℕ}
use mathlib.Core.Path.{◌≡◌, refl, sym, ap, subst, ◌∙◌}
use mathlib.Core.Bool.{true}
use mathlib.Core.List.{List, [], ◌∷◌}
use lib.Dec.{eqb}
use lib.ListN.{length, take}
use borrow.Author.Tests.{eqb-true}
use Rattle.std.specs.Prelude.{Ok}
use Rattle.ground.specs.Pick.{pick}
use Rattle.ground.specs.Refusal.{verdict}
use Rattle.ground.proofs.Verdicts.{passed, pass_both}
use Rattle.line.specs.declared.Line.{Line}
use Rattle.mode.specs.Given.{modem}
use Rattle.mode.specs.declared.Modes.{Modes}
use Rattle.relay.specs.RelayTests.{relay_channel_tests}
use Rattle.relay.specs.Take.{take_call_tests, took_line, took_part}
use Rattle.relay.specs.HandOut.{hand_call_tests, handed_line, handed_octets}
use Rattle.relay.proofs.Keeps.{took_line_same, handed_line_same, took_part_length, took_in_store}
use Rattle.book.specs.Parts.{part_start}
use Rattle.book.proofs.Parts.{part_in_lem}
use Rattle.line.proofs.Same.{SameSettings}
use Rattle.relay.proofs.Lines.{take_asked, hand_asked}
use Rattle.writing.specs.Write.{empty_tests, wrote_line}
use Rattle.writing.specs.Write as written
use Rattle.writing.specs.Send.{send_tests, ranked, held_in, held_packet}
use Rattle.writing.proofs.Keeps.{wrote_line_same}
use Rattle.calls.specs.Call.{Call}
use Rattle.calls.specs.Call as call
use Rattle.calls.specs.Order.{line_for}
use Rattle.calls.specs.Stages.{tests, fit_book, roomy, line_number}
use Rattle.calls.specs.Result.{effect}
use Rattle.flow.specs.Flow.{Message}
use Rattle.promise.specs.Past.{Mark, Past, took_past, handed_past, wrote_past}
use Rattle.promise.specs.Run.{Gateway, given, line_at, part_in, Relays, ranked_mark, base_mark, noted_held, noted_empty}
use Rattle.promise.specs.Ours.{does, after}
use Rattle.promise.proofs.Ends.{End, Joined}
use Rattle.promise.proofs.SendingAnew.{asked_open, taking_joined}
use Rattle.promise.proofs.ReceivingAnew.{hand_joined}
use Rattle.promise.proofs.PacketWritten.{empty_joined, held_joined}
use Rattle.promise.proofs.Phases.{end_of, Open, Phase, relaying, Sound, is_open_lem, open_same, end_now}
use Rattle.promise.proofs.OwnLine.{Passes, line_left, part_left, part_stays, octets_given}

-- What the tests of a call ask of its line.
module _ (g : Gateway) (i : ℕ) (out : List ℕ) where
  pub take_asks : (channel : ℕ) (m : Message) → Passes g (call.taking i channel m) out → verdict (take_call_tests (line_at g i) channel (length m)) ≡ Ok tt
  unfolding tests
  take_asks channel m e = (pass_both (fit_book g.book ∷ roomy g.book (length g.store) ∷ line_number i ∷ []) (take_call_tests (line_at g i) channel (length m)) e).1

  pub hand_asks : (channel : ℕ) → Passes g (call.hand_out i channel) out → verdict (hand_call_tests (line_at g i) channel (length out)) ≡ Ok tt
  unfolding tests
  hand_asks channel e = (pass_both (fit_book g.book ∷ roomy g.book (length g.store) ∷ line_number i ∷ []) (hand_call_tests (line_at g i) channel (length out)) e).1

  pub send_asks : (channel rank : ℕ) → Passes g (call.sending i channel rank) out → verdict (send_tests (line_at g i) channel rank (length out)) ≡ Ok tt
  unfolding tests
  send_asks channel rank e = (pass_both (fit_book g.book ∷ roomy g.book (length g.store) ∷ line_number i ∷ []) (send_tests (line_at g i) channel rank (length out)) e).1

  pub empty_asks : (channel : ℕ) → Passes g (call.empty i channel) out → verdict (empty_tests (line_at g i) channel (length out)) ≡ Ok tt
  unfolding tests
  empty_asks channel e = (pass_both (fit_book g.book ∷ line_number i ∷ []) (empty_tests (line_at g i) channel (length out)) e).1

-- a packet is written in modem relay
send_inside : (l : Line) (channel rank space : ℕ) → verdict (send_tests l channel rank space) ≡ Ok tt → l.modes.local ≡ modem
unfolding send_tests
send_inside l channel rank space e = (asked_open l channel (pass_both (relay_channel_tests l channel) _ e).0).1

empty_inside : (l : Line) (channel space : ℕ) → verdict (empty_tests l channel space) ≡ Ok tt → l.modes.local ≡ modem
unfolding empty_tests
empty_inside l channel space e = eqb-true _ _ (passed (empty_tests l channel space) e).1.0

-- what a step leaves at line i of a gateway: how far the line is, and that its end is joined to f
abbrev pub Left : ℕ → ℕ → ℕ → End → Gateway → Past → Type 0
Left i identifier kind f g p = Phase i identifier kind g p × Joined (end_of g i p) f

-- and that the line is in modem relay
abbrev pub LeftIn : ℕ → ℕ → ℕ → End → Gateway → Past → Type 0
LeftIn i identifier kind f g p = Relays g i × Left i identifier kind f g p

module _ {i identifier kind : ℕ} {g : Gateway} {p : Past} (s : Sound i identifier kind g p) (opened : p.opened ≡ true) {f : End} (j : Joined (end_of g i p) f) (out : List ℕ) where
  -- the end, its line being open
  abbrev pub mine : End
  mine = record { line = line_at g i; part = part_in g i; past = p }

  pub joined_open : Joined mine f
  joined_open = subst (λ (e : End). Joined e f) (end_now g i p opened refl refl) j

  -- a call that leaves the line in modem relay, and its settings
  pub left_in : (h : Gateway) (l : Line) (part : List ℕ) (p' : Past) → p'.opened ≡ true → line_at h i ≡ l → part_in h i ≡ part → SameSettings (line_at g i) l → Relays g i
      → Joined (record { line = l; part = part; past = p' }) f → LeftIn i identifier kind f h p'
  left_in h l part p' o e t same r k =
      let inside = ap (λ (x : Line). x.modes.local) e ∙ ap (λ (m : Modes). m.local) same.modes ∙ r in
      (inside, (relaying (subst (Open identifier kind) (sym e) (open_same same.opening (is_open_lem s.phase opened))) o inside, subst (λ (x : End). Joined x f) (sym (end_now h i p' o e t)) k))

  pub took_kept : (channel : ℕ) (m : Message) → Passes g (call.taking i channel m) out → LeftIn i identifier kind f (after g (call.taking i channel m) out) (took_past p channel m)
  unfolding line_for effect
  took_kept channel m e =
      let c = call.taking i channel m in
      let l = line_at g i in
      let pass = take_asks g i out channel m e in
      let k = joined_open in
      left_in (after g c out) (took_line l channel (length m)) (took_part l channel m (part_in g i)) (took_past p channel m) opened (line_left s c out refl e) (part_left s c out refl e (sym (took_in_store l channel m g.store (part_start g.book i) k.mine.fits pass (part_in_lem g.book g.store s.long i s.small))) (took_part_length l channel m (part_in g i)))
      (took_line_same l channel (length m)) (asked_open l channel (take_asked l k.mine.fits channel (length m) pass)).1 (taking_joined channel m pass k)

  pub handed_given : (channel : ℕ) → Passes g (call.hand_out i channel) out → given (does g (call.hand_out i channel) out) ≡ handed_octets (line_at g i) channel (part_in g i)
  unfolding line_for effect
  handed_given channel e = octets_given s (call.hand_out i channel) out refl e (handed_octets (line_at g i) channel (part_in g i)) refl refl

  pub handed_kept : (channel : ℕ) → Passes g (call.hand_out i channel) out
      → LeftIn i identifier kind f (after g (call.hand_out i channel) out) (handed_past p channel (given (does g (call.hand_out i channel) out)))
  unfolding line_for effect
  handed_kept channel e =
      let c = call.hand_out i channel in
      let l = line_at g i in
      let pass = hand_asks g i out channel e in
      let k = joined_open in
      subst (λ (m : Message). LeftIn i identifier kind f (after g c out) (handed_past p channel m)) (sym (handed_given channel e))
      (left_in (after g c out) (handed_line l channel) (part_in g i) (handed_past p channel (handed_octets l channel (part_in g i))) opened (line_left s c out refl e) (part_stays s c out refl e refl)
      (handed_line_same l channel) (asked_open l channel (hand_asked l k.mine.fits channel (length out) pass)).1 (hand_joined channel (length out) pass k))

  -- a packet with these octets and marks is written
  abbrev after_packet : Call → List Mark → List Mark → List ℕ → Type 0
  after_packet c carried named octets =
      LeftIn i identifier kind f (after g c out) (wrote_past p (record { octets = octets; carries = carried; names = named; acks = take 3 p.owes }))

  pub sent_given : (channel rank : ℕ) → Passes g (call.sending i channel rank) out
      → given (does g (call.sending i channel rank) out) ≡ held_packet (line_at g i) channel (held_in (ranked (line_at g i) channel rank)) (part_in g i)
  unfolding line_for effect
  sent_given channel rank e = octets_given s (call.sending i channel rank) out refl e (held_packet (line_at g i) channel (held_in (ranked (line_at g i) channel rank)) (part_in g i)) refl refl

  pub sent_kept : (channel rank : ℕ) → Passes g (call.sending i channel rank) out
      → LeftIn i identifier kind f (after g (call.sending i channel rank) out) (wrote_past p (noted_held g p i channel rank (does g (call.sending i channel rank) out)))
  unfolding line_for effect
  sent_kept channel rank e =
      let c = call.sending i channel rank in
      let l = line_at g i in
      let pass = send_asks g i out channel rank e in
      let octets = held_packet l channel (held_in (ranked l channel rank)) (part_in g i) in
      subst (after_packet c (ranked_mark g i channel rank ∷ []) (base_mark g i channel ∷ [])) (sym (sent_given channel rank e))
      (left_in (after g c out) (wrote_line l) (part_in g i) (wrote_past p (record { octets = octets; carries = ranked_mark g i channel rank ∷ []; names = base_mark g i channel ∷ []; acks = take 3 p.owes }))
      opened (line_left s c out refl e) (part_stays s c out refl e refl)
      (wrote_line_same l) (send_inside l channel rank (length out) pass) (held_joined channel rank (length out) pass joined_open))

  pub empty_given : (channel : ℕ) → Passes g (call.empty i channel) out → given (does g (call.empty i channel) out) ≡ written.empty_packet (line_at g i) channel
  unfolding line_for effect
  empty_given channel e = octets_given s (call.empty i channel) out refl e (written.empty_packet (line_at g i) channel) refl refl

  pub wrote_kept : (channel : ℕ) → Passes g (call.empty i channel) out
      → LeftIn i identifier kind f (after g (call.empty i channel) out) (wrote_past p (noted_empty g p i channel (does g (call.empty i channel) out)))
  unfolding line_for effect
  wrote_kept channel e =
      let c = call.empty i channel in
      let l = line_at g i in
      let pass = empty_asks g i out channel e in
      let octets = written.empty_packet l channel in
      let named = pick (eqb channel 0) [] (base_mark g i channel ∷ []) in
      subst (after_packet c [] named) (sym (empty_given channel e))
      (left_in (after g c out) (wrote_line l) (part_in g i) (wrote_past p (record { octets = octets; carries = []; names = named; acks = take 3 p.owes }))
      opened (line_left s c out refl e) (part_stays s c out refl e refl)
      (wrote_line_same l) (empty_inside l channel (length out) pass) (empty_joined channel (length out) pass joined_open))
