-- News of a packet: a base that the peer has reached, and acknowledgements of what has come to it. Both keep the invariant.
-- Assumes nothing.
use Prim.Native.Nat.{ℕ, ◌%◌, ◌<◌}
use mathlib.Core.Path.{◌≡◌, refl, sym, subst}
use mathlib.Core.Bool.{true}
use mathlib.Core.List.{List, map}
use native.Mathlib.Omega.{arith}
use Rattle.channel.specs.Channel.{modulus}
use Rattle.sending.specs.Sending.{heard_base, acked_by}
use Rattle.sending.specs.declared.Sending.{Sending}
use Rattle.flow.specs.Flow.{Flow}
use Rattle.flow.specs.View.{sends}
use Rattle.flow.proofs.Flows.{known}
use Rattle.flow.proofs.OneWay.{heard_flow, acked_flow}
use Rattle.owed.proofs.Steps.{word_channel, word_number}
use Rattle.line.specs.Fit.{line_fits}
use Rattle.line.specs.Shape.{Shaped}
use Rattle.line.specs.Line.{sending_of, receiving_of, with_sending}
use Rattle.line.specs.Figures.{send_window}
use Rattle.line.specs.declared.Line.{Line}
use Rattle.store.specs.declared.Way.TheVariants as way
use Rattle.relay.specs.RelayTests.{reliable}
use Rattle.arriving.specs.Effect.{Relaying, heard_line, acked_line, acked_all}
use Rattle.arriving.proofs.Effects.{heard_relaying, acked_relaying}
use Rattle.arriving.proofs.Keeps.{heard_shaped, acked_shaped}
use Rattle.promise.specs.Past.{Mark}
use Rattle.promise.specs.Run.{Each, none, also, bound}
use Rattle.promise.specs.Ours.{Recent}
use Rattle.promise.specs.Ends.{slots_of}
use Rattle.promise.specs.Notes.{HasCome, Names, nothing, reached, mark_word}
use Rattle.promise.proofs.Ends.{End, Joined, got, sends_ok, gets_ok, wide}
use Rattle.promise.proofs.SendingAnew.{sending_joined}

-- the end with another record of its line
abbrev pub with_line : End → Line → End
with_line e l = record { line = l; part = e.part; past = e.past }

module _ {e f : End} (k : Relaying e.line) (j : Joined e f) where
  abbrev l : Line
  l = e.line

  -- news leaves a line that is the one before but for a sending side; nothing more is taken, and the store stays
  news_joined : (m : Line) (channel : ℕ) → reliable channel ≡ true → (s : Sending) → m ≡ with_sending l channel s → Relaying m → Shaped m
      → Flow (send_window l channel) (sends (send_window l channel) (slots_of l e.part way.Sending channel) s) (got f channel) (e.past.taken channel) (f.past.handed channel)
      → Joined (with_line e m) f
  news_joined m channel v s same relaying shaped flow =
      subst (λ (x : Line). Joined (with_line e x) f) (sym same)
      (sending_joined j channel v s e.part e.past.taken k.opened k.inside
      (subst (λ (x : Line). line_fits x ≡ true) same relaying.fits, subst Shaped same shaped)
      j.mine.long (λ c r p q. refl) (λ c r d p q. refl) (λ c n x d. d) (λ c d. refl) flow)

  heard_side : (channel base b : ℕ) → reliable channel ≡ true → base ≡ b % modulus
      → heard_line l channel base ≡ with_sending l channel (heard_base (send_window l channel) (sending_of l channel) (b % modulus))
  unfolding heard_line
  heard_side channel base b v q = rw (v, q) refl

  acked_side : (m : Mark) → acked_line l (mark_word m) ≡ with_sending l m.channel (acked_by (sending_of l m.channel) (m.number % modulus))
  unfolding acked_line
  acked_side m =
      let n = m.number % modulus in
      let few : n < 16384 = omega arith in
      λ i. with_sending l (word_channel m.channel n few i) (acked_by (sending_of l (word_channel m.channel n few i)) (word_number m.channel n few i))

  -- "Base b against the last base heard h"
  pub base_joined : (channel base : ℕ) {ms : List Mark} → Names (got f) channel base ms → Each (Recent e.past.taken) ms → Joined (with_line e (heard_line l channel base)) f
  unfolding heard_line
  base_joined channel base (nothing r) c = rw r j
  base_joined channel base (reached b v q g) (also c none) =
      let there = j.there channel v in
      let s = sending_of l channel in
      news_joined (heard_line l channel base) channel v (heard_base (send_window l channel) s (b % modulus)) (heard_side channel base b v q) (heard_relaying l k channel base) (heard_shaped l j.mine.shaped channel base)
      (heard_flow (send_window l channel) bound (wide channel) s (receiving_of f.line channel) (slots_of l e.part way.Sending channel) (slots_of f.line f.part way.Receiving channel)
      (e.past.taken channel) (f.past.handed channel) (sends_ok j.mine.sides channel) (gets_ok j.yours.sides channel) there b g (omega (arith, c, there.count)))

  -- "An acknowledged number k on its channel"
  pub ack_joined : (m : Mark) → HasCome (got f) m → Recent e.past.taken m → Joined (with_line e (acked_line l (mark_word m))) f
  ack_joined m g c =
      let channel = m.channel in
      let n = m.number in
      let there = j.there channel g.served in
      let s = sending_of l channel in
      news_joined (acked_line l (mark_word m)) channel g.served (acked_by s (n % modulus)) (acked_side m) (acked_relaying l k (mark_word m)) (acked_shaped l j.mine.shaped (mark_word m))
      (acked_flow (send_window l channel) bound (wide channel) s (receiving_of f.line channel) (slots_of l e.part way.Sending channel) (slots_of f.line f.part way.Receiving channel)
      (e.past.taken channel) (f.past.handed channel) (sends_ok j.mine.sides channel) (gets_ok j.yours.sides channel) there n g.have (known there n g.have) (omega (arith, c, there.count)))

-- "acknowledgements as listed"
pub acks_joined : {f e : End} → Relaying e.line → Joined e f → {ms : List Mark} → Each (HasCome (got f)) ms → Each (Recent e.past.taken) ms
    → Joined (with_line e (acked_all e.line (map mark_word ms))) f
unfolding acked_all
acks_joined k j none none = j
acks_joined {e = e} k j (also {a = m} g gs) (also c cs) = acks_joined {e = with_line e (acked_line e.line (mark_word m))} (acked_relaying e.line k (mark_word m)) (ack_joined k j m g c) gs cs
