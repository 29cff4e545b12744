-- Our report counts the messages that are held, one by one, and a count made up at will does not.
-- Assumes nothing.
use Rattle.promise.proofs.Phases.{part_there}
use Rattle.promise.specs.Run.{part_in}
use Prim.Native.Nat.{ℕ, zero, suc, ◌+◌, ◌-◌, ◌≤◌}
use mathlib.Core.Path.{◌≡◌, refl, sym, ap, ap₂, ◌∙◌}
use mathlib.Core.Bool.{Bool, true, false}
use mathlib.Core.List.{List, [], ◌∷◌}
use native.Mathlib.Omega.{arith}
use borrow.Author.Tests.{le-leb}
use lib.ListN.{length}
use Rattle.ground.specs.Answer.{accepted}
use Rattle.ground.specs.Pick.{pick}
use Rattle.ground.proofs.Verdicts.{passes, verdict_on}
use Rattle.places.specs.Places.{mask_of, bit_of, set_below}
use Rattle.places.proofs.Ranks.{count_reach}
use Rattle.channel.specs.Channel.{window_of, largest}
use Rattle.sending.specs.Sending.{SendingOk, held_count}
use Rattle.sending.specs.declared.Sending.{Sending}
use Rattle.flow.proofs.Keeps.{sending_sized}
use Rattle.flow.specs.Flow.{Message, Sends, Full}
use Rattle.flow.specs.View.{Slots, message_of}
use Rattle.flow.proofs.Messages.{message_none, message_full}
use Rattle.line.specs.Line.{sending_of}
use Rattle.store.specs.declared.Way.TheVariants as way
use Rattle.relay.specs.RelayTests.{reliable, relay_channel_tests}
use Rattle.book.proofs.Facts.{line_fits_lem}
use Rattle.calls.specs.Call as call
use Rattle.calls.specs.Order.{line_for}
use Rattle.calls.specs.Stages.{tests, fit_book, line_number}
use Rattle.calls.specs.Result.{accepted_result, effect, result_with}
use Rattle.calls.proofs.OrderStages.{in_stages}
use Rattle.calls.proofs.Results.{result_accepted, same_line}
use Rattle.promise.specs.Build.{ours}
use Rattle.promise.specs.Run.{Gateway, line_at, Relays}
use Rattle.promise.specs.Ours.{does}
use Rattle.promise.specs.Ends.{slots_of, sends_of}
use Rattle.promise.specs.Demand2.{Ready}
use Rattle.promise.specs.ReportRule.{some, held_from, held_of, Reports}
use Rattle.promise.proofs.Views.{slots_hold}
use Rattle.promise.proofs.Ends.{Sides, sends_ok, relay_sides}
use Rattle.promise.proofs.OwnLine.{Passes}
use Rattle.promise.proofs.Accepts.{relay_asked}

some_full : (m : Message) → Full m → some m ≡ true
some_full [] f = absurd f
some_full (x ∷ m) f = refl

module _ {g : Gateway} {i : ℕ} (r : Ready g i) (inside : Relays g i) (channel : ℕ) (v : reliable channel ≡ true) where
  abbrev s : Sending
  s = sending_of (line_at g i) channel

  abbrev slots : Slots
  slots = slots_of (line_at g i) (part_in g i) way.Sending channel

  abbrev view : Sends
  view = sends_of (part_in g i) (line_at g i) channel

  sides : Sides (line_at g i)
  sides = relay_sides (line_at g i) (line_fits_lem g.book r.fits i) r.opened inside

  ok : SendingOk (window_of channel) s
  ok = sends_ok sides channel

  abbrev message : ℕ → Message
  message k = message_of (window_of channel) slots s.sizes (mask_of s.unacked) s.origin k

  -- message h + k is there exactly if its place is in the set
  held_bit : (k : ℕ) → suc k ≤ s.taken - s.base → some (view.held (s.base + k)) ≡ bit_of (mask_of s.unacked) k
  held_bit k l = ap (λ (n : ℕ). some (message n)) (back s.base k) ∙ go (bit_of (mask_of s.unacked) k) refl
    where
      back : (b n : ℕ) → b + n - b ≡ n
      back b n = omega arith

      go : (t : Bool) → bit_of (mask_of s.unacked) k ≡ t → some (message k) ≡ bit_of (mask_of s.unacked) k
      go true e =
          some_full (message k) (message_full (window_of channel) slots s.sizes (mask_of s.unacked) s.origin largest ok.placed (sending_sized (window_of channel) largest s (sides.sending channel))
          (slots_hold (line_at g i) (part_in g i) (part_there g i r.long r.small) way.Sending channel v) k (omega (arith, ok.windowed)) e)
          ∙ sym e
      go false e = ap some (message_none (window_of channel) slots s.sizes (mask_of s.unacked) s.origin k e) ∙ sym e

  counts : (k : ℕ) → k ≤ s.taken - s.base → set_below (mask_of s.unacked) k ≡ held_from view k
  unfolding set_below held_from
  counts zero l = refl
  counts (suc k) l = ap₂ (λ (x : ℕ) (t : Bool). x + pick t 1 0) (counts k (omega arith)) (sym (held_bit k l))

  held_count_lem : held_count s ≡ held_of view
  held_count_lem = count_reach (mask_of s.unacked) (s.taken - s.base) ok.masked (omega (arith, ok.windowed, ok.narrow)) ∙ counts (s.taken - s.base) (omega arith)

  report_passes : (out : List ℕ) → Passes g (call.report i channel) out
  unfolding tests
  report_passes out =
      let before = fit_book g.book ∷ line_number i ∷ [] in
      verdict_on before (relay_channel_tests (line_at g i) channel) (passes before (r.fits, (le-leb i 3 (omega (arith, r.small)), tt))) ∙ relay_asked (line_at g i) r.opened inside channel v

  -- "A held count made up at will is excluded by the report's rule"
  pub report_exact : (out : List ℕ) → does g (call.report i channel) out ≡ result_with (accepted (held_of view ∷ [])) g.book g.store out
  unfolding accepted_result effect line_for
  report_exact out =
      result_accepted (call.report i channel) g.book g.store out (in_stages (call.report i channel) g.book (length g.store) (length out) ∙ report_passes out)
      ∙ (λ t. result_with (accepted (held_count_lem t ∷ [])) (same_line g.book i t) g.store out)

pub ours_reports : Reports ours
ours_reports = record { exact = λ g i r inside channel v out. report_exact r inside channel v out }
