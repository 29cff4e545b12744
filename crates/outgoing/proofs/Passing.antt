-- What the passing tests of a call give to the step that it makes: a held message that may be written.
-- Assumes nothing.
use Prim.Native.Nat.{ℕ}
use mathlib.Core.Path.{◌≡◌, refl, sym, ap, ◌∙◌}
use mathlib.Core.List.{List}
use Rattle.std.specs.Prelude.{Result, Ok, Err}
use Rattle.ground.specs.Refusal.{Verdict, Test, verdict, settle}
use Rattle.ground.specs.Answer.{answered}
use Rattle.ground.specs.declared.Refusal.{Refusal}
use Rattle.sending.specs.declared.Held.{Held}
use Rattle.writing.specs.Send.{send_tests, ranked, held_in, send_verdict, Sendable}
use Rattle.writing.proofs.Sends.{may_sendable}
use Rattle.book.specs.Book.{line_of}
use Rattle.book.specs.declared.Book.{Book}
use Rattle.calls.specs.Order.{send_order}
use Rattle.calls.proofs.Accepted.{answer_refuses, answer_passes, answer_is}
use Rattle.calls.proofs.Lent.{Lent, lent}
use Rattle.calls.proofs.OrderStages.{send_stages}

-- a held message is asked for
module _ (b : Book) (n i channel rank space : ℕ) where
  abbrev asked : List Test
  asked = send_order b n i channel rank space

  abbrev its : Held
  its = held_in (ranked (line_of b i) channel rank)

  module _ {r : Result Held Refusal} (e : r ≡ answered asked its) where
    pub send_refuses : {x : Refusal} → r ≡ Err x → verdict asked ≡ Err x
    send_refuses p = answer_refuses asked its e p

    module _ {h : Held} (p : r ≡ Ok h) where
      pub send_passes : verdict asked ≡ Ok tt
      send_passes = answer_passes asked its e p

      pub send_is : h ≡ its
      send_is = answer_is asked its e p

      pub send_lent : Lent b i n (send_tests (line_of b i) channel rank space)
      send_lent = lent (send_stages b n i channel rank space) refl send_passes

      pub sendable : Sendable (line_of b i) channel space h
      unfolding send_verdict
      sendable =
          may_sendable (line_of b i) channel rank space send_lent.line
          (ap (λ (v : Verdict). settle {A = Result Held Refusal} v Err (Ok its)) send_lent.own ∙ ap (λ (k : Held). Ok k) (sym send_is))
