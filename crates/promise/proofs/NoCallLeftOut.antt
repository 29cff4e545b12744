-- No call is left out: whatever is called once the line is open adds to its past, unless it closes the line or is a packet that the proviso excludes.
-- Assumes nothing.
use Prim.Native.Nat.{ℕ}
use mathlib.Core.Path.{◌≡◌, sym, ap, subst, ◌∙◌}
use mathlib.Core.Bool.{true, not}
use mathlib.Core.List.{List, ◌∷◌}
use native.Mathlib.Decide.{ℕ_discrete}
use lib.ListN.{length}
use borrow.Author.Tests.{eqb-true}
use Rattle.std.specs.Prelude.{Ok}
use Rattle.ground.specs.Refusal.{verdict}
use Rattle.ground.proofs.Either.{by_test}
use Rattle.ground.proofs.Picks.{clash}
use Rattle.ground.proofs.Verdicts.{passed}
use Rattle.line.specs.Line.{is_open}
use Rattle.line.specs.declared.Line.{Line}
use Rattle.line.specs.declared.Settings.{Settings}
use Rattle.mode.specs.Given.{modem}
use Rattle.arriving.specs.Arrive.{arrive_tests}
use Rattle.calls.specs.Call.{Call}
use Rattle.calls.specs.Call as call
use Rattle.calls.specs.Order.{line_for}
use Rattle.calls.specs.Stages.{tests, fit_book, line_number, open_tests}
use Rattle.calls.specs.Result.{effect}
use Rattle.incoming.proofs.Passing.{addressed}
use Rattle.promise.specs.Past.{Past, took_past, handed_past, wrote_past, heard_past}
use Rattle.promise.specs.Ours.{does, after, Provided, Adds}
use Rattle.promise.specs.Run.{Gateway, accepts, given, line_at, Relays, noted_held, noted_empty, refused, elsewhere, moded, reported, took, handed, sent, wrote, heard}
use Rattle.promise.proofs.Phases.{Sound, is_open_lem}
use Rattle.promise.proofs.OwnLine.{Passes, call_passes, line_left}

-- an open line is not opened, and a line that is closed is not open
open_refused : (g : Gateway) (i : ℕ) (x : Settings) (time : ℕ) (out : List ℕ) → Passes g (call.opening i x time) out → is_open (line_at g i) ≡ true → ⊥
unfolding tests open_tests
open_refused g i x time out e o =
    let t = passed (fit_book g.book ∷ line_number i ∷ open_tests g.book i x) e in
    clash (sym (ap not o) ∙ t.1.1.0)

-- a packet is let in by a line in modem relay
arrives_in : (l : Line) (s : List ℕ) → verdict (arrive_tests l s) ≡ Ok tt → l.modes.local ≡ modem
unfolding arrive_tests
arrives_in l s e = eqb-true _ _ (passed (arrive_tests l s) e).1.0

module _ {i identifier kind : ℕ} {g : Gateway} {p : Past} (s : Sound i identifier kind g p) (opened : p.opened ≡ true) (q : Past) (out : List ℕ) where
  -- what has become of the line with the call
  abbrev Then : Call → Type 0
  Then c = (p' : Past) × Adds i g p q out c p'

  -- a call that is accepted on the line
  own_adds : (c : Call) → line_for c g.book ≡ i → accepts (does g c out) ≡ true → is_open (line_at (after g c out) i) ≡ true → Provided i g p q out c → Then c
  unfolding line_for effect tests
  own_adds (call.opening k x time) m e still ok =
      absurd (subst (λ (n : ℕ). accepts (does g (call.opening n x time) out) ≡ true → ⊥) (sym m)
      (λ a. open_refused g i x time out (call_passes g (call.opening i x time) out a) (is_open_lem s.phase opened).opened) e)
  own_adds (call.closing k) m e still ok =
      clash (sym (ap is_open (line_left s (call.closing k) out m (call_passes g (call.closing k) out e))) ∙ still)
  own_adds (call.mode k a) m e still ok = subst (λ (n : ℕ). Then (call.mode n a)) (sym m) (p, moded a)
  own_adds (call.taking k channel x) m e still ok =
      subst (λ (n : ℕ). accepts (does g (call.taking n channel x) out) ≡ true → Then (call.taking n channel x)) (sym m) (λ a. (took_past p channel x, took channel x a)) e
  own_adds (call.sending k channel rank) m e still ok =
      subst (λ (n : ℕ). accepts (does g (call.sending n channel rank) out) ≡ true → Then (call.sending n channel rank)) (sym m)
      (λ a. (wrote_past p (noted_held g p i channel rank (does g (call.sending i channel rank) out)), sent channel rank a)) e
  own_adds (call.empty k channel) m e still ok =
      subst (λ (n : ℕ). accepts (does g (call.empty n channel) out) ≡ true → Then (call.empty n channel)) (sym m)
      (λ a. (wrote_past p (noted_empty g p i channel (does g (call.empty i channel) out)), wrote channel a)) e
  own_adds (call.arrival x) m e still ok =
      let t = addressed g.book (length g.store) x (call_passes g (call.arrival x) out e) in
      let r : Relays g i = subst (Relays g) m (arrives_in (line_at g (line_for (call.arrival x) g.book)) x t.line) in
      let k = ok e m in
      (heard_past p k.0, heard x k.0 m r k.1)
  own_adds (call.hand_out k channel) m e still ok =
      subst (λ (n : ℕ). accepts (does g (call.hand_out n channel) out) ≡ true → Then (call.hand_out n channel)) (sym m)
      (λ a. (handed_past p channel (given (does g (call.hand_out i channel) out)), handed channel a)) e
  own_adds (call.report k channel) m e still ok = subst (λ (n : ℕ). Then (call.report n channel)) (sym m) (p, reported channel)

  pub call_adds : (c : Call) → is_open (line_at (after g c out) i) ≡ true → Provided i g p q out c → Then c
  call_adds c still ok = by_test (accepts (does g c out)) (λ e. go e (ℕ_discrete (line_for c g.book) i)) (λ e. (p, refused c e))
    where
      go : accepts (does g c out) ≡ true → Dec (line_for c g.book ≡ i) → Then c
      go e (yes m) = own_adds c m e still ok
      go e (no n) = (p, elsewhere c n)
