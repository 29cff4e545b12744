-- What the promises assume can be had: two fresh gateways open the line and go into modem relay, and there each message of 1 to 132 octets can be
-- taken, sent and handed out.
-- Assumes nothing.
use Rattle.book.specs.Parts.{store_length}
use Prim.Native.Nat.{ℕ, ◌≤◌, ◌<◌}
use mathlib.Core.Path.{◌≡◌, refl, sym, ap, subst, ◌∙◌}
use mathlib.Core.Bool.{true, not}
use mathlib.Core.List.{List, [], ◌∷◌}
use native.Mathlib.Omega.{arith}
use lib.Dec.{lit<, eqb}
use lib.ListN.{length}
use borrow.Author.Tests.{le-leb}
use Rattle.ground.proofs.Picks.{pick_by}
use Rattle.ground.proofs.Verdicts.{passes}
use Rattle.channel.specs.Channel.{window_of, cap, largest}
use Rattle.sending.specs.Sending.{fresh_sending}
use Rattle.sending.specs.declared.Sending.{Sending}
use Rattle.flow.specs.Flow.{Message}
use Rattle.owed.specs.Owed.{member}
use Rattle.line.specs.Fit.{settings_fit}
use Rattle.line.specs.Line.{is_open, closed_line, opened_line, sending_of}
use Rattle.line.specs.declared.Line.{Line}
use Rattle.line.specs.declared.Settings.{Settings}
use Rattle.mode.specs.Acts.{Act, outcome}
use Rattle.mode.specs.Acts as act
use Rattle.mode.specs.Given.{modem}
use Rattle.mode.specs.Moved.{moved}
use Rattle.mode.specs.Request.{ask_step}
use Rattle.mode.specs.declared.Modes.{Modes}
use Rattle.relay.specs.RelayTests.{reliable}
use Rattle.book.specs.Book.{fresh_book, open_in}
use Rattle.book.proofs.Fresh.{fresh_fits}
use Rattle.book.proofs.RestingTurns.{get_or_alike}
use Rattle.calls.specs.Call as call
use Rattle.calls.specs.Order.{line_for}
use Rattle.calls.specs.Stages.{tests, fit_book, line_number, open_tests}
use Rattle.calls.specs.Result.{effect}
use Rattle.promise.specs.Past.{Past, nothing_yet, just_opened, more}
use Rattle.promise.specs.Ours.{after, Step, Run}
use Rattle.promise.specs.Run.{Gateway, line_at, Relays, moded, took, opens, calls, stay, here, there, fresh_with}
use Rattle.promise.specs.Promise.{InRelay}
use Rattle.promise.proofs.SendingAnew.{more_here}
use Rattle.promise.proofs.Fresh.{Unused, opened_unused, stepped_unused}
use Rattle.promise.proofs.OwnLine.{Passes, call_accepted, line_left}
use Rattle.promise.proofs.CallsKeep.{took_kept}
use Rattle.promise.proofs.LineStays.{mode_line, mode_open, stepped_modes}
use Rattle.promise.proofs.StepsKeep.{Pair, turned, step_kept, fresh_pair, run_kept, run_on}
use Rattle.promise.proofs.Accepts.{taking_passes}
use Rattle.promise.proofs.Drains.{relay_step}
use Rattle.promise.proofs.GoesOn.{settles}

module _ (identifier kind : ℕ) (fitting : settings_fit (record { identifier = identifier; kind = kind; vbd = true; relay = true }) ≡ true) where
  abbrev settings : Settings
  settings = record { identifier = identifier; kind = kind; vbd = true; relay = true }

  -- One of the two: it opens the line, and asks for modem relay.
  module _ {i j : ℕ} {h : Gateway} {q : Past} {store : List ℕ} (k : Pair i j identifier kind (fresh_with store) nothing_yet h q) where
    abbrev opened : Gateway
    opened = after (fresh_with store) (call.opening i settings 0) []

    may_open : Passes (fresh_with store) (call.opening i settings 0) []
    unfolding tests open_tests member open_in
    may_open =
        let free : not (is_open (line_at (fresh_with store) i)) ≡ true = ap (λ (l : Line). not (is_open l)) (get_or_alike 4 i closed_line) in
        passes (fit_book fresh_book ∷ line_number i ∷ open_tests fresh_book i settings) (fresh_fits, (le-leb i 3 (omega (arith, k.mine.small)), (free, (fitting, (refl, tt)))))

    line : line_at opened i ≡ opened_line settings 0
    unfolding line_for effect
    line = line_left k.mine (call.opening i settings 0) [] refl may_open

    opening : Step i identifier kind q (fresh_with store) nothing_yet opened just_opened
    opening = opens refl settings 0 [] refl refl (call_accepted (fresh_with store) (call.opening i settings 0) [] may_open)

    pair : Pair i j identifier kind opened just_opened h q
    pair = step_kept k opening

    abbrev request : Act
    request = act.ask modem 0

    abbrev related : Gateway
    related = after opened (call.mode i request) []

    inside : Relays related i
    unfolding ask_step moved
    inside =
        let l = line_at opened i in
        ap (λ (x : Line). x.modes.local) (mode_line pair.mine refl pair.joined request [])
        ∙ ap (λ (m : Modes). m.local) (stepped_modes l (outcome l.modes request).modes (outcome l.modes request).channels)
        ∙ ap (λ (x : Line). (outcome x.modes request).modes.local) line

    asking_relay : Step i identifier kind q opened just_opened related just_opened
    asking_relay = calls refl (call.mode i request) [] (mode_open pair.mine refl pair.joined request []).opened (λ _. inside) (moded request)

    there_now : Pair i j identifier kind related just_opened h q
    there_now = step_kept pair asking_relay

    -- nothing has become of the line yet
    fresh_line : Unused (line_at related i)
    fresh_line =
        let l = line_at opened i in
        subst Unused (sym (mode_line pair.mine refl pair.joined request []))
        (stepped_unused l (outcome l.modes request).modes (outcome l.modes request).channels (subst Unused (sym line) (opened_unused settings 0)))

  -- "Once both are there"
  pub record Met (i j : ℕ) : Type 0 where
    pub here : Gateway
    pub there : Gateway
    pub run : Run i j identifier kind here just_opened there just_opened
    pub mine : InRelay here i just_opened
    pub yours : InRelay there j just_opened
    pub unused : Unused (line_at here i)

  pub both_there : (i j : ℕ) (store1 store2 : List ℕ) → (i < 4) × (j < 4) → (store_length fresh_book ≤ length store1) × (store_length fresh_book ≤ length store2) → Met i j
  both_there i j store1 store2 lines long =
      let k = fresh_pair i j identifier kind store1 store2 lines long in
      let n = turned (there_now k) in
      record {
        here = related k;
        there = related n;
        run = record { store1 = store1; store2 = store2; lines = lines; long = long; goes = there (there (here (here stay (opening k)) (asking_relay k)) (opening n)) (asking_relay n) };
        mine = (refl, inside k);
        yours = (refl, inside n);
        unused = fresh_line k;
      }

  -- a message that is taken, sent and handed out
  pub record Comes (i j channel : ℕ) (m : Message) : Type 0 where
    pub here : Gateway
    pub mine : Past
    pub there : Gateway
    pub yours : Past
    pub run : Run i j identifier kind here mine there yours
    pub taken : mine.taken channel ≡ m ∷ []
    pub handed : yours.handed channel ≡ m ∷ []

  pub message_comes : (i j : ℕ) (store1 store2 : List ℕ) → (i < 4) × (j < 4) → (store_length fresh_book ≤ length store1) × (store_length fresh_book ≤ length store2)
      → (channel : ℕ) → reliable channel ≡ true → (m : Message) → 0 < length m → length m ≤ largest → Comes i j channel m
  message_comes i j store1 store2 lines long channel v m some small =
      let met = both_there i j store1 store2 lines long in
      let g = met.here in
      let k = run_kept met.run in
      let c = call.taking i channel m in
      let fresh : sending_of (line_at g i) channel ≡ fresh_sending = met.unused.sending channel in
      let none : (sending_of (line_at g i) channel).taken ≡ 0 = ap (λ (s : Sending). s.taken) fresh in
      let pass = taking_passes k.mine met.mine k.joined [] channel v m some small (omega (arith, none, big)) (omega (arith, none, wide channel)) in
      let left = took_kept k.mine refl k.joined [] channel m pass in
      let step = relay_step refl c [] refl left (took channel m (call_accepted g c [] pass)) in
      let d = settles (step_kept k step) (refl, left.0) met.yours in
      let all : more just_opened.taken channel m channel ≡ m ∷ [] = more_here just_opened.taken channel m in
      record {
        here = d.here;
        mine = d.mine;
        there = d.there;
        yours = d.yours;
        run = run_on (run_on met.run (here stay step)) d.goes;
        taken = ap (λ (f : ℕ → List Message). f channel) d.taken.0 ∙ all;
        handed = (d.handed channel v).0 ∙ all;
      }
    where
      big : 0 < cap
      big = lit< tt

      wide : (n : ℕ) → 0 < window_of n
      wide n = pick_by (λ (w : ℕ). 0 < w) (eqb n 1) (λ _. lit< tt) (λ _. lit< tt)
