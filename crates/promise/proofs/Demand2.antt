-- OURS MEETS DEMAND 2: the mode calls on a line of a book, and all that the demand asks put together.
-- Assumes nothing.
use Prim.Native.Nat.{ℕ}
use mathlib.Core.Path.{◌≡◌, refl, sym, ap, subst, ◌∙◌}
use mathlib.Core.Bool.{true}
use mathlib.Core.List.{List, [], ◌∷◌}
use native.Mathlib.Omega.{arith}
use borrow.Author.Tests.{le-leb, eq-eqb}
use Rattle.std.specs.Prelude.{Ok}
use Rattle.ground.specs.Answer.{Answer}
use Rattle.ground.specs.Refusal.{verdict}
use Rattle.ground.proofs.Verdicts.{passes}
use Rattle.mode.specs.Given.{modem}
use Rattle.mode.specs.Moved.{moved, trying}
use Rattle.mode.specs.Indication.{hear_tests, heard_mode, hear_step}
use Rattle.mode.specs.Request.{ask_tests, ask_step}
use Rattle.mode.specs.TableC2.{permitted}
use Rattle.mode.specs.Acts.{Act, hear, ask, outcome}
use Rattle.mode.specs.declared.Modes.{Modes}
use Rattle.mode.proofs.Steps.{heard_by}
use Rattle.mode.proofs.Permitted.{indication_permitted}
use Rattle.mode.proofs.Left.{leaving_marks, gone_stays}
use Rattle.line.specs.declared.Line.{Line}
use Rattle.book.specs.Book.{line_of}
use Rattle.book.proofs.OtherLines.{line_same}
use Rattle.calls.specs.Call as call
use Rattle.calls.specs.Stages.{fit_book, line_number, must_be_open}
use Rattle.calls.specs.Result.{CallResult}
use Rattle.mode.proofs.Refusing.{settles}
use Rattle.calls.proofs.Results.{moved_did}
use Rattle.line.specs.Mode.{stepped_to}
use Rattle.promise.specs.Build.{ours}
use Rattle.promise.specs.Run.{Gateway, accepts, line_at, Relays}
use Rattle.promise.specs.Ours.{does, after}
use Rattle.promise.specs.Demand2.{Ready, moved_result, Gone, Demand2}
use Rattle.promise.proofs.LineStays.{stepped_modes}
use Rattle.promise.proofs.Bodies.{connect_written, connect_read_lem, break_written, break_read_lem, slip_read_lem, slip_written}
use Rattle.promise.proofs.Packets.{sending_writes, empty_writes, arrival_entitled}
use Rattle.promise.proofs.Arrivals.{let_in, outside_stays}
use Rattle.promise.proofs.ModesStay.{modes_stay, opens_line, closes_line}

-- S after an indication that is heard, and after a request
heard_local : (m : Modes) (k time : ℕ) → verdict (hear_tests m k time) ≡ Ok tt → (hear_step m k time).modes.local ≡ heard_mode m k
unfolding hear_step moved trying
heard_local m k time e = rw e (heard_by (λ (n : Modes). n.local ≡ heard_mode m k) m k time (λ t a. refl) (λ t. refl))

asked_local : (m : Modes) (k time : ℕ) → verdict (ask_tests m k time) ≡ Ok tt → (ask_step m k time).modes.local ≡ k
unfolding ask_step moved
asked_local m k time e = rw e refl

module _ {g : Gateway} {i : ℕ} (r : Ready g i) (a : Act) (out : List ℕ) where
  abbrev m : Modes
  m = (line_at g i).modes

  there : verdict (fit_book g.book ∷ line_number i ∷ must_be_open (line_at g i) ∷ []) ≡ Ok tt
  there = passes (fit_book g.book ∷ line_number i ∷ must_be_open (line_at g i) ∷ []) (r.fits, (le-leb i 3 (omega (arith, r.small)), (r.opened, tt)))

  -- a mode call does what it does to the modes of its line, and says what it says of them
  modes_left : (line_at (after g (call.mode i a) out) i).modes ≡ (outcome m a).modes
  modes_left =
      let l = stepped_to (line_at g i) (outcome m a).modes (outcome m a).channels in
      ap (λ (d : CallResult). (line_of d.book i).modes) (sym (moved_did g.book i a refl there g.store out))
      ∙ ap (λ (x : Line). x.modes) (line_same g.book r.shaped i r.small l) ∙ stepped_modes (line_at g i) (outcome m a).modes (outcome m a).channels

  moved_whole : does g (call.mode i a) out ≡ moved_result g i a out
  moved_whole = sym (moved_did g.book i a refl there g.store out)

  answer_said : (does g (call.mode i a) out).answer ≡ (outcome m a).said
  answer_said = ap (λ (d : CallResult). d.answer) (sym (moved_did g.book i a refl there g.store out))

  said : (outcome m a).said.number ≡ 0 → accepts (does g (call.mode i a) out) ≡ true
  said e = eq-eqb _ _ (ap (λ (x : Answer). x.number) answer_said ∙ e)

  -- "Leaving m, for any cause, ends relay for that opening"
  leaves : let n = (line_at (after g (call.mode i a) out) i).modes in (Relays g i → (n.local ≡ modem → ⊥) → Gone n) × (Gone m → Gone n)
  leaves = (
    λ inside away.
        let k = leaving_marks m inside a (λ e. away (ap (λ (x : Modes). x.local) modes_left ∙ e)) in
        subst Gone (sym modes_left) (k.left, k.away),
    λ gone.
        let k = gone_stays m (record { left = gone.0; away = gone.1 }) a in
        subst Gone (sym modes_left) (k.left, k.away),
  )

hears : {g : Gateway} {i : ℕ} → Ready g i → (k time : ℕ) → verdict (hear_tests (line_at g i).modes k time) ≡ Ok tt → (out : List ℕ)
    → (accepts (does g (call.mode i (hear k time)) out) ≡ true)
    × ((line_at (after g (call.mode i (hear k time)) out) i).modes.local ≡ heard_mode (line_at g i).modes k)
    × (permitted k (line_at (after g (call.mode i (hear k time)) out) i).modes.local ≡ true)
hears {g} {i} r k time e out =
    let m = (line_at g i).modes in
    let left = ap (λ (x : Modes). x.local) (modes_left r (hear k time) out) in (
      said r (hear k time) out (ap (λ x. x.number) ((settles m (hear k time)).taken e)),
      left ∙ heard_local m k time e,
      subst (λ (s : ℕ). permitted k s ≡ true) (sym left) (indication_permitted m k time e),
    )

asks : {g : Gateway} {i : ℕ} → Ready g i → (k time : ℕ) → verdict (ask_tests (line_at g i).modes k time) ≡ Ok tt → (out : List ℕ)
    → (accepts (does g (call.mode i (ask k time)) out) ≡ true) × ((line_at (after g (call.mode i (ask k time)) out) i).modes.local ≡ k)
asks {g} {i} r k time e out =
    let m = (line_at g i).modes in (
      said r (ask k time) out (ap (λ x. x.number) ((settles m (ask k time)).taken e)),
      ap (λ (x : Modes). x.local) (modes_left r (ask k time) out) ∙ asked_local m k time e,
    )

pub ours_demand2 : Demand2 ours
ours_demand2 =
    record {
      connect_back = connect_written;
      connect_read_lem = connect_read_lem;
      break_back = break_written;
      break_read_lem = break_read_lem;
      slip_read_lem = slip_read_lem;
      slip_back = λ g i r out space. slip_written r out space;
      sending_back = λ g i r inside channel v rank few out space. sending_writes r inside channel out v rank few space;
      empty_back = λ g i r inside channel c out space. empty_writes r inside channel out c space;
      inside = arrival_entitled;
      outside = outside_stays;
      lets_in = let_in;
      opens = opens_line;
      closes = closes_line;
      modes_stay = modes_stay;
      moves = λ g i r a out. moved_whole r a out;
      hears = λ g i r k time e out. hears r k time e out;
      asks = λ g i r k time e out. asks r k time e out;
      leaves = λ g i r a out. leaves r a out;
    }
