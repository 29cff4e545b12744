-- A message of channel 1 after the other is taken, sent, handed out and answered with base news, as long as the test of a build that ignores
-- messages by it lets them pass: so far it does what ours does.
-- Assumes nothing.
use Rattle.book.specs.Parts.{part_start}
use Rattle.line.specs.Line.{closed_line}
use Rattle.writing.specs.Send.{longest_packet}
use Prim.Native.Nat.{ℕ, suc, ◌+◌, ◌%◌, ◌≤◌, ◌<◌}
use mathlib.Core.Path.{◌≡◌, refl, sym, ap, subst, ◌∙◌}
use mathlib.Core.Bool.{Bool}
use mathlib.Core.List.Memᴰ
use mathlib.Core.List.{List, [], ◌∷◌}
use mathlib.Core.Logic.{⊎_elim}
use native.Mathlib.Omega.{arith}
use lib.Dec.{lit≤}
use lib.ListN.{length, take, replicate, length-append}
use Rattle.packet.specs.Read.{head_at}
use Rattle.packet.specs.declared.Head.{Head}
use Rattle.channel.specs.Channel.{modulus}
use Rattle.sending.specs.Sending.{took_one}
use Rattle.flow.specs.Flow.{Message, Full}
use Rattle.line.specs.Line.{receiving_of}
use Rattle.line.specs.declared.Line.{Line}
use Rattle.writing.specs.Write.{wrote_line, head_for}
use Rattle.book.specs.Book.{line_of}
use Rattle.calls.specs.Call.{Call}
use Rattle.calls.specs.Call as call
use Rattle.calls.specs.Order.{line_for}
use Rattle.calls.specs.Result.{result_of, effect}
use Rattle.promise.specs.Past.{Mark, Packet, Past, took_past, wrote_past}
use Rattle.promise.specs.Run.{Gateway, bound, Run, does, after, line_at, Each, none, also, ranked_mark, base_mark, noted_held, took, sent}
use Rattle.promise.specs.Ours.{Recent, Honest}
use Rattle.promise.specs.Promise.{sends_by, report_by}
use Rattle.promise.specs.Demand3.{Serves}
use Rattle.refuted.specs.Idle.{expected}
use Rattle.promise.proofs.OwnLine.{call_passes, line_left}
use Rattle.promise.proofs.StepsKeep.{run_kept}
use Rattle.promise.proofs.Demand2.{ours_demand2}
use Rattle.promise.proofs.Demand3.{promised, report_counts}
use Rattle.promise.proofs.AnyWay.{Packeted, still_packeted}
use Rattle.ground.proofs.Every.{below_suc}
use Rattle.promise.specs.Notes.{mark}
use Rattle.refuted.proofs.Twins.{Twin, turned, served, alike, ready, S-is, h_is, R-is, next_is}

abbrev pub space : List ℕ
space = replicate (longest_packet closed_line) 0

abbrev pub message : Message
message = 7 ∷ []

-- n messages were taken, and k of them handed out, whose slots are free again; the sender owes nothing, and nothing goes the other way
pub record Behind (test : ℕ → ℕ → Bool) (k n : ℕ) : Type 0 where
  pub g : Gateway
  pub p : Past
  pub h : Gateway
  pub q : Past
  pub twin : Twin test g p h q
  pub taken : length (p.taken 1) ≡ n
  pub handed : length (q.handed 1) ≡ k
  pub base : (line_at g 0).sending.one.base ≡ k
  pub low : k ≤ n
  pub high : n < k + 32
  pub silent : p.owes ≡ []
  pub idle : q.taken 1 ≡ []
  pub wrote : (m : ℕ) → m < n → Packeted 1 m p.wrote

-- k messages were taken, handed out, and their slots are free again; nothing is owed, and nothing goes the other way
pub record At (test : ℕ → ℕ → Bool) (k : ℕ) : Type 0 where
  pub g : Gateway
  pub p : Past
  pub h : Gateway
  pub q : Past
  pub twin : Twin test g p h q
  pub taken : length (p.taken 1) ≡ k
  pub handed : length (q.handed 1) ≡ k
  pub base : (line_at g 0).sending.one.base ≡ k
  pub silent : p.owes ≡ []
  pub quiet : q.owes ≡ []
  pub idle : q.taken 1 ≡ []
  pub deaf : p.handed 1 ≡ []
  pub wrote : (n : ℕ) → n < k → Packeted 1 n p.wrote

abbrev pub behind : {test : ℕ → ℕ → Bool} {k : ℕ} → At test k → Behind test k k
behind a =
    record {
      g = a.g;
      p = a.p;
      h = a.h;
      q = a.q;
      twin = a.twin;
      taken = a.taken;
      handed = a.handed;
      base = a.base;
      low = omega arith;
      high = omega arith;
      silent = a.silent;
      idle = a.idle;
      wrote = a.wrote;
    }

-- a message taken leaves h as it was
pub took_base : {g h : Gateway} {p q : Past} → Run result_of bound 0 0 5 98 g p h q → (m : Message) → Serves result_of g 0 (call.taking 0 1 m) []
    → (line_at (after result_of g (call.taking 0 1 m) []) 0).sending.one.base ≡ (line_at g 0).sending.one.base
unfolding line_for effect part_start took_one
took_base {g} r m s =
    let c : Call = call.taking 0 1 m in
    ap (λ (l : Line). l.sending.one.base) (line_left (run_kept r).mine c [] refl (call_passes g c [] s.accepted))

-- Message n is taken and written.
module _ {test : ℕ → ℕ → Bool} {k n : ℕ} (few : n ≤ 16384) (a : Behind test k n) where
  abbrev t : Twin test a.g a.p a.h a.q
  t = a.twin

  abbrev pub taking : Call
  taking = call.taking 0 1 message

  abbrev pub g₁ : Gateway
  g₁ = after result_of a.g taking []

  abbrev pub p₁ : Past
  p₁ = took_past a.p 1 message

  takes : Serves result_of a.g 0 taking []
  takes = (served t).takes 1 refl message (lit≤ tt) (lit≤ tt) (omega (arith, S-is t, a.taken, few)) (omega (arith, S-is t, h_is t, a.taken, a.base, a.high)) []

  pub t₁ : Twin test g₁ p₁ a.h a.q
  t₁ = alike t taking [] t.mine.0 takes refl (took 1 message takes.accepted) (took 1 message takes.accepted)

  pub taken₁ : length (p₁.taken 1) ≡ suc n
  taken₁ = omega (arith, length-append (a.p.taken 1) (message ∷ []), a.taken)

  base₁ : (line_at g₁ 0).sending.one.base ≡ k
  base₁ = took_base t.ours message takes ∙ a.base

  -- it is held, as it has not come yet
  held₁ : Full ((sends_by g₁ 0 p₁ 1).held n)
  held₁ =
      let c = ((promised t₁.ours).there 1 refl).held n (omega (arith, R-is t, a.handed, a.low)) (omega (arith, S-is t₁, taken₁)) in
      ⊎_elim (λ e. subst Full (sym e) c.0)
      (λ e.
      let u = (((run_kept t.ours).joined.there 1 refl).keeps n (omega (arith, R-is t, a.handed, a.low)) (subst Full (sym e) c.0)).0 in
      absurd (omega (arith, u, S-is t, a.taken)))
      c.1

  pub ranked : (rank : ℕ) × (rank < report_by result_of g₁ 0 1) × ((ranked_mark g₁ 0 1 rank).number ≡ n)
  ranked = (served t₁).ranks 1 refl n (omega (arith, h_is t₁, base₁, a.low)) (omega (arith, S-is t₁, taken₁)) held₁

  abbrev pub sending : Call
  sending = call.sending 0 1 ranked.0

  sends : Serves result_of g₁ 0 sending space
  sends = (served t₁).sends 1 refl ranked.0 ranked.1 space (lit≤ tt)

  abbrev pub packet : Packet
  packet = noted_held g₁ p₁ 0 1 ranked.0 (does result_of g₁ sending space)

  abbrev pub g₂ : Gateway
  g₂ = after result_of g₁ sending space

  abbrev pub p₂ : Past
  p₂ = wrote_past p₁ packet

  pub t₂ : Twin test g₂ p₂ a.h a.q
  t₂ = alike t₁ sending space t.mine.0 sends refl (sent 1 ranked.0 sends.accepted) (sent 1 ranked.0 sends.accepted)

  pub base₂ : (line_at g₂ 0).sending.one.base ≡ k
  unfolding line_for effect part_start wrote_line
  base₂ = ap (λ (l : Line). l.sending.one.base) (line_left (run_kept t₁.ours).mine sending space refl (call_passes g₁ sending space sends.accepted)) ∙ base₁

  pub number : (ranked_mark g₁ 0 1 ranked.0).number ≡ n
  number = ranked.2

  pub wrote₂ : (m : ℕ) → m < suc n → Packeted 1 m p₂.wrote
  wrote₂ =
      below_suc (λ (m : ℕ). Packeted 1 m p₂.wrote) n (λ m l. still_packeted (a.wrote m l))
      (record { packet = packet; base = _; written = Memᴰ.head refl; carries = ap (λ (n : ℕ). mark 1 n ∷ []) number; names = refl; acks = ap (take 3) a.silent })

  pub honest : Honest a.q p₂ packet.octets packet
  honest =
      let lately : Recent p₁.taken (ranked_mark g₁ 0 1 ranked.0) = omega (arith, taken₁, number) in
      let near : Recent a.q.taken (base_mark g₁ 0 1) = omega (arith, ap length a.idle) in
      record {
        written = Memᴰ.head refl;
        same = refl;
        carries = also lately none;
        names = also near none;
        acks = subst (λ (o : List Mark). Each (Recent a.q.taken) (take 3 o)) (sym a.silent) none;
      }

  -- its number is n in its 14 bits
  says : head_at packet.octets ≡ head_for (line_at g₁ 0) 1 ((ranked_mark g₁ 0 1 ranked.0).number % modulus)
  says = (ours_demand2.sending_back g₁ 0 (ready t₁) t₁.mine.1 1 refl ranked.0 (omega (arith, ranked.1, report_counts t₁.ours 1 refl t₁.mine)) space (lit≤ tt)).1.head_back

  pub said_number : (head_at packet.octets).number ≡ n % modulus
  said_number = ap (λ (x : Head). x.number) says ∙ ap (λ (n : ℕ). n % modulus) number

  pub said_channel : (head_at packet.octets).channel ≡ 1
  said_channel = ap (λ (x : Head). x.channel) says

  abbrev pub arrival : Call
  arrival = call.arrival packet.octets

  pub here : line_for arrival a.h.book ≡ 0
  here = ((served (turned t₂)).arrives packet.octets packet honest []).0

  -- R, as the build sees it
  pub next_there : expected packet.octets a.h.book ≡ k
  next_there = (λ i. (receiving_of (line_of a.h.book (here i)) (said_channel i)).next) ∙ next_is t ∙ a.handed
