-- The round goes on: the message arrives and the test lets it pass, it is handed out, and base news goes back; so one message after the other passes.
-- Assumes nothing.
use Rattle.book.specs.Parts.{part_start}
use Prim.Native.Nat.{ℕ, suc, ◌%◌, ◌≤◌, ◌<◌}
use mathlib.Core.Path.{◌≡◌, refl, sym, ap, subst, ◌∙◌}
use mathlib.Core.Bool.{Bool, true, false}
use mathlib.Core.List.{List, [], ◌∷◌, Memᴰ}
use native.Mathlib.Omega.{arith}
use lib.Dec.{lit≤, ltb, leb, eqb}
use lib.ListN.{length, take, drop, length-append}
use borrow.Author.Tests.{le-leb, lt-ltb}
use Rattle.ground.specs.Pick.{pick}
use Rattle.ground.proofs.Picks.{pick_by}
use Rattle.field.specs.Word.{channel_of, number_of}
use Rattle.packet.specs.Acks.{ack_list}
use Rattle.packet.specs.Read.{head_at, acks_at, payload_of}
use Rattle.packet.specs.declared.Head.{Head}
use Rattle.channel.specs.Channel.{modulus}
use Rattle.channel.specs.Distance.{dist}
use Rattle.sending.specs.Sending.{heard_base, acked_by, under_way}
use Rattle.sending.specs.declared.Sending.{Sending}
use Rattle.flow.specs.Flow.{Full}
use Rattle.line.specs.Line.{receiving_of}
use Rattle.line.specs.declared.Line.{Line}
use Rattle.writing.specs.Write.{base_for, head_for}
use Rattle.arriving.specs.Effect.{heard_line, acked_line, acked_all}
use Rattle.arriving.specs.Arrive.{news_line, arrived_line}
use Rattle.arriving.proofs.Arrivals.{news_all, payload_length}
use Rattle.book.specs.Book.{line_of}
use Rattle.calls.specs.Call.{Call}
use Rattle.calls.specs.Call as call
use Rattle.calls.specs.Order.{line_for}
use Rattle.calls.specs.Result.{result_of, effect}
use Rattle.promise.specs.Past.{Mark, Packet, Past, there, renewed, enter, enter_all, handed_past, wrote_past, heard_past}
use Rattle.promise.specs.Run.{Gateway, does, after, given, line_at, Each, none, also, ranked_mark, base_mark, noted_empty, handed, wrote, heard}
use Rattle.promise.specs.Ours.{Recent, Honest}
use Rattle.promise.specs.Promise.{receives_by, AllCame}
use Rattle.promise.specs.Demand3.{Serves}
use Rattle.refuted.specs.Idle.{expected, ignored}
use Rattle.promise.proofs.OwnLine.{call_passes, line_left}
use Rattle.promise.proofs.StepsKeep.{run_kept}
use Rattle.promise.proofs.Promised.{all_have}
use Rattle.promise.proofs.Demand2.{ours_demand2}
use Rattle.promise.specs.Notes.{mark}
use Rattle.refuted.proofs.Twins.{f, Twin, turned, served, alike, ready, S-is, h_is, R-is, next_is, taken_is}
use Rattle.refuted.proofs.Rounds.{space, At, Behind, behind, g₂, p₂, t₂, taken₁, base₂, ranked, g₁, packet, number, wrote₂, honest, said_number, arrival, here, next_there}

-- acknowledgements leave h as it is
acked_base : (s : Sending) (n : ℕ) → (acked_by s n).base ≡ s.base
unfolding acked_by
acked_base s n = pick_by (λ (x : Sending). x.base ≡ s.base) (ltb (dist n s.base) (under_way s)) (λ _. refl) (λ _. refl)

one_acked : (l : Line) (word : ℕ) → (acked_line l word).sending.one.base ≡ l.sending.one.base
unfolding acked_line
one_acked l word = go (eqb (channel_of word) 1)
  where
    acked : Bool → Sending
    acked t = acked_by (pick t l.sending.one l.sending.two) (number_of word)

    go : (t : Bool) → (pick {A = Sending} t (acked t) l.sending.one).base ≡ l.sending.one.base
    go true = acked_base l.sending.one (number_of word)
    go false = refl

all_acked : (words : List ℕ) (l : Line) → (acked_all l words).sending.one.base ≡ l.sending.one.base
unfolding acked_all
all_acked [] l = refl
all_acked (w ∷ ws) l = all_acked ws (acked_line l w) ∙ one_acked l w

-- base k + 1 moves h on from k
base_heard : (s : Sending) (k b : ℕ) → s.base ≡ k → s.taken ≡ suc k → b ≡ suc k % modulus → (heard_base 32 s b).base ≡ suc k
unfolding heard_base
base_heard s k b e t q =
    let d : dist b s.base ≡ 1 = omega (arith, e, q) in
    let some : ltb 0 (dist b s.base) ≡ true = lt-ltb 0 (dist b s.base) (omega (arith, d)) in
    let most : leb (dist b s.base) (under_way s) ≡ true = le-leb (dist b s.base) (under_way s) (omega (arith, d, e, t)) in
    rw (some, most) (omega (arith, d, e))

news_base : (l : Line) (s : List ℕ) (k : ℕ) → payload_of s ≡ [] → (head_at s).channel ≡ 1 → (head_at s).base ≡ suc k % modulus → l.sending.one.base ≡ k → l.sending.one.taken ≡ suc k
    → (arrived_line l s).sending.one.base ≡ suc k
unfolding news_line heard_line
news_base l s k nothing c b e t =
    ap (λ (x : Line). x.sending.one.base) (sym (news_all l s (omega (arith, payload_length s, ap length nothing))))
    ∙ all_acked (ack_list (acks_at s)) (heard_line l (head_at s).channel (head_at s).base)
    ∙ ap (λ (x : ℕ). (heard_line l x (head_at s).base).sending.one.base) c ∙ base_heard l.sending.one k (head_at s).base e t b

module _ {test : ℕ → ℕ → Bool} {k : ℕ} (less : k < 16384) (a : At test k) (passes : test k k ≡ false) (first : test 0 0 ≡ false) where
  abbrev b : Behind test k k
  b = behind a

  abbrev few : k ≤ 16384
  few = omega arith

  abbrev h : Gateway
  h = a.h

  abbrev comes : Call
  comes = arrival few b

  abbrev s : List ℕ
  s = (packet few b).octets

  -- the test lets it pass: both take it in
  not_ignored : test (head_at s).number (expected s h.book) ≡ false
  not_ignored =
      let n : (head_at s).number ≡ k = omega (arith, said_number few b, less) in
      (λ i. test (n i) (next_there few b i)) ∙ passes

  same : does (f test) h comes [] ≡ does result_of h comes []
  same = ap (λ (b : Bool). pick b (ignored s h.book h.store []) (result_of comes h.book h.store [])) not_ignored

  let_in : Serves result_of h 0 comes []
  let_in = ((served (turned (t₂ few b))).arrives s (packet few b) (honest few b) []).1

  abbrev h₁ : Gateway
  h₁ = after result_of h comes []

  abbrev q₁ : Past
  q₁ = heard_past a.q (packet few b)

  pub t₃ : Twin test h₁ q₁ (g₂ few b) (p₂ few b)
  t₃ =
      alike (turned (t₂ few b)) comes [] a.twin.yours.0 let_in same (heard s (packet few b) (here few b) a.twin.yours.1 (honest few b))
      (heard s (packet few b) (here few b) a.twin.yours.1 (honest few b))

  -- the next one may be taken before it is handed out
  abbrev pub ahead : Behind test k (suc k)
  ahead =
      record {
        g = g₂ few b;
        p = p₂ few b;
        h = h₁;
        q = q₁;
        twin = turned t₃;
        taken = taken₁ few b;
        handed = a.handed;
        base = base₂ few b;
        low = omega arith;
        high = omega arith;
        silent = ap (drop 3) a.silent;
        idle = a.idle;
        wrote = wrote₂ few b;
      }

  pub ahead_came : (n : ℕ) → k ≤ n → n < suc k → Memᴰ (mark 1 n) ahead.q.came
  ahead_came n l u = let e : n ≡ (ranked_mark (g₁ few b) 0 1 (ranked few b).0).number = omega (arith, l, u, number few b) in Memᴰ.head (ap (mark 1) e)

  -- it is handed out
  came : AllCame 1 (g₂ few b) 0 (p₂ few b) q₁
  came n low high full =
      let e : n ≡ (ranked_mark (g₁ few b) 0 1 (ranked few b).0).number = omega (arith, low, high, h_is (turned t₃), S-is (turned t₃), base₂ few b, taken₁ few b, number few b) in
      Memᴰ.head (λ i. record { channel = 1; number = e i })

  stored : Full ((receives_by h₁ 0 q₁ 1).stored (receives_by h₁ 0 q₁ 1).R)
  stored =
      all_have (run_kept (turned t₃).ours).joined 1 refl came (receives_by h₁ 0 q₁ 1).R (omega (arith, R-is (turned t₃), S-is (turned t₃), a.handed, taken₁ few b)) (omega arith)

  abbrev handing : Call
  handing = call.hand_out 0 1

  gives : Serves result_of h₁ 0 handing space
  gives = (served t₃).hands 1 refl stored space (lit≤ tt)

  abbrev h₂ : Gateway
  h₂ = after result_of h₁ handing space

  abbrev q₂ : Past
  q₂ = handed_past q₁ 1 (given (does result_of h₁ handing space))

  t₄ : Twin test h₂ q₂ (g₂ few b) (p₂ few b)
  t₄ = alike t₃ handing space a.twin.yours.0 gives refl (handed 1 gives.accepted) (handed 1 gives.accepted)

  handed₂ : length (q₂.handed 1) ≡ suc k
  handed₂ = omega (arith, length-append (a.q.handed 1) (given (does result_of h₁ handing space) ∷ []), a.handed)

  -- base news goes back
  abbrev telling : Call
  telling = call.empty 0 1

  tells : Serves result_of h₂ 0 telling space
  tells = (served t₄).empties 1 (lit≤ tt) space (lit≤ tt)

  abbrev news : Packet
  news = noted_empty h₂ q₂ 0 1 (does result_of h₂ telling space)

  abbrev h₃ : Gateway
  h₃ = after result_of h₂ telling space

  abbrev q₃ : Past
  q₃ = wrote_past q₂ news

  t₅ : Twin test h₃ q₃ (g₂ few b) (p₂ few b)
  t₅ = alike t₄ telling space a.twin.yours.0 tells refl (wrote 1 tells.accepted) (wrote 1 tells.accepted)

  owes₂ : q₂.owes ≡ ranked_mark (g₁ few b) 0 1 (ranked few b).0 ∷ []
  unfolding there renewed enter enter_all
  owes₂ = ap (λ (o : List Mark). enter_all o (ranked_mark (g₁ few b) 0 1 (ranked few b).0 ∷ [])) a.quiet

  honest₃ : Honest (p₂ few b) q₃ news.octets news
  honest₃ =
      let near : Recent (p₂ few b).taken (base_mark h₂ 0 1) = omega (arith, next_is (turned t₄), handed₂, taken₁ few b) in
      let lately : Recent (p₂ few b).taken (ranked_mark (g₁ few b) 0 1 (ranked few b).0) = omega (arith, number few b, taken₁ few b) in
      record {
        written = Memᴰ.head refl;
        same = refl;
        carries = none;
        names = also near none;
        acks = subst (λ (o : List Mark). Each (Recent (p₂ few b).taken) (take 3 o)) (sym owes₂) (also lately none);
      }

  empty : payload_of news.octets ≡ []
  empty = (ours_demand2.empty_back h₂ 0 (ready t₄) t₄.mine.1 1 (lit≤ tt) space (lit≤ tt)).1.payload_back

  head : head_at news.octets ≡ head_for (line_at h₂ 0) 1 0
  head = (ours_demand2.empty_back h₂ 0 (ready t₄) t₄.mine.1 1 (lit≤ tt) space (lit≤ tt)).1.head_back

  abbrev back : Call
  back = call.arrival news.octets

  hears : (line_for back (g₂ few b).book ≡ 0) × Serves result_of (g₂ few b) 0 back []
  hears = (served (turned t₅)).arrives news.octets news honest₃ []

  same₃ : does (f test) (g₂ few b) back [] ≡ does result_of (g₂ few b) back []
  same₃ =
      let g = g₂ few b in
      let next : expected news.octets g.book ≡ 0
      = (λ i. (receiving_of (line_of g.book (hears.0 i)) (head i).channel).next) ∙ next_is t₅ ∙ ap length a.deaf in
      let e : test (head_at news.octets).number (expected news.octets g.book) ≡ false = (λ i. test (head i).number (next i)) ∙ first in
      ap (λ (b : Bool). pick b (ignored news.octets g.book g.store []) (result_of back g.book g.store [])) e

  abbrev g₃ : Gateway
  g₃ = after result_of (g₂ few b) back []

  abbrev p₃ : Past
  p₃ = heard_past (p₂ few b) news

  t₆ : Twin test g₃ p₃ h₃ q₃
  t₆ =
      alike (turned t₅) back [] a.twin.mine.0 hears.1 same₃ (heard news.octets news hears.0 t₅.yours.1 honest₃)
      (heard news.octets news hears.0 t₅.yours.1 honest₃)

  base₃ : (line_at g₃ 0).sending.one.base ≡ suc k
  unfolding effect part_start base_for
  base₃ =
      let tells : (head_at news.octets).base ≡ suc k % modulus = ap (λ (x : Head). x.base) head ∙ ap (λ (n : ℕ). n % modulus) (next_is (turned t₄) ∙ handed₂) in
      ap (λ (l : Line). l.sending.one.base) (line_left (run_kept (turned t₅).ours).mine back [] hears.0 (call_passes (g₂ few b) back [] hears.1.accepted))
      ∙ news_base (line_at (g₂ few b) 0) news.octets k empty (ap (λ (x : Head). x.channel) head) tells (base₂ few b) (taken_is (turned t₅) ∙ taken₁ few b)

  pub round : At test (suc k)
  unfolding enter_all
  round =
      record {
        g = g₃;
        p = p₃;
        h = h₃;
        q = q₃;
        twin = t₆;
        taken = taken₁ few b;
        handed = handed₂;
        base = base₃;
        silent = ap (drop 3) a.silent;
        quiet = ap (drop 3) owes₂;
        idle = a.idle;
        deaf = a.deaf;
        wrote = wrote₂ few b;
      }
