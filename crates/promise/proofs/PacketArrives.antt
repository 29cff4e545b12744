-- A packet that the peer wrote arrives: it passes every test of its line, and its base, acknowledgements and payload keep the invariant.
-- Assumes nothing.
use Prim.Native.Nat.{ℕ, ◌+◌, ◌%◌, ◌≤◌, ◌<◌}
use mathlib.Core.Path.{◌≡◌, sym, ap, subst, transport, ◌∙◌}
use mathlib.Core.Bool.{true}
use mathlib.Core.List.{List, [], ◌∷◌, ◌++◌}
use native.Mathlib.Omega.{arith}
use lib.ListN.{length}
use lib.Seq.{length-take-le}
use Rattle.std.specs.Prelude.{Ok}
use Rattle.ground.specs.Refusal.{verdict}
use Rattle.packet.specs.Read.{head_at, payload_of, header_length, head_tests}
use Rattle.channel.specs.Channel.{modulus}
use Rattle.flow.specs.Flow.{Message, Full}
use Rattle.flow.proofs.Flows.{data_full}
use Rattle.line.specs.Figures.{receive_window}
use Rattle.line.specs.Line.{receiving_of}
use Rattle.line.specs.declared.Line.{Line}
use Rattle.relay.specs.RelayTests.{reliable}
use Rattle.mode.specs.Given.{modem}
use Rattle.arriving.specs.Effect.{Relaying, heard_line, acked_all, stored_line, stored_part}
use Rattle.arriving.specs.Arrive.{arrive_tests, news_line, arrived_line, arrived_part}
use Rattle.arriving.proofs.Effects.{heard_relaying}
use Rattle.arriving.proofs.Arrivals.{news_relaying, payload_length, arrive_passes, arrive_size, news_all, part_all, payload_line, payload_part}
use Rattle.promise.specs.Ends.{receives_of}
use Rattle.promise.specs.Past.{Mark, Packet, enter_all, heard_past}
use Rattle.promise.specs.Run.{Each, none, also, bound}
use Rattle.promise.specs.Run as runs
use Rattle.promise.specs.Ours.{Recent, Honest}
use Rattle.promise.proofs.Lists.{each_at}
use Rattle.promise.specs.Notes.{Carries, nothing, message}
use Rattle.promise.proofs.Ends.{End, Says, Joined, got}
use Rattle.promise.proofs.NewsArrives.{with_line, base_joined, acks_joined}
use Rattle.promise.proofs.PayloadArrives.{storing_joined, stored_ahead}

pub full_length : (x : Message) → Full x → 0 < length x
full_length [] v = absurd v
full_length (a ∷ x) v = omega arith

-- what the peer wrote for this line is refused by none of the line's tests
pub said_passes : (f : End) (l : Line) (k : Packet) → Says f k → f.line.kind ≡ l.kind → l.modes.local ≡ modem
    → (verdict (head_tests k.octets) ≡ Ok tt) × (verdict (arrive_tests l k.octets) ≡ Ok tt)
said_passes f l k says same inside = (says.plain, arrive_passes l k.octets (says.typed ∙ same) inside says.listed says.sized)

-- the end that packet k has arrived at, with octets s
abbrev pub after_arrival : End → Packet → List ℕ → End
after_arrival e k s =
    record {
      line = arrived_line e.line s;
      part = arrived_part e.line s e.part;
      past = heard_past e.past k;
    }

module _ {e f : End} (relaying : Relaying e.line) (j : Joined e f) (k : Packet) (says : Says f k) (pass : verdict (arrive_tests e.line k.octets) ≡ Ok tt) where
  abbrev l : Line
  l = e.line

  abbrev s : List ℕ
  s = k.octets

  abbrev channel : ℕ
  channel = (head_at s).channel

  -- "base, acknowledgements as listed"
  news_joined : Each (Recent e.past.taken) k.names → Each (Recent e.past.taken) k.acks → Joined (with_line e (news_line l s)) f
  unfolding news_line
  news_joined a b =
      subst (λ (ws : List ℕ). Joined (with_line e (acked_all (heard_line l channel (head_at s).base) ws)) f) (sym says.words)
      (acks_joined (heard_relaying l relaying channel (head_at s).base) (base_joined relaying j channel (head_at s).base says.names a) says.acks b)

  -- "payload"
  abbrev heard : List Mark → End
  heard ms =
      record {
        line = arrived_line l s;
        part = arrived_part l s e.part;
        past = record { opened = e.past.opened; taken = e.past.taken; handed = e.past.handed; wrote = e.past.wrote; owes = enter_all e.past.owes ms; came = ms ++ e.past.came };
      }

  payload_joined : Joined (with_line e (news_line l s)) f → (ms : List Mark) → Carries f.past.taken channel (head_at s).number (payload_of s) ms
      → Each (Recent f.past.taken) ms → Joined (heard ms) f
  unfolding enter_all
  payload_joined n [] (nothing q) c =
      let short : length s ≤ header_length s = omega (arith, payload_length s, ap length q) in
      transport (λ t. Joined (record { line = news_all l s short t; part = part_all l s short e.part t; past = e.past }) f) n
  payload_joined n (m ∷ []) (message b v q d) (also c none) =
      let some : 0 < length (payload_of s) = full_length (payload_of s) (data_full (n.back channel v) d) in
      let there : header_length s < length s = omega (arith, payload_length s, some) in
      let lately : length (f.past.taken channel) ≤ b + bound = omega (arith, c) in
      let line = ap (λ (x : ℕ). stored_line (news_line l s) channel x (length (payload_of s))) (sym q) ∙ payload_line l s there in
      let part = ap (λ (x : ℕ). stored_part (news_line l s) channel x (payload_of s) e.part) (sym q) ∙ payload_part l s there e.part in
      transport (λ t. Joined (record { line = line t; part = part t; past = (heard (m ∷ [])).past }) f)
      (storing_joined (news_relaying l relaying s) n channel v (payload_of s) (arrive_size l s pass) b d lately some)
  payload_joined n (m ∷ (_ ∷ _)) x6 c = elim x6 [ ]

  -- What is carried may have, in 14 bits, the number of a later message n that is not taken yet and that the window has room for: it is stored as that.
  pub stored_as : Each (Recent e.past.taken) k.names → Each (Recent e.past.taken) k.acks → reliable channel ≡ true → 0 < length (payload_of s) → (n : ℕ) → (head_at s).number ≡ n % modulus
      → length (f.past.taken channel) ≤ n → n < length (e.past.handed channel) + receive_window l channel → (got (after_arrival e k s) channel).stored n ≡ payload_of s
  stored_as a b v some n q ahead room =
      let news = news_joined a b in
      let c = news.back channel v in
      let R = (receiving_of (news_line l s) channel).next in
      let next : length (e.past.handed channel) ≡ R = ap length c.out ∙ length-take-le R (f.past.taken channel) (omega (arith, c.count, c.mid)) in
      let there : header_length s < length s = omega (arith, payload_length s, some) in
      let line = ap (λ (x : ℕ). stored_line (news_line l s) channel x (length (payload_of s))) (sym q) ∙ payload_line l s there in
      let part = ap (λ (x : ℕ). stored_part (news_line l s) channel x (payload_of s) e.part) (sym q) ∙ payload_part l s there e.part in
      (λ t. (receives_of (sym part t) (sym line t) channel).stored n)
      ∙ stored_ahead (news_relaying l relaying s) news channel v (payload_of s) (arrive_size l s pass) n (omega (arith, ahead, c.count)) (omega (arith, room, next))

  -- "An arriving packet takes effect in this order"
  pub heard_joined : Each (Recent f.past.taken) k.carries → Each (Recent e.past.taken) k.names → Each (Recent e.past.taken) k.acks
      → Joined (after_arrival e k k.octets) f
  heard_joined a b c = payload_joined (news_joined b c) k.carries says.carries a

-- what is assumed of an arriving packet gives all of it
pub arrival_joined : {e f : End} (s : List ℕ) (k : Packet) → Honest e.past f.past s k → Relaying e.line → verdict (arrive_tests e.line s) ≡ Ok tt → Joined e f
    → Joined (after_arrival e k s) f
arrival_joined {e} {f} s k h relaying pass j =
    subst (λ (o : List ℕ). Joined (after_arrival e k o) f) h.same
    (heard_joined relaying j k (each_at h.written j.yours.said) (rw h.same pass) h.carries h.names h.acks)

-- and none of the tests refuses it where the two have one payload type, however old it is
pub arrival_passes : {within : ℕ} {e f : End} (s : List ℕ) (k : Packet) → runs.Honest within e.past f.past s k → e.line.modes.local ≡ modem → f.line.kind ≡ e.line.kind → Joined e f
    → (verdict (head_tests s) ≡ Ok tt) × (verdict (arrive_tests e.line s) ≡ Ok tt)
arrival_passes {e = e} {f} s k h inside same j =
    subst (λ (o : List ℕ). (verdict (head_tests o) ≡ Ok tt) × (verdict (arrive_tests e.line o) ≡ Ok tt)) h.same
    (said_passes f e.line k (each_at h.written j.yours.said) same inside)
