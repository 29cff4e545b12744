-- Every step of either gateway keeps what the promises rest on: books that BOOK lets pass, and the two ends of the line joined.
-- Assumes nothing.
use Prim.Native.Nat.{ℕ, ◌≤◌, ◌<◌}
use mathlib.Core.Path.{◌≡◌, refl, sym, ap, ◌∙◌}
use mathlib.Core.Bool.{true, false}
use mathlib.Core.List.{List, [], ◌∷◌, Memᴰ}
use native.Mathlib.Omega.{arith}
use lib.ListN.{length}
use borrow.Author.Tests.{le-leb}
use Rattle.std.specs.Prelude.{Option, Some, Ok, is_some}
use Rattle.ground.specs.Pick.{pick}
use Rattle.ground.specs.Refusal.{verdict, must}
use Rattle.ground.specs.declared.Refusal.TheVariants.{NOLINE}
use Rattle.ground.proofs.Verdicts.{passes, verdict_on}
use Rattle.packet.specs.Read.{head_at, head_tests}
use Rattle.line.specs.Line.{closed_line}
use Rattle.line.proofs.Keeps.{closed_fits}
use Rattle.arriving.specs.Effect.{Relaying}
use Rattle.arriving.specs.Arrive.{arrive_tests, arrived_line, arrived_part}
use Rattle.arriving.proofs.Stays.{arrived_stays}
use Rattle.arriving.proofs.Keeps.{arrived_part_length, arrived_in_store}
use Rattle.book.proofs.Parts.{part_in_lem}
use Rattle.book.specs.Book.{fresh_book, line_of, owner_of}
use Rattle.book.specs.Parts.{part_start, store_length}
use Rattle.book.proofs.Facts.{line_fits_lem}
use Rattle.book.proofs.OneOwner.{whose_found}
use Rattle.calls.specs.Call.{Call}
use Rattle.calls.specs.Call as call
use Rattle.calls.specs.Order.{line_for, packet_line}
use Rattle.calls.specs.Stages.{tests, fit_book, roomy, address_tests, arrival_tests}
use Rattle.calls.specs.Order as order
use Rattle.calls.specs.Result.{effect}
use Rattle.laws.proofs.Identifiers.{fresh_passes}
use Rattle.promise.specs.Past.{Packet, Past, nothing_yet, heard_past}
use Rattle.promise.specs.Run.{Gateway, line_at, part_in, Relays, refused, elsewhere, moded, reported, took, handed, sent, wrote, heard, before, opens, calls, stay, here, there, fresh_with}
use Rattle.promise.specs.Run as runs
use Rattle.promise.specs.Ours.{Honest, after, Adds, Step, Goes, Run}
use Rattle.promise.proofs.Lists.{each_at}
use Rattle.promise.proofs.AnyBuild.{goes_after}
use Rattle.promise.proofs.Ends.{Joined, turn}
use Rattle.promise.proofs.PacketArrives.{arrival_joined, arrival_passes}
use Rattle.promise.proofs.Fresh.{closed_unused, fresh_joined}
use Rattle.promise.proofs.Phases.{end_of, Open, Phase, closed, unused, relaying, Sound, sound_after, long_after, part_there, is_open_lem, before_kept}
use Rattle.promise.proofs.OwnLine.{Passes, call_passes, line_left, part_left}
use Rattle.promise.proofs.CallsKeep.{Left, LeftIn, joined_open, left_in, took_kept, handed_kept, sent_kept, wrote_kept}
use Rattle.promise.proofs.LineStays.{refused_kept, elsewhere_kept, report_kept, opens_kept, moded_kept}

some_member : {A : Type 0} {a : A} {l : List A} → Memᴰ a l → 0 < length l
some_member (Memᴰ.head e) = omega arith
some_member (Memᴰ.tail m) = omega arith

-- who wrote a packet for the line has opened it
peer_open : {j identifier kind : ℕ} {h : Gateway} {q : Past} {k : Packet} → Phase j identifier kind h q → Memᴰ k q.wrote → (q.opened ≡ true) × Open identifier kind (line_at h j)
peer_open closed m = absurd (let z = some_member m in omega arith)
peer_open (unused o u) m = absurd (let z = some_member m in omega arith)
peer_open (relaying o t r) m = (t, o)

-- A packet arrives in modem relay that the peer wrote: it finds its line, and no test refuses it, however old it is.
module _ {within i j identifier kind : ℕ} {g h : Gateway} {p q : Past} (s : Sound i identifier kind g p) (t : Sound j identifier kind h q) (opened : p.opened ≡ true) (k : Joined (end_of g i p) (end_of h j q))
    (o : List ℕ) (packet : Packet) (r : Relays g i) (honest : runs.Honest within p q o packet) (out : List ℕ) where
  own : Open identifier kind (line_at g i)
  own = is_open_lem s.phase opened

  peer : (q.opened ≡ true) × Open identifier kind (line_at h j)
  peer = peer_open t.phase honest.written

  pub asks : (verdict (head_tests o) ≡ Ok tt) × (verdict (arrive_tests (line_at g i) o) ≡ Ok tt)
  asks =
      let same : (pick q.opened (line_at h j) closed_line).kind ≡ (line_at g i).kind = rw peer.0 (peer.1.typed ∙ sym own.typed) in
      arrival_passes o packet honest r same (joined_open s opened k out)

  found : packet_line g.book o ≡ Some i
  found =
      let says : (head_at packet.octets).identifier ≡ (pick q.opened (line_at h j) closed_line).identifier = (each_at honest.written k.yours.said).named in
      let its : (head_at o).identifier ≡ (line_at g i).identifier
      = ap (λ (x : List ℕ). (head_at x).identifier) (sym honest.same) ∙ says ∙ rw peer.0 (peer.1.named ∙ sym own.named) in
      ap (owner_of g.book) its ∙ whose_found g.book s.fits s.shaped i s.small own.opened

  pub arrives_here : line_for (call.arrival o) g.book ≡ i
  unfolding line_for
  arrives_here = ap order.owner_line found

  pub arrival_tests_lem : Passes g (call.arrival o) out
  unfolding tests arrival_tests address_tests
  arrival_tests_lem =
      let b = g.book in
      verdict_on (fit_book b ∷ roomy b (length g.store) ∷ []) (arrival_tests b o) (passes (fit_book b ∷ roomy b (length g.store) ∷ []) (s.fits, (le-leb _ _ s.long, tt)))
      ∙ verdict_on (address_tests b o) (arrive_tests (line_of b (order.owner_line (packet_line b o))) o)
      (verdict_on (head_tests o) (must (is_some (packet_line b o)) NOLINE ∷ []) asks.0 ∙ rw found)
      ∙ ap (λ (x : Option ℕ). verdict (arrive_tests (line_of b (order.owner_line x)) o)) found ∙ asks.1

  abbrev pub comes : Call
  comes = call.arrival o

  pub relaying_now : Relaying (line_at g i)
  relaying_now = record { fits = line_fits_lem g.book s.fits i; opened = own.opened; inside = r }

  -- what it leaves of the line, and of its part of the store
  pub heard_line_lem : line_at (after g comes out) i ≡ arrived_line (line_at g i) o
  unfolding effect
  heard_line_lem = line_left s comes out arrives_here arrival_tests_lem

  pub heard_part : part_in (after g comes out) i ≡ arrived_part (line_at g i) o (part_in g i)
  unfolding effect
  heard_part =
      part_left s comes out arrives_here arrival_tests_lem
      (sym (arrived_in_store (line_at g i) relaying_now (part_start g.book i) g.store (part_in_lem g.book g.store s.long i s.small) o asks.1)) (arrived_part_length (line_at g i) o (part_in g i))

-- one that is as young as the promise asks keeps the two ends joined
pub heard_kept : {i j identifier kind : ℕ} {g h : Gateway} {p q : Past} (s : Sound i identifier kind g p) (t : Sound j identifier kind h q) (opened : p.opened ≡ true) (k : Joined (end_of g i p) (end_of h j q))
    (o : List ℕ) (packet : Packet) (r : Relays g i) (honest : Honest p q o packet) (out : List ℕ) → LeftIn i identifier kind (end_of h j q) (after g (call.arrival o) out) (heard_past p packet)
heard_kept {i} {g = g} {p = p} s t opened k o packet r honest out =
    left_in s opened k out (after g (call.arrival o) out) (arrived_line (line_at g i) o) (arrived_part (line_at g i) o (part_in g i)) (heard_past p packet) opened
    (heard_line_lem s t opened k o packet r honest out) (heard_part s t opened k o packet r honest out)
    (arrived_stays (line_at g i) o) r
    (arrival_joined o packet honest (relaying_now s t opened k o packet r honest out) (asks s t opened k o packet r honest out).1 (joined_open s opened k out))

-- what holds of the two at all times
pub record Pair (i j identifier kind : ℕ) (g : Gateway) (p : Past) (h : Gateway) (q : Past) : Type 0 where
  pub mine : Sound i identifier kind g p
  pub yours : Sound j identifier kind h q
  pub joined : Joined (end_of g i p) (end_of h j q)

pub turned : {i j identifier kind : ℕ} {g h : Gateway} {p q : Past} → Pair i j identifier kind g p h q → Pair j i identifier kind h q g p
turned k = record { mine = k.yours; yours = k.mine; joined = turn k.joined }

module _ {i j identifier kind : ℕ} {g h : Gateway} {p q : Past} (k : Pair i j identifier kind g p h q) where
  adds_kept : p.opened ≡ true → {c : Call} {out : List ℕ} {p' : Past} → (Relays g i → Relays (after g c out) i) → Adds i g p q out c p' → Left i identifier kind (end_of h j q) (after g c out) p'
  adds_kept o {out = out} stays (refused c e) = refused_kept k.mine k.joined c out e
  adds_kept o {out = out} stays (elsewhere c n) = elsewhere_kept k.mine k.joined c out n
  adds_kept o {out = out} stays (moded a) = moded_kept k.mine o k.joined a out stays
  adds_kept o {out = out} stays (reported channel) = report_kept k.mine k.joined channel out
  adds_kept o {out = out} stays (took channel m e) = (took_kept k.mine o k.joined out channel m (call_passes g (call.taking i channel m) out e)).1
  adds_kept o {out = out} stays (handed channel e) = (handed_kept k.mine o k.joined out channel (call_passes g (call.hand_out i channel) out e)).1
  adds_kept o {out = out} stays (sent channel rank e) = (sent_kept k.mine o k.joined out channel rank (call_passes g (call.sending i channel rank) out e)).1
  adds_kept o {out = out} stays (wrote channel e) = (wrote_kept k.mine o k.joined out channel (call_passes g (call.empty i channel) out e)).1
  adds_kept o {out = out} stays (heard x packet at r honest) = (heard_kept k.mine k.yours o k.joined x packet r honest out).1

  pub step_kept : {g' : Gateway} {p' : Past} → Step i identifier kind q g p g' p' → Pair i j identifier kind g' p' h q
  step_kept (before e c out) =
      let d = before_kept g (after g c out) i (part_there (after g c out) i (long_after k.mine c out) k.mine.small) k.mine.phase e k.joined in
      record { mine = sound_after k.mine c out d.0; yours = k.yours; joined = d.1 }
  step_kept (opens e x time out a b t) =
      let d = opens_kept k.mine e k.joined x time out a b t in
      record { mine = sound_after k.mine (call.opening i x time) out d.0; yours = k.yours; joined = d.1 }
  step_kept (calls e c out still stays a) =
      let d = adds_kept e stays a in
      record { mine = sound_after k.mine c out d.0; yours = k.yours; joined = d.1 }

pub goes_kept : {i j identifier kind : ℕ} {g h : Gateway} {p q : Past} {g' h' : Gateway} {p' q' : Past} → Pair i j identifier kind g p h q → Goes i j identifier kind g p h q g' p' h' q' → Pair i j identifier kind g' p' h' q'
goes_kept k stay = k
goes_kept k (here w s) = step_kept (goes_kept k w) s
goes_kept k (there w s) = turned (step_kept (turned (goes_kept k w)) s)

-- "Take two fresh gateways"
pub fresh_sound : (i identifier kind : ℕ) (store : List ℕ) → i < 4 → store_length fresh_book ≤ length store → Sound i identifier kind (fresh_with store) nothing_yet
fresh_sound i identifier kind store small long = record { fits = fresh_passes.0; shaped = fresh_passes.1; long = long; small = small; phase = closed }

pub fresh_pair : (i j identifier kind : ℕ) (store1 store2 : List ℕ) → (i < 4) × (j < 4) → (store_length fresh_book ≤ length store1) × (store_length fresh_book ≤ length store2)
    → Pair i j identifier kind (fresh_with store1) nothing_yet (fresh_with store2) nothing_yet
fresh_pair i j identifier kind store1 store2 lines long =
    record {
      mine = fresh_sound i identifier kind store1 lines.0 long.0;
      yours = fresh_sound j identifier kind store2 lines.1 long.1;
      joined = fresh_joined closed_line closed_line (part_in (fresh_with store1) i) (part_in (fresh_with store2) j) false false closed_unused closed_unused
          (closed_fits closed_line refl) (closed_fits closed_line refl) (part_there (fresh_with store1) i long.0 lines.0) (part_there (fresh_with store2) j long.1 lines.1);
    }

pub run_kept : {i j identifier kind : ℕ} {g h : Gateway} {p q : Past} → Run i j identifier kind g p h q → Pair i j identifier kind g p h q
run_kept {i} {j} {identifier} {kind} r = goes_kept (fresh_pair i j identifier kind r.store1 r.store2 r.lines r.long) r.goes

pub run_on : {i j identifier kind : ℕ} {g g' h h' : Gateway} {p p' q q' : Past} → Run i j identifier kind g p h q → Goes i j identifier kind g p h q g' p' h' q'
    → Run i j identifier kind g' p' h' q'
run_on r w = record { store1 = r.store1; store2 = r.store2; lines = r.lines; long = r.long; goes = goes_after r.goes w }
