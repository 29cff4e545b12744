-- No higher figure than 16,352 would do. On channel 1, with its window of 32, 16,353 messages pass; then the packet of message 0 arrives once more. Its
-- number is that of message 16,384, which is next but 31: it is stored as that. 32 more are taken, the last of them message 16,384, with other octets:
-- what waits there is not what was taken.
-- Assumes nothing.
use Prim.Native.Nat.{ℕ, zero, suc, ◌+◌, ◌-◌, ◌≤◌, ◌<◌}
use mathlib.Core.Path.{◌≡◌, refl, sym, ap, subst, ◌∙◌}
use mathlib.Core.Bool.{Bool, false}
use mathlib.Core.List.{List, [], ◌∷◌}
use native.Mathlib.Omega.{arith}
use lib.Dec.{lit≤, lit<}
use lib.ListN.{length, get_or, length-append}
use lib.Seq.{get_or-append_seam, get_or-append-add}
use Rattle.ground.specs.Pick.{pick}
use Rattle.flow.specs.Flow.{Message, Sends, Receives, Full, first_stays, span, waiting}
use Rattle.flow.proofs.Flows.{first_stays_old}
use Rattle.line.specs.Line.{closed_line}
use Rattle.calls.specs.Call.{Call}
use Rattle.calls.specs.Call as call
use Rattle.calls.specs.Result.{result_of}
use Rattle.promise.specs.Past.{Past, took_past, heard_past}
use Rattle.promise.specs.Run.{Gateway, bound, after, line_at, part_in, Each, none, also, Recent, Honest, took, calls, Step, Goes, here, there, Run}
use Rattle.promise.specs.Promise.{sends_by, receives_by, InRelay, Promised}
use Rattle.promise.specs.Ends.{sends_of}
use Rattle.promise.specs.Demand3.{Serves}
use Rattle.promise.specs.Notes.{mark}
use Rattle.promise.proofs.StepsKeep.{Pair, turned, run_kept}
use Rattle.promise.proofs.Demand3.{promised, ours_demand3}
use Rattle.promise.proofs.AnyWay.{Packeted}
use Rattle.promise.proofs.Within.{still_run}
use Rattle.promise.proofs.TooOld.{stored_late, late_step}
use Rattle.refuted.specs.Sharp.{Breaks}
use Rattle.refuted.proofs.Rounds.{At, took_base}
use Rattle.refuted.proofs.Twins.{S-is}
use Rattle.refuted.proofs.UpTo.{up_to}

-- every message passes
abbrev never : ℕ → ℕ → Bool
never number next = false

-- one of the messages that wait
span_at : (s : Sends) (r : Receives) (n k d : ℕ) → d < k → get_or (span s r n k) d [] ≡ first_stays (r.stored (n + d)) (s.held (n + d))
span_at s r n zero d l = absurd (omega arith)
span_at s r n (suc k) zero l = ap (λ (m : ℕ). first_stays (r.stored m) (s.held m)) (omega arith)
span_at s r n (suc k) (suc d) l = span_at s r (suc n) k d (omega arith) ∙ ap (λ (m : ℕ). first_stays (r.stored m) (s.held m)) (omega arith)

module _ (k : ℕ) (all : k ≡ 16353) (a : At never k) where
  -- message 0, and one that differs from it
  abbrev x : Message
  x = get_or (a.p.taken 1) 0 []

  abbrev y : Message
  y = (1 - get_or x 0 0) ∷ []

  differ : x ≡ y → ⊥
  differ e = let f : get_or x 0 0 ≡ 1 - get_or x 0 0 = ap (λ (m : Message). get_or m 0 0) e in omega (arith, f)

  -- n more are taken, whatever becomes of the other end
  record More (n : ℕ) : Type 0 where
    g : Gateway
    p : Past
    run : Run result_of bound 0 0 5 98 g p a.h a.q
    mine : InRelay g 0 p
    taken : length (p.taken 1) ≡ k + n
    base : (line_at g 0).sending.one.base ≡ k
    goes : {w : ℕ} {g₀ h₀ h' : Gateway} {p₀ q₀ q' : Past} → Goes result_of w 0 0 5 98 g₀ p₀ h₀ q₀ a.g a.p h' q' → Goes result_of w 0 0 5 98 g₀ p₀ h₀ q₀ g p h' q'

  -- one is taken
  module _ {n : ℕ} (few : n < 32) (m : More n) where
    abbrev taking : Call
    taking = call.taking 0 1 y

    takes : Serves result_of m.g 0 taking []
    takes =
        let S : (sends_by m.g 0 m.p 1).S ≡ k + n = sym ((promised m.run).there 1 refl).counted ∙ m.taken in
        let h : (sends_by m.g 0 m.p 1).h ≡ k = ap (λ (o : Bool). (sends_of (part_in m.g 0) (pick o (line_at m.g 0) closed_line) 1).h) m.mine.0 ∙ m.base in
        (ours_demand3.served m.run m.mine).takes 1 refl y (lit≤ tt) (lit≤ tt) (omega (arith, S, all, few)) (omega (arith, S, h, few)) []

    abbrev one_more : More (suc n)
    one_more =
        record {
          g = after result_of m.g taking [];
          p = took_past m.p 1 y;
          run = record { store1 = m.run.store1; store2 = m.run.store2; lines = m.run.lines; long = m.run.long; goes = here m.run.goes (calls m.mine.0 taking [] takes.opened (λ _. takes.inside) (took 1 y takes.accepted)) };
          mine = (m.mine.0, takes.inside);
          taken = omega (arith, length-append (m.p.taken 1) (y ∷ []), m.taken);
          base = took_base m.run y takes ∙ m.base;
          goes = λ w. here (m.goes w) (calls m.mine.0 taking [] takes.opened (λ _. takes.inside) (took 1 y takes.accepted));
        }

  more : (n : ℕ) → n ≤ 32 → More n
  more zero l = record { g = a.g; p = a.p; run = a.twin.ours; mine = a.twin.mine; taken = omega (arith, a.taken); base = a.base; goes = λ w. w }
  more (suc n) l = one_more (omega arith) (more n (omega arith))

  -- the packet of message 0 arrives again: 16,352 were taken after it
  abbrev old : Packeted 1 0 a.p.wrote
  old = a.wrote 0 (omega arith)

  abbrev o : List ℕ
  o = old.packet.octets

  module _ (within : ℕ) (higher : bound < within) where
    honest : Honest within a.q a.p o old.packet
    honest =
        let lately : Recent within a.p.taken (mark 1 0) = omega (arith, a.taken, all, higher) in
        let near : Recent within a.q.taken (mark 1 old.base) = omega (arith, ap length a.idle, higher) in
        record {
          written = old.written;
          same = refl;
          carries = subst (Each (Recent within a.p.taken)) (sym old.carries) (also lately none);
          names = subst (Each (Recent within a.q.taken)) (sym old.names) (also near none);
          acks = subst (Each (Recent within a.q.taken)) (sym old.acks) none;
        }

    -- the premises of the promise hold of what it names as base and acknowledges
    names : Each (Recent bound a.q.taken) old.packet.names
    names =
        let near : Recent bound a.q.taken (mark 1 old.base) = omega (arith, ap length a.idle) in
        subst (Each (Recent bound a.q.taken)) (sym old.names) (also near none)

    acks : Each (Recent bound a.q.taken) old.packet.acks
    acks = subst (Each (Recent bound a.q.taken)) (sym old.acks) none

    abbrev h' : Gateway
    h' = after result_of a.h (call.arrival o) []

    abbrev q' : Past
    q' = heard_past a.q old.packet

    pair : Pair 0 0 5 98 a.h a.q a.g a.p
    pair = turned (run_kept a.twin.ours)

    -- it is stored as message 16,384
    mistaken : (receives_by h' 0 q' 1).stored 16384 ≡ x
    mistaken =
        stored_late pair.mine pair.yours a.twin.yours.0 pair.joined old.packet a.twin.yours.1 honest [] 1 0 16384 old.carries refl (omega (arith, a.taken, all)) (omega (arith, a.handed, all)) names acks

    comes : Step result_of within 0 5 98 a.p a.h a.q h' q'
    comes = late_step pair.mine pair.yours a.twin.yours.0 pair.joined old.packet a.twin.yours.1 honest []

    abbrev full : More 31
    full = more 31 (lit≤ tt)

    abbrev end : More 32
    end = one_more (lit< tt) full

    run : Run result_of within 0 0 5 98 end.g end.p h' q'
    run =
        let r = still_run {low = bound} {high = within} (omega arith) a.twin.ours in
        record { store1 = r.store1; store2 = r.store2; lines = r.lines; long = r.long; goes = end.goes (there r.goes comes) }

    -- so message 16,384 waits with the octets of message 0
    broken : Promised end.g 0 end.p h' 0 q' → ⊥
    unfolding waiting
    broken promise =
        let c = promise.there 1 refl in
        let s = sends_by end.g 0 end.p 1 in
        let r = receives_by h' 0 q' 1 in
        let out : length (q'.handed 1) ≡ 16353 = omega (arith, a.handed, all) in
        let R : r.R ≡ 16353 = sym c.next ∙ out in
        let S : s.S ≡ 16385 = sym c.counted ∙ omega (arith, end.taken, all) in
        let last : get_or (end.p.taken 1) (length (full.p.taken 1)) [] ≡ y = get_or-append_seam (full.p.taken 1) y [] [] in
        let at : length (full.p.taken 1) ≡ length (q'.handed 1) + 31 = omega (arith, full.taken, all, out) in
        let waits : get_or (end.p.taken 1) (length (q'.handed 1) + 31) [] ≡ get_or (waiting s r) 31 []
        = ap (λ (l : List Message). get_or l (length (q'.handed 1) + 31) []) c.in_order ∙ get_or-append-add (q'.handed 1) (waiting s r) 31 [] in
        let it : get_or (waiting s r) 31 [] ≡ first_stays (r.stored (r.R + 31)) (s.held (r.R + 31)) = span_at s r r.R (s.S - r.R) 31 (omega (arith, R, S)) in
        let which : r.R + 31 ≡ 16384 = omega (arith, R) in
        let has : r.stored (r.R + 31) ≡ x = ap r.stored which ∙ mistaken in
        let solid : Full x = ((run_kept a.twin.ours).joined.there 1 refl).solid 0 (omega (arith, S-is a.twin, a.taken, all)) in
        let first : first_stays (r.stored (r.R + 31)) (s.held (r.R + 31)) ≡ x = first_stays_old (r.stored (r.R + 31)) (s.held (r.R + 31)) (subst Full (sym has) solid) ∙ has in
        differ (sym first ∙ sym it ∙ sym waits ∙ ap (λ (n : ℕ). get_or (end.p.taken 1) n []) (sym at) ∙ last)

-- with any figure above 16,352 there is a run of ours in which a message is not carried as it was taken
pub no_higher_bound : (within : ℕ) → bound < within → Breaks within
no_higher_bound within higher =
    let a = up_to never 16353 (lit≤ tt) (λ k l. refl) 16353 (lit≤ tt) in
    record {
      i = 0;
      j = 0;
      identifier = 5;
      kind = 98;
      here = (end 16353 refl a within higher).g;
      mine = (end 16353 refl a within higher).p;
      there = h' 16353 refl a within higher;
      yours = q' 16353 refl a within higher;
      run = run 16353 refl a within higher;
      broken = broken 16353 refl a within higher;
    }
