-- A run within a number is one within every higher one.
-- Assumes nothing.
use Prim.Native.Nat.{ℕ, ◌≤◌}
use mathlib.Core.List.{List}
use native.Mathlib.Omega.{arith}
use Rattle.calls.specs.Call.{Call}
use Rattle.flow.specs.Flow.{Message}
use Rattle.promise.specs.Build.{Does}
use Rattle.promise.specs.Past.{Mark, Packet, Past}
use Rattle.promise.specs.Run.{Gateway, Each, Recent, Honest, Adds, refused, elsewhere, moded, reported, took, handed, sent, wrote, heard, Step, before, opens, calls, Goes, stay, here, there, Run}
use Rattle.promise.proofs.Lists.{each_map}

module _ {low high : ℕ} (more : low ≤ high) where
  still_recent : (taken : ℕ → List Message) {ms : List Mark} → Each (Recent low taken) ms → Each (Recent high taken) ms
  still_recent taken = each_map (λ m l. omega arith)

  still_honest : {p q : Past} {s : List ℕ} {k : Packet} → Honest low p q s k → Honest high p q s k
  still_honest {p} {q} h = record { written = h.written; same = h.same; carries = still_recent q.taken h.carries; names = still_recent p.taken h.names; acks = still_recent p.taken h.acks }

  still_adds : {f : Does} {i : ℕ} {g : Gateway} {p q : Past} {out : List ℕ} {c : Call} {p' : Past} → Adds f low i g p q out c p' → Adds f high i g p q out c p'
  still_adds (refused c e) = refused c e
  still_adds (elsewhere c n) = elsewhere c n
  still_adds (moded a) = moded a
  still_adds (reported c) = reported c
  still_adds (took c m e) = took c m e
  still_adds (handed c e) = handed c e
  still_adds (sent c rank e) = sent c rank e
  still_adds (wrote c e) = wrote c e
  still_adds (heard s k at r h) = heard s k at r (still_honest h)

  still_step : {f : Does} {i identifier kind : ℕ} {g g' : Gateway} {p p' q : Past} → Step f low i identifier kind q g p g' p' → Step f high i identifier kind q g p g' p'
  still_step (before e c out) = before e c out
  still_step (opens e s time out a b t) = opens e s time out a b t
  still_step (calls e c out o r a) = calls e c out o r (still_adds a)

  still_goes : {f : Does} {i j identifier kind : ℕ} {g h : Gateway} {p q : Past} {g' h' : Gateway} {p' q' : Past} → Goes f low i j identifier kind g p h q g' p' h' q' → Goes f high i j identifier kind g p h q g' p' h' q'
  still_goes stay = stay
  still_goes (here w s) = here (still_goes w) (still_step s)
  still_goes (there w s) = there (still_goes w) (still_step s)

  pub still_run : {f : Does} {i j identifier kind : ℕ} {g h : Gateway} {p q : Past} → Run f low i j identifier kind g p h q → Run f high i j identifier kind g p h q
  still_run r = record { store1 = r.store1; store2 = r.store2; lines = r.lines; long = r.long; goes = still_goes r.goes }
