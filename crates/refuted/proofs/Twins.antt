-- A run of ours that is one of a build that ignores messages by a test as well, as long as it does what ours does; and what such a run shows of
-- channel 1.
-- Assumes nothing.
use Prim.Native.Nat.{ℕ}
use mathlib.Core.Path.{◌≡◌, refl, sym, ap, subst, ◌∙◌}
use mathlib.Core.Bool.{Bool, true}
use mathlib.Core.List.{List}
use lib.Dec.{lit<}
use lib.ListN.{length}
use Rattle.ground.specs.Pick.{pick}
use Rattle.line.specs.Line.{is_open, closed_line}
use Rattle.book.specs.Book.{line_of}
use Rattle.calls.specs.Call.{Call}
use Rattle.calls.specs.Result.{CallResult, result_of}
use Rattle.promise.specs.Build.{Does}
use Rattle.promise.specs.Past.{Past}
use Rattle.promise.specs.Run.{Gateway, bound, does, after, line_at, part_in, Adds, Step, calls, here, Run}
use Rattle.promise.specs.Promise.{sends_by, receives_by, InRelay}
use Rattle.promise.specs.Ends.{sends_of, receives_of}
use Rattle.promise.specs.Demand2.{Ready}
use Rattle.promise.specs.Demand3.{Serves, Served}
use Rattle.refuted.specs.Idle.{arriving, ignores}
use Rattle.promise.proofs.Phases.{is_open_lem}
use Rattle.promise.proofs.StepsKeep.{run_kept}
use Rattle.promise.proofs.Demand3.{turned_run, promised, ours_demand3}

abbrev pub f : (ℕ → ℕ → Bool) → Does
f test = arriving (ignores test)

-- line 0 of both, identifier 5 and type 98
pub record Twin (test : ℕ → ℕ → Bool) (g : Gateway) (p : Past) (h : Gateway) (q : Past) : Type 0 where
  pub ours : Run result_of bound 0 0 5 98 g p h q
  pub sized : Run (f test) bound 0 0 5 98 g p h q
  pub mine : InRelay g 0 p
  pub yours : InRelay h 0 q

pub turned : {test : ℕ → ℕ → Bool} {g h : Gateway} {p q : Past} → Twin test g p h q → Twin test h q g p
turned t = record { ours = turned_run t.ours; sized = turned_run t.sized; mine = t.yours; yours = t.mine }

-- a run goes on with a step
pub goes_on : {d : Does} {g g' h : Gateway} {p p' q : Past} → Run d bound 0 0 5 98 g p h q → Step d bound 0 5 98 q g p g' p' → Run d bound 0 0 5 98 g' p' h q
goes_on r s = record { store1 = r.store1; store2 = r.store2; lines = r.lines; long = r.long; goes = here r.goes s }

module _ {test : ℕ → ℕ → Bool} {g h : Gateway} {p q : Past} (t : Twin test g p h q) where
  pub served : Served result_of bound 0 0 5 98 g p h q
  served = ours_demand3.served t.ours t.mine

  -- a call that both do alike
  pub alike : (c : Call) (out : List ℕ) {p' : Past} → p'.opened ≡ true → Serves result_of g 0 c out → does (f test) g c out ≡ does result_of g c out → Adds result_of bound 0 g p q out c p' → Adds (f test) bound 0 g p q out c p'
      → Twin test (after result_of g c out) p' h q
  alike c out {p'} o s same a b =
      let step : Step (f test) bound 0 5 98 q g p (after result_of g c out) p'
      = subst (λ (d : CallResult). Step (f test) bound 0 5 98 q g p (record { book = d.book; store = d.store }) p') same
      (calls t.mine.0 c out (subst (λ (d : CallResult). is_open (line_of d.book 0) ≡ true) (sym same) s.opened)
      (λ _. subst (λ (d : CallResult). (line_of d.book 0).modes.local ≡ 3) (sym same) s.inside) b) in
      record { ours = goes_on t.ours (calls t.mine.0 c out s.opened (λ _. s.inside) a); sized = goes_on t.sized step; mine = (o, s.inside); yours = t.yours }

  -- a book that BOOK lets pass
  pub ready : Ready g 0
  ready =
      let s = (run_kept t.ours).mine in
      record { fits = s.fits; shaped = s.shaped; long = s.long; small = lit< tt; opened = (is_open_lem s.phase t.mine.0).opened }

  -- S, h and R of channel 1, by the past and by the record
  pub S-is : (sends_by g 0 p 1).S ≡ length (p.taken 1)
  S-is = sym ((promised t.ours).there 1 refl).counted

  pub h_is : (sends_by g 0 p 1).h ≡ (line_at g 0).sending.one.base
  h_is = ap (λ (o : Bool). (sends_of (part_in g 0) (pick o (line_at g 0) closed_line) 1).h) t.mine.0

  pub R-is : (receives_by h 0 q 1).R ≡ length (q.handed 1)
  R-is = sym ((promised t.ours).there 1 refl).next

  pub next_is : (line_at h 0).receiving.one.next ≡ length (q.handed 1)
  next_is = sym (ap (λ (o : Bool). (receives_of (part_in h 0) (pick o (line_at h 0) closed_line) 1).R) t.yours.0) ∙ R-is

  pub taken_is : (line_at g 0).sending.one.taken ≡ length (p.taken 1)
  taken_is = sym (ap (λ (o : Bool). (sends_of (part_in g 0) (pick o (line_at g 0) closed_line) 1).S) t.mine.0) ∙ S-is
