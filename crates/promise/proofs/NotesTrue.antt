-- What is noted beside the packets of a run is what their octets say.
-- Assumes nothing.
use Prim.Native.Nat.{ℕ}
use mathlib.Core.Bool.{Bool}
use mathlib.Core.Path.{◌∙◌, ◌≡◌, ap, transport}
use Rattle.ground.specs.Pick.{pick}
use Rattle.line.specs.Line.{closed_line}
use Rattle.line.specs.declared.Line.{Line}
use Rattle.promise.proofs.StepsKeep.{run_kept}
use Rattle.promise.proofs.Ends.{Says}
use Rattle.promise.proofs.Phases.{Phase, closed, end_of, relaying, unused}
use Rattle.promise.specs.Notes.{Noted}
use Rattle.promise.specs.Ours.{Run}
use Rattle.promise.specs.Past.{Past}
use Rattle.promise.specs.Promise.{line_in, receives_by}
use Rattle.promise.specs.Run.{Each, Gateway, line_at, none}

-- every note beside a packet is true of its octets, and of the end that wrote it
pub notes_true : {i j identifier kind : ℕ} {g h : Gateway} {p q : Past} → Run i j identifier kind g p h q → Each (Noted identifier kind p.taken (receives_by g i p)) p.wrote
notes_true {i} {identifier = identifier} {kind} {g} {p = p} r = let k = run_kept r in go k.mine.phase k.joined.mine.said
  where
    go : {p : Past} → Phase i identifier kind g p → Each (Says (end_of g i p)) p.wrote → Each (Noted identifier kind p.taken (receives_by g i p)) p.wrote
    go closed e = none
    go (unused o u) e = none
    go {p} (relaying o t x) e =
        let l : line_in g i p ≡ line_at g i = ap (λ (b : Bool). pick b (line_at g i) closed_line) t in
        transport (λ n. Each (Noted ((ap (λ (x : Line). x.identifier) l ∙ o.named) n) ((ap (λ (x : Line). x.kind) l ∙ o.typed) n) p.taken (receives_by g i p)) p.wrote) e
