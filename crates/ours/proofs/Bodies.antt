-- The bodies of `ours` are those of the code: for whatever it is handed, what a reader of the code gives and what a writer leaves is what `our_bodies`
-- says. `connect_read_reads.Learnt` is the contract of `connect::read` in src/, as the check reads it; so of the others.
-- Assumes nothing.
use Prim.Native.Nat.{ℕ}
use mathlib.Core.Path.{◌≡◌, ap, ◌∙◌}
use mathlib.Core.List.{List}
use Rattle.std.specs.Prelude.{Result}
use Rattle.ground.specs.Answer.{Writes, write_says, contents}
use Rattle.ground.specs.Refusal.{Test, verdict}
use Rattle.connect.specs.Read as connect
use Rattle.connect.specs.contracts.read as connect_read
use Rattle.connect.proofs.read.Reads as connect_read_reads
use Rattle.connect.specs.contracts.write as connect_write
use Rattle.connect.proofs.write.Reads as connect_write_reads
use Rattle.breaks.specs.Break as breaks
use Rattle.breaks.specs.contracts.read as break_read
use Rattle.breaks.proofs.read.Reads as break_read_reads
use Rattle.breaks.specs.contracts.write as break_write
use Rattle.breaks.proofs.write.Reads as break_write_reads
use Rattle.slip.specs.Slip as slip
use Rattle.slip.specs.contracts.read as slip_read
use Rattle.slip.proofs.read.Reads as slip_read_reads
use Rattle.laws.specs.Contract.{Promises}
use Rattle.promise.specs.Build.{Left, left_by, our_bodies}
use Rattle.ground.specs.declared.Refusal.{Refusal}

-- an answer and what an output holds then, as a build leaves them
abbrev left : Result ℕ Refusal → List ℕ → Left
left r out = record { answer = write_says r; out = out }

-- what a writer's contract gives is what `left_by` says
pub writes_left : (ts : List Test) (octets before after : List ℕ) (r : Result ℕ Refusal) → Writes ts octets before after r → left r after ≡ left_by (verdict ts) octets before
writes_left ts octets before after r w =
    ap (left r) w.leaves ∙ ap (λ (x : Result ℕ Refusal). left x (contents x octets before)) w.gives.is

-- CONNECT is read as `ours` reads it, and written as `ours` writes it
pub connect_read_ours : Promises connect_read.ended connect_read_reads.Learnt (λ κs a x p. connect.answer_of x ≡ our_bodies.connect_read a.0.now)
connect_read_ours κs a x p m = ap connect.answer_of m.is

pub connect_write_ours : Promises connect_write.ended connect_write_reads.Learnt (λ κs a x p. left x p.0 ≡ our_bodies.connect_write a.1.0 a.0.now)
connect_write_ours κs a x p m = writes_left _ _ _ _ x m

-- so is BREAK
pub break_read_ours : Promises break_read.ended break_read_reads.Learnt (λ κs a x p. breaks.answer_of x ≡ our_bodies.break_read a.0.now)
break_read_ours κs a x p m = ap breaks.answer_of m.is

pub break_write_ours : Promises break_write.ended break_write_reads.Learnt (λ κs a x p. left x p.0 ≡ our_bodies.break_write a.1.0 a.0.now)
break_write_ours κs a x p m = writes_left _ _ _ _ x m

-- and a slip is read so
pub slip_read_ours : Promises slip_read.ended slip_read_reads.Learnt (λ κs a x p. slip.answer_of x ≡ our_bodies.slip_read a.0.now)
slip_read_ours κs a x p m = ap slip.answer_of m.is
