-- The calls of `ours` are those of the code: for whatever it is handed, what a call of the face answers and leaves is what `ours` does. Where a call is
-- lent no store or no output, this holds of any, which stay. `open_reads.Learnt` is the contract of `gateway::open` in src/, as the check reads it; so of
-- the others. In a statement a has the arguments, x is what is returned, and p what is left behind each reference.
-- Assumes nothing.
use Prim.Native.Nat.{ℕ}
use mathlib.Core.Path.{◌≡◌}
use mathlib.Core.List.{List}
use Rattle.ground.specs.Answer.{write_says}
use Rattle.mode.specs.Acts as act
use Rattle.mode.specs.Says.{hear_says, ask_says, tick_says}
use Rattle.book.specs.Book.{fresh_book}
use Rattle.calls.specs.Call as call
use Rattle.calls.specs.Result.{result_with, does}
use Rattle.outgoing.specs.Says.{take_says, held_says}
use Rattle.incoming.specs.Says.{arrive_says}
use Rattle.gateway.specs.Says.{open_says}
use Rattle.gateway.specs.contracts.fresh
use Rattle.gateway.proofs.fresh.Reads as fresh_reads
use Rattle.gateway.specs.contracts.open
use Rattle.gateway.proofs.open.Reads as open_reads
use Rattle.gateway.specs.contracts.close
use Rattle.gateway.proofs.close.Reads as close_reads
use Rattle.gateway.specs.contracts.hear
use Rattle.gateway.proofs.hear.Reads as hear_reads
use Rattle.gateway.specs.contracts.ask
use Rattle.gateway.proofs.ask.Reads as ask_reads
use Rattle.gateway.specs.contracts.tick
use Rattle.gateway.proofs.tick.Reads as tick_reads
use Rattle.gateway.specs.contracts.take
use Rattle.gateway.proofs.take.Reads as take_reads
use Rattle.gateway.specs.contracts.send
use Rattle.gateway.proofs.send.Reads as send_reads
use Rattle.gateway.specs.contracts.empty
use Rattle.gateway.proofs.empty.Reads as empty_reads
use Rattle.gateway.specs.contracts.held
use Rattle.gateway.proofs.held.Reads as held_reads
use Rattle.gateway.specs.contracts.arrive
use Rattle.gateway.proofs.arrive.Reads as arrive_reads
use Rattle.gateway.specs.contracts.hand_out
use Rattle.gateway.proofs.hand_out.Reads as hand_out_reads
use Rattle.laws.specs.Contract.{Promises}
use Rattle.promise.specs.Build.{ours}

-- a gateway begins with a fresh book
pub fresh_ours : Promises fresh.ended fresh_reads.Learnt (λ κs a x p. x ≡ fresh_book)
fresh_ours κs a x p m = m

-- opening and closing
pub open_ours : Promises open.ended open_reads.Learnt (λ κs a x p. (store out : List ℕ)
    → does open_says a.0 x store out ≡ ours.does (call.opening a.1.0 a.1.1.0 a.1.1.1.0) a.0 store out)
open_ours κs a x p m = m

pub close_ours : Promises close.ended close_reads.Learnt (λ κs a x p. (store : List ℕ)
    → does write_says a.0 x store p.1.1.0 ≡ ours.does (call.closing a.1.0) a.0 store a.1.1.0.now)
close_ours κs a x p m = m

-- the mode calls
pub hear_ours : Promises hear.ended hear_reads.Learnt (λ κs a x p. (store out : List ℕ)
    → does hear_says a.0 x store out ≡ ours.does (call.mode a.1.0 (act.hear a.1.1.0 a.1.1.1.0)) a.0 store out)
hear_ours κs a x p m = m

pub ask_ours : Promises ask.ended ask_reads.Learnt (λ κs a x p. (store out : List ℕ)
    → does ask_says a.0 x store out ≡ ours.does (call.mode a.1.0 (act.ask a.1.1.0 a.1.1.1.0)) a.0 store out)
ask_ours κs a x p m = m

pub tick_ours : Promises tick.ended tick_reads.Learnt (λ κs a x p. (store out : List ℕ)
    → does tick_says a.0 x store out ≡ ours.does (call.mode a.1.0 (act.tick a.1.1.0)) a.0 store out)
tick_ours κs a x p m = m.0

-- messages going out
pub take_ours : Promises take.ended take_reads.Learnt (λ κs a x p. (out : List ℕ)
    → does take_says a.0 x p.1.0 out ≡ ours.does (call.taking a.1.1.0 a.1.1.1.0 a.1.1.1.1.0.now) a.0 a.1.0.now out)
take_ours κs a x p m = m

pub send_ours : Promises send.ended send_reads.Learnt (λ κs a x p.
    does write_says a.0 x a.1.0.now p.1.1.1.1.1.0
    ≡ ours.does (call.sending a.1.1.0 a.1.1.1.0 a.1.1.1.1.0) a.0 a.1.0.now a.1.1.1.1.1.0.now)
send_ours κs a x p m = m

pub empty_ours : Promises empty.ended empty_reads.Learnt (λ κs a x p. (store : List ℕ)
    → does write_says a.0 x store p.1.1.1.0 ≡ ours.does (call.empty a.1.0 a.1.1.0) a.0 store a.1.1.1.0.now)
empty_ours κs a x p m = m

pub held_ours : Promises held.ended held_reads.Learnt (λ κs a x p. (store out : List ℕ)
    → result_with (held_says x) a.0 store out ≡ ours.does (call.report a.1.0 a.1.1.0) a.0 store out)
held_ours κs a x p m = m

-- messages coming in
pub arrive_ours : Promises arrive.ended arrive_reads.Learnt (λ κs a x p. (out : List ℕ)
    → does arrive_says a.0 x p.1.0 out ≡ ours.does (call.arrival a.1.1.0.now) a.0 a.1.0.now out)
arrive_ours κs a x p m = m

pub hand_out_ours : Promises hand_out.ended hand_out_reads.Learnt (λ κs a x p.
    does write_says a.0 x a.1.0.now p.1.1.1.1.0
    ≡ ours.does (call.hand_out a.1.1.0 a.1.1.1.0) a.0 a.1.0.now a.1.1.1.1.0.now)
hand_out_ours κs a x p m = m
