-- The contract of a function, as the check itself reads it: what it promises of every outcome, and that it leaves one outcome for one input.
-- `Rattle.CRATE.specs.contracts.FUNCTION.ended` is the function's signature and `Rattle.CRATE.proofs.FUNCTION.Reads.Learnt` what a caller learns of its
-- `ensures` in src/: the toolchain makes both of the function's own text, so that a contract that is changed changes what is asked here.
-- Assumes nothing.
use Rattle.std.specs.Prelude.{◌≡◌}
use contract.Lifetimes.{Lfts}
use denote.Triple.Entry.{Args, Res}
use denote.Triple.Clauses.{Ended, AtExit, Lasts, at_exit}

-- what a caller learns: of the arguments, the result, and the parameters as they are at the end
abbrev pub Claim : Ended → Type 1
Claim T = (κs : Lfts T.signature.lifetimes) → Args T.signature κs → Res T.signature κs → AtExit T κs → Type 0

-- something of the arguments, the result, and what is left behind each `&mut` that was lent
abbrev pub Said : Ended → Type 1
Said T = (κs : Lfts T.signature.lifetimes) (a : Args T.signature κs) → Res T.signature κs → Lasts T κs a → Type 0

-- for all arguments: every outcome that meets the contract is as said
abbrev pub Promises : (T : Ended) → Claim T → Said T → Type 0
Promises T Learnt P = (κs : Lfts T.signature.lifetimes) (a : Args T.signature κs) (x : Res T.signature κs) (p : Lasts T κs a) → Learnt κs a x (at_exit T κs a p) → P κs a x p

-- for all arguments: of any two outcomes that meet the contract the results are one, and so is what they leave behind each `&mut` that was lent
-- (RULES 17.1)
abbrev pub Determined : (T : Ended) → Claim T → Type 0
Determined T Learnt =
    (κs : Lfts T.signature.lifetimes) (a : Args T.signature κs) (x y : Res T.signature κs) (p q : Lasts T κs a)
    → Learnt κs a x (at_exit T κs a p) → Learnt κs a y (at_exit T κs a q) → (x ≡ y) × (p ≡ q)
