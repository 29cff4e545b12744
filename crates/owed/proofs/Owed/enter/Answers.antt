use Rattle.std.proofs.Common.{sym, ◌∙◌, arith}
use Rattle.owed.proofs.Lists.{found}
use Rattle.owed.proofs.Steps.{entered_full, entered_there, entered_new}
use Rattle.owed.proofs.Owed.enter.Goals as goal

pub returns-then-self-ge-MOST : goal.returns-then-self-ge-MOST
returns-then-self-ge-MOST c = sym (entered_full c.args.self (omega arith) c.args.word (omega arith))

pub returns-then-contains : goal.returns-then-contains
returns-then-contains c =
    let a = c.args in
    let there = found a.word _ _ _ c.entries.ensures c.contains.ensures.value in
    sym (entered_there a.self (omega arith) a.word (there ∙ c.if-contains.true))

pub returns : goal.returns
returns c =
    let a = c.args in
    let there = found a.word _ _ _ c.entries.ensures c.contains.ensures.value in
    let e = entered_new a.self (omega arith) a.word (omega arith) (omega arith) (there ∙ c.if-contains.false) in
    cc
