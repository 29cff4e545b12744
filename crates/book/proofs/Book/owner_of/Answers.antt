use Rattle.book.proofs.Walks.{owner_placed}
use Rattle.book.specs.Book.{identifier_of, owner_from, owner_of}
use Rattle.line.specs.Line.{is_open}
use Rattle.line.specs.declared.Line.{Line}
use Rattle.std.proofs.Common.{◌≡◌, ◌&&◌, eqb, sym, ◌∙◌, rules, tests}
use Rattle.std.proofs.lemmas.Iterator.{YieldsList-from_slice}
use Rattle.std.proofs.lemmas.Iterator.Adapters.{position_from-zero}
use Rattle.std.proofs.lemmas.Iterator.Search.{position_from_yields_List}
use Rattle.book.proofs.Book.owner_of.Goals as goal
use Rattle.book.proofs.Book.owner_of.Goals.{After-position}

-- the owner is the line at the place that was found
owner : (c : After-position) → owner_of c.args.self c.args.identifier ≡ c.position.result
unfolding owner_from
owner c =
    let ls = c.args.self.lines in
    let x = c.args.identifier in
    let test = λ (l : Line). is_open l && eqb l.identifier x in
    let place = position_from_yields_List test _ _ c.position.result c.position.ensures.ran (YieldsList-from_slice ls cc) (λ l b q k. search (rules, tests)) ∙ position_from-zero test ls in
    owner_placed identifier_of x 0 ls ∙ sym place

pub returns : goal.returns
returns c = sym (owner (goal.at.returns c).After-position ∙ c.in_ok-i.was)

pub returns-in_err-i : goal.returns-in_err-i
returns-in_err-i c = c.from_residual.ensures ∙ sym (owner (goal.at.returns-in_err-i c).After-position ∙ c.in_err-i.was)
