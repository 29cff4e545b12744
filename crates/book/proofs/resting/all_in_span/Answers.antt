use Rattle.book.proofs.Walks.{span_all}
use Rattle.std.proofs.Common.{leb, ◌∙◌, rules, tests}
use Rattle.std.proofs.lemmas.Iterator.{YieldsList-from_slice}
use Rattle.std.proofs.lemmas.Iterator.Search.{all_from_yields_List}
use Rattle.book.proofs.resting.all_in_span.Goals as goal

pub returns : goal.returns
returns c =
    let l = c.args.resting.now in
    all_from_yields_List (λ x. leb x 127) _ _ _ c.all.ensures.ran (YieldsList-from_slice l cc) (λ x b q k. search (rules, tests)) ∙ span_all l
