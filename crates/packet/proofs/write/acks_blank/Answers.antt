use mathlib.Core.Path.{◌∙◌}
use mathlib.Core.List.{[], ◌∷◌}
use lib.Dec.{eqb}
use borrow.Author.Rules.{rules}
use borrow.Author.Tests.{tests}
use Rattle.std.proofs.lemmas.Iterator.{YieldsList-from_slice}
use Rattle.std.proofs.lemmas.Iterator.Adapters.{YieldsList-from_skip}
use Rattle.std.proofs.lemmas.Iterator.Search.{all_from_yields_List}
use Rattle.packet.proofs.Tests.{blank_words}
use Rattle.packet.proofs.write.acks_blank.Goals as goal

pub returns : goal.returns
returns c =
    let a = c.args.a in
    all_from_yields_List (λ w. eqb w 0) _ _ _ c.all.ensures.ran (YieldsList-from_skip a.count (YieldsList-from_slice (a.one ∷ a.two ∷ a.three ∷ []) cc) c.skip.ensures.count) (λ x b q k. search (rules, tests)) ∙ blank_words a
