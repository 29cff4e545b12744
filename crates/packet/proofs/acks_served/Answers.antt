use mathlib.Core.Path.{◌∙◌}
use mathlib.Core.List.{[], ◌∷◌}
use borrow.Author.Rules.{rules}
use borrow.Author.Tests.{tests}
use Rattle.std.proofs.lemmas.Iterator.{YieldsList-from_slice, YieldsList-from_take}
use Rattle.std.proofs.lemmas.Iterator.Search.{all_from_yields_List}
use Rattle.field.specs.Word.{served}
use Rattle.packet.proofs.Tests.{served_words}
use Rattle.packet.proofs.acks_served.Goals as goal

pub returns : goal.returns
returns c =
    let a = c.args.a in
    all_from_yields_List served _ _ _ c.all.ensures.ran (YieldsList-from_take a.count (YieldsList-from_slice (a.one ∷ a.two ∷ a.three ∷ []) cc) c.take.ensures.count) (λ x b q k. search (rules, tests)) ∙ served_words a
