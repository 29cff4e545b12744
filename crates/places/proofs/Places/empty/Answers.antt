use borrow.Author.Rules.{rules}
use Rattle.places.specs.Places.{mask_of}
use Rattle.places.proofs.Places.empty.Goals as goal

pub returns : goal.returns
unfolding mask_of
returns c = search rules
