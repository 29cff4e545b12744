use borrow.Author.Rules.{rules}
use Rattle.places.specs.Places.{set_of}
use Rattle.places.proofs.Places.none.Goals as goal

pub returns : goal.returns
unfolding set_of
returns c = search rules
