use Rattle.owed.specs.Owed.{no_twice}
use Rattle.book.specs.Book.{identifier_of, open_keys, resting_of, identifiers_of}
use Rattle.book.specs.Marks.{new_in}
use Rattle.std.proofs.Common.{◌≡◌, ◌++◌, drop}
use Rattle.book.proofs.Book.each_once.Given as goal

abbrev pub invariant-loop-line : goal.invariant-loop-line
invariant-loop-line l =
    new_in l.seen.marks (open_keys identifier_of (drop l.line-index l.fn.self.lines) ++ resting_of l.fn.self) ≡ no_twice (identifiers_of l.fn.self)

abbrev pub invariant-loop-identifier : goal.invariant-loop-identifier
invariant-loop-identifier l = new_in l.seen.marks (drop l.identifier-index l.identifier-items) ≡ no_twice (identifiers_of l.fn.self)
