use Rattle.book.specs.Book.{lines_fit}
use Rattle.std.proofs.Common.{◌≡◌, drop}
use Rattle.book.proofs.Book.lines_fit.Given as goal

abbrev pub invariant-loop-line : goal.invariant-loop-line
invariant-loop-line l = lines_fit (drop l.line-index l.fn.self.lines) ≡ lines_fit l.fn.self.lines
