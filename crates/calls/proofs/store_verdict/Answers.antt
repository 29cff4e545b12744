use Rattle.book.proofs.Parts.{store_length_lem}
use borrow.Author.Tests.{le-leb, lt-leb, not-false}
use mathlib.Core.Path.{ap}
use mathlib.Core.Bool.{not}
use Rattle.calls.proofs.store_verdict.Goals as goal

pub returns : goal.returns
returns c = simp (← c.fits.ensures, not-false c.fits.result (ap not c.if-not-fits.false), store_length_lem c.args.book, le-leb _ _ c.if-store-lt-STORE.false)

pub returns-then-store-lt-STORE : goal.returns-then-store-lt-STORE
returns-then-store-lt-STORE c = simp (← c.fits.ensures, not-false c.fits.result (ap not c.if-not-fits.false), store_length_lem c.args.book, lt-leb _ _ c.if-store-lt-STORE.true)
