-- Each holding passed is covered, as the long, with every holding. Assumes nothing.
use Rattle.cover.specs.Books.{count_of}
use Rattle.cover.proofs.Uncovered.{Closed}
use Rattle.cover.proofs.book.Book.scanned.Given as goal

abbrev pub invariant-loop-i : goal.invariant-loop-i
invariant-loop-i g l = Closed (count_of l.self) l.self.legs.now l.self.price.now l.i
