-- Each long passed is covered with every holding. Assumes nothing.
use Rattle.cover.specs.Books.{count_of}
use Rattle.cover.proofs.Uncovered.{Closed}
use Rattle.cover.proofs.book.Book.searched.Given as goal

abbrev pub invariant-loop-long : goal.invariant-loop-long
invariant-loop-long l = Closed (count_of l.self) l.self.legs.now l.self.price.now l.long
