-- The long is covered with each holding passed. Assumes nothing.
use Rattle.cover.specs.Cover.{LongCovered}
use Rattle.cover.proofs.book.Book.first_open.Given as goal

abbrev pub invariant-loop-j : goal.invariant-loop-j
invariant-loop-j l = LongCovered l.j l.self.legs.now l.self.price.now l.i
