-- The shorts passed stand in their parts. Assumes nothing.
use Rattle.cover.specs.Books.{count_of}
use Rattle.cover.proofs.Parts.{Parting}
use Rattle.cover.proofs.book.Book.shorts_of.Given as goal

abbrev pub invariant-loop-j : goal.invariant-loop-j
invariant-loop-j g l = Parting g.row.PARTS (count_of l.self) l.self.legs.now l.self.price.now l.parts l.j
