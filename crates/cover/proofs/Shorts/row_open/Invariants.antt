-- What is missing of each short passed is at most `worst`. Assumes nothing.
use Rattle.cover.proofs.Rows.{Missing}
use Rattle.cover.proofs.Shorts.row_open.Given as goal

abbrev pub invariant-loop-j : goal.invariant-loop-j
invariant-loop-j l = Missing l.mark l.rate l.price l.marks l.self.rates l.self.prices l.worst l.j
