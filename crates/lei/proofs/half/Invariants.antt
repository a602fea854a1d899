-- `half`: the number of the bytes before the loop's place. Assumes nothing.
use Rattle.lei.proofs.Halves.{Halved}
use Rattle.lei.proofs.half.Given as goal

abbrev pub invariant-loop-c : goal.invariant-loop-c
invariant-loop-c l = Halved l.text l.x l.c-index
