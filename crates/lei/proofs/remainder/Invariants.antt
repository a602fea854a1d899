-- `remainder`: the remainder of the bytes before the loop's place. Assumes nothing.
use Rattle.lei.proofs.Remainders.{Remains}
use Rattle.lei.proofs.remainder.Given as goal

abbrev pub invariant-loop-c : goal.invariant-loop-c
invariant-loop-c l = Remains l.text l.r l.c-index
