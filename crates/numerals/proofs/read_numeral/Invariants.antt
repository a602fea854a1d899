-- `read_numeral` has read the bytes before the place. Assumes nothing.
use Rattle.numerals.proofs.Reading.{Read}
use Rattle.numerals.proofs.read_numeral.Given as goal

abbrev pub invariant-loop-c : goal.invariant-loop-c
invariant-loop-c l = Read l.text l.x l.c-index
