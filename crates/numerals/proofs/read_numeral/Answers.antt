-- `read_numeral` reads a digit more. Assumes nothing.
use Rattle.std.proofs.Common.{arith, rules}
use Rattle.numerals.proofs.Reading.{read_more}
use Rattle.numerals.proofs.read_numeral.Goals as goal

pub loop-c-preserved : goal.loop-c-preserved
loop-c-preserved c = read_more _ c.loop-c.invariant c.digit.result (search rules) (search rules) (omega arith) (grind arith)
