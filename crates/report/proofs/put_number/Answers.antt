-- `put_number` writes a number after a comma. Assumes nothing.
use Rattle.std.proofs.Common.{arith, rules}
use Rattle.numerals.proofs.Digits.{digits-word}
use Rattle.report.proofs.Lines.{number-written}
use Rattle.report.proofs.put_number.Goals as goal

pub put_digits-requires : goal.put_digits-requires
put_digits-requires c = omega (arith, c.put_byte-next.ensures.ends, digits-word c.args.x (search rules))

pub returns : goal.returns
returns c = number-written (search rules) (omega arith) c.put_byte-next.ensures c.put_digits.ensures
