-- `put_digit` writes the one digit of a number below 10. Assumes nothing.
use Rattle.std.proofs.Common.{rules}
use Rattle.numerals.proofs.Written.{put_one}
use Rattle.numerals.proofs.put_digit.Goals as goal

pub returns : goal.returns
returns c = put_one _ _ _ (search rules) (search rules)
