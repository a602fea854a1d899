-- `put_digits` calls itself for the tenth part, which is smaller. Assumes nothing.
use Rattle.numerals.proofs.+put_digits.Given as goal

abbrev pub decreases-put_digits : goal.decreases-put_digits
decreases-put_digits l = l.x
