-- `put_digits` calls itself for the tenth part, and puts the last digit after it. Assumes nothing.
use Rattle.std.proofs.Common.{arith}
use Rattle.numerals.proofs.Written.{room-last, room_fewer, put-more}
use Rattle.numerals.proofs.+put_digits.Goals as goal

pub put_digit-requires : goal.put_digit-requires
put_digit-requires t c = (omega arith, room-last c.args.x _ _ c.requires)

pub put_digits-last-requires : goal.put_digits-last-requires
put_digits-last-requires t c = (omega arith, room_fewer c.args.x _ _ _ (omega arith) c.requires)

pub returns : goal.returns
returns t c = put-more _ _ _ _ _ _ _ (omega arith) (omega (arith, room-last c.args.x _ _ c.requires)) c.put_digits-last.ensures c.put_digit-2.ensures
