-- `open`: 3, 2, 24, 26 in turn, or the book's account. Assumes nothing.
use Rattle.std.proofs.Common.{arith}
use Rattle.daybook.specs.Book.{head_of}
use Rattle.booking.proofs.Opened.{opens-refused, many, no_list, no_other, opens_head}
use Rattle.booking.proofs.open.Goals as goal

pub returns-then-day-gt256 : goal.returns-then-day-gt256
returns-then-day-gt256 c = opens-refused _ _ _ (many _ _ _ (omega arith))

pub returns-then-room-day : goal.returns-then-room-day
returns-then-room-day c = opens-refused _ _ _ (no_list _ _ _ (omega arith) (omega arith))

pub returns-then-short : goal.returns-then-short
returns-then-short c = opens-refused _ _ _ (no_other _ _ _ (omega arith) (omega arith) c.if-short.true)

pub returns : goal.returns
unfolding head_of
returns c = opens_head _ _ _ (omega arith) (omega arith) c.if-short.false c.account_of.ensures.number c.account_of.ensures.account
