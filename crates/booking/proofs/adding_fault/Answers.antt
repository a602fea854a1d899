-- `adding_fault` is the first of `adding_faults`. Assumes nothing.
use Rattle.std.proofs.Common.{arith}
use Rattle.booking.proofs.Tested.{adds_none, adds_much, adds-above, adds-there, adds_full, adds-no_place, adds-place}
use Rattle.booking.proofs.adding_fault.Goals as goal

pub returns-then-value-lt1 : goal.returns-then-value-lt1
returns-then-value-lt1 c = adds_none _ _ _ _ _ (omega arith)

pub returns-then-value-gt100000000000 : goal.returns-then-value-gt100000000000
returns-then-value-gt100000000000 c = adds_much _ _ _ _ _ (omega arith)

pub returns-then-held-value : goal.returns-then-held-value
returns-then-held-value c = adds-above _ _ _ _ _ (omega arith) (omega arith) (omega arith)

pub returns-then-not-joins : goal.returns-then-not-joins
returns-then-not-joins c = adds-there _ _ _ _ _ (omega arith) (omega arith) (omega arith) c.if-not-joins.true

pub returns-then-count-ge256 : goal.returns-then-count-ge256
returns-then-count-ge256 c = adds_full _ _ _ _ _ (omega arith) (omega arith) (omega arith) c.if-not-joins.false (omega arith)

pub returns-then-room-count : goal.returns-then-room-count
returns-then-room-count c = adds-no_place _ _ _ _ _ (omega arith) (omega arith) (omega arith) c.if-not-joins.false (omega arith) (omega arith)

pub returns : goal.returns
returns c = adds-place _ _ _ _ _ (omega arith) (omega arith) (omega arith) c.if-not-joins.false (omega arith) (omega arith)
