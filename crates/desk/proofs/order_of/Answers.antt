-- `order_of` is `order_of`. Assumes nothing.
use Rattle.desk.specs.Desk.{order_of}
use Rattle.desk.proofs.order_of.Goals as goal

pub returns-in-Add : goal.returns-in-Add
unfolding order_of
returns-in-Add c = rw (c.in-Add.is, c.row_of.ensures)

pub returns-in-Take : goal.returns-in-Take
unfolding order_of
returns-in-Take c = rw (c.in-Take.is, c.row_of-in-Take.ensures)

pub returns-in-MoveTo : goal.returns-in-MoveTo
unfolding order_of
returns-in-MoveTo c = rw c.in-MoveTo.is
