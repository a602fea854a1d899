-- `book` leaves the list and the reply of an order judged on a list, whose change was written. Assumes nothing.
use Rattle.desk.proofs.Booked.{books}
use Rattle.desk.proofs.book.Goals as goal

pub returns : goal.returns
returns c =
    books c.args.list.now c.args.day c.args.order c.examine-outcome.result c.examine-outcome.ensures.concluded c.write.new.list c.write.ensures
