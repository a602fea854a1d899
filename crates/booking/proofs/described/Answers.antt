-- `described` makes a holding of one cent. Assumes nothing.
use Rattle.daybook.specs.Book.{valued}
use Rattle.booking.proofs.described.Goals as goal

pub returns : goal.returns
unfolding valued
returns c = c.holding_of.ensures
