-- `lengths` compares each column's length with that of the first. Assumes nothing.
use Rattle.sizes.proofs.Sizes.{first-tested}
use Rattle.sizes.proofs.lengths.Goals as goal

pub returns : goal.returns
returns c = first-tested _ _ _ _ _ c.in_order.ensures
