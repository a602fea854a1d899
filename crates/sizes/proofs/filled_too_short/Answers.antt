-- The lengths of the columns are what `columns_too_short` is given. Assumes nothing.
use Rattle.columns.specs.Columns.{holding_sizes, line_sizes}
use Rattle.sizes.proofs.filled_too_short.Goals as goal

pub returns : goal.returns
unfolding holding_sizes line_sizes
returns c = c.columns_too_short.ensures
