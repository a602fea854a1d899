-- The lengths of the columns are what `lengths` is given. Assumes nothing.
use Rattle.std.proofs.Common.{refl}
use Rattle.words.specs.Words.{entries}
use Rattle.columns.specs.Columns.{count_in, holding_sizes, line_sizes}
use Rattle.sizes.specs.Sizes.{entries_of}
use Rattle.sizes.proofs.column_lengths.Goals as goal

pub returns : goal.returns
unfolding holding_sizes line_sizes entries_of count_in entries
returns c = rw (← c.columns.view_is) record { number = c.lengths.ensures; counted = record { holdings = refl; lines = refl } }
