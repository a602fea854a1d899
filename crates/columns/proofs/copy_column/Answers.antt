-- `copy_column` writes a column's first entries over the front of a list. Assumes nothing.
use Rattle.std.proofs.Common.{arith}
use Rattle.columns.proofs.Tables.{column-long}
use Rattle.columns.proofs.copy_column.Goals as goal

pub copy-requires : goal.copy-requires
copy-requires c = rw c.column.ensures (omega (arith, c.requires.held, column-long c.args.rows c.args.n c.args.j c.args.table.now c.requires.room))
