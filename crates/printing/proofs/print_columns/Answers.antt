-- `print_columns` prints the check's verdict and its lists. Assumes nothing.
use Rattle.std.proofs.Common.{rules}
use Rattle.printing.proofs.Columns.{columns-printed}
use Rattle.printing.proofs.print_columns.Goals as goal

pub returns : goal.returns
returns c =
    columns-printed _ _ _ _ c.check-verdict.ensures.judges c.holdings.ensures (c.report.ensures.prints, c.report.ensures.ranks_len_bound)
    (search rules) (search rules) (search rules)
