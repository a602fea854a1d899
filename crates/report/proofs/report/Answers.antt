-- `report` prints the lines of a verdict. Assumes nothing.
use Rattle.std.proofs.Common.{rules}
use Rattle.report.proofs.Written.{written-counted, written-few}
use Rattle.report.proofs.Prints.{buffer_prints}
use Rattle.report.proofs.report.Goals as goal

pub slice_bounds-lines-end : goal.slice_bounds-lines-end
slice_bounds-lines-end c = written-few c.put_report-n.ensures

pub slice_bounds-print-end : goal.slice_bounds-print-end
slice_bounds-print-end c = written-counted c.put_report-n.ensures

pub returns : goal.returns
returns c =
    let (printed, few) = buffer_prints (search rules) c.put_report-n.ensures c.print.ensures in
    record { prints = printed; ranks_len_bound = few }
