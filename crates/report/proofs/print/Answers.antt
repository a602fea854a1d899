-- `print` prints a text that is lent. Assumes nothing.
use Rattle.std.proofs.Common.{rules}
use Rattle.report.proofs.Prints.{put-prints}
use Rattle.report.proofs.print.Goals as goal

pub returns : goal.returns
returns c = put-prints _ _ (search rules) c.copy.ensures
