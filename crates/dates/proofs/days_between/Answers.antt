-- `days_between` is `days_between`. Assumes nothing.
use Rattle.std.proofs.Common.{arith}
use Rattle.dates.specs.Calendar.{days_between}
use Rattle.dates.proofs.days_between.Goals as goal

pub returns : goal.returns
unfolding days_between
returns c = (omega arith, omega arith)
