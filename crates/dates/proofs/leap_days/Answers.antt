-- `leap_days` and 365 days for every year are `year_start`. Assumes nothing.
use Rattle.std.proofs.Common.{arith}
use Rattle.dates.specs.Calendar.{year_start}
use Rattle.dates.proofs.leap_days.Goals as goal

pub returns : goal.returns
unfolding year_start
returns c = (omega arith, omega arith)
