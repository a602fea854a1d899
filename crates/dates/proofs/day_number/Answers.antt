-- `day_number` is `day_number`: the days before the year, before the month, and the day. Assumes nothing.
use mathlib.Core.Path.{◌≡◌}
use Prim.Native.Nat.{◌+◌, ◌*◌}
use native.Mathlib.Omega.{arith}
use Rattle.dates.specs.Calendar.{year, month, year_start, month_start, day_number}
use Rattle.dates.proofs.Coded.{number_early, number_late}
use Rattle.dates.proofs.day_number.Goals.{then-month-le2, else-month-le2}
use Rattle.dates.proofs.day_number.Goals as goal

-- the two ways that the code counts the leap days come to the same
pub returns : goal.returns
unfolding day_number
returns c =
    let d = c.args.d in
    let leap = c.leap_days.ensures.0 in
    let start = c.month_start.ensures.0 in
    let starts : 365 * year d + c.leap_days.result + c.month_start.result ≡ year_start (year d) + month_start (year d) (month d) =
    elim c.if-month-le2.branch [
      | then-month-le2 w ↦ number_early _ _ _ _ _ leap start w.if-month-le2.true w.years-is
      | else-month-le2 w ↦ number_late _ _ _ _ _ leap start w.if-month-le2.false w.years-is
    ] in
    (omega (arith, starts), omega arith)
