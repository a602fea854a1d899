-- The holdings before i were seen without fault, of every list whose rows are given. Assumes nothing.
use Rattle.std.proofs.Common.{List, length, ◌≤◌, Ok}
use lib.ListN.{take}
use Rattle.holding.specs.declared.Row.{Row}
use Rattle.booking.specs.Seeing.{Lists, Seen}
use Rattle.booking.proofs.see_rows.Given as goal

abbrev pub invariant-loop-i : goal.invariant-loop-i
invariant-loop-i g l = (list : List Row) → Lists (goal.F-post g l.row) l.count list → l.count ≤ length list → Seen l.account l.trade (take l.i list) (Ok l.scan)
