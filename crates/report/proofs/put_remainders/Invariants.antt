-- The R lines of the first holdings of the ranking stand there, each in at most 66 bytes. Assumes nothing.
use mathlib.Core.List.{flat_map}
use Rattle.std.proofs.Common.{◌+◌, ◌*◌, ◌≤◌, get_or, take}
use Rattle.lists.specs.Tables.{list_to}
use Rattle.report.specs.Report.{Written, judged_line}
use Rattle.report.proofs.put_remainders.Given as goal

abbrev pub invariant-loop-i : goal.invariant-loop-i
invariant-loop-i l = record {
  few : l.next ≤ l.at + 66 * l.i;
  written : Written (flat_map (judged_line l.lists.left.now l.lists.margins.now) (take l.i (list_to 256 (λ k. get_or l.lists.ranks.now k 0)))) l.at l.next l.initial.out l.out;
}
