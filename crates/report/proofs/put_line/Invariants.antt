-- The numbers so far stand after the letter, each in at most 21 bytes. Assumes nothing.
use mathlib.Core.List.{flat_map}
use Rattle.std.proofs.Common.{◌+◌, ◌*◌, ◌≤◌, take}
use Rattle.report.specs.Report.{Written, after_comma}
use Rattle.report.proofs.put_line.Given as goal

abbrev pub invariant-loop-x : goal.invariant-loop-x
invariant-loop-x l = record {
  few : l.next ≤ l.initial.next + 21 * l.x-index;
  written : Written (flat_map after_comma (take l.x-index l.numbers)) l.initial.next l.next l.initial.out l.out;
}
