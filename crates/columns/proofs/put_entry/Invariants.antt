-- The first j values are in their columns, and the columns after those are as they were. Assumes nothing.
use Rattle.std.proofs.Common.{length}
use Rattle.columns.proofs.Entry.{Putting}
use Rattle.columns.proofs.put_entry.Given as goal

abbrev pub invariant-loop-j : goal.invariant-loop-j
invariant-loop-j l = Putting (length l.values) l.rows l.k l.values l.initial.table l.j l.table
