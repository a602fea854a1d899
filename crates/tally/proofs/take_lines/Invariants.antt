-- The lines before i are taken off what is left. Assumes nothing.
use Rattle.std.proofs.Common.{List, ℕ}
use Rattle.pairing.specs.declared.Line.{Line}
use Rattle.proposal.specs.Submission.{line_by}
use Rattle.columns.specs.Columns.{numbers_at}
use Rattle.tally.proofs.Walk.{Walk}
use Rattle.tally.proofs.take_lines.Given as goal

-- a line of the columns by its number
abbrev pub line_in : List (List ℕ) → ℕ → Line
line_in columns k = line_by (numbers_at columns k)

abbrev pub invariant-loop-i : goal.invariant-loop-i
invariant-loop-i l = Walk l.n l.legs l.initial.left (line_in l.columns.lines) l.m l.left l.sums.units l.sums.saving l.i
