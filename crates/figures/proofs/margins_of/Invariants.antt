-- The margins of the first i holdings are in the list, and added up. Assumes nothing.
use Rattle.std.proofs.Common.{◌≡◌, length}
use Rattle.figures.specs.Margins.{Margins}
use Rattle.figures.proofs.margins_of.Given as goal

abbrev pub invariant-loop-i : goal.invariant-loop-i
invariant-loop-i l = (length l.margins ≡ length l.initial.margins) × Margins l.i l.legs l.left l.initial.margins l.margins l.total
