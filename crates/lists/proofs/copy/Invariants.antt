-- `copy` writes one byte after another: the first i are there, and then what the list held. Assumes nothing.
use Rattle.std.proofs.Common.{◌≡◌, length, get_or}
use Rattle.lists.specs.Tables.{list_to, front}
use Rattle.lists.proofs.copy.Given as goal

abbrev pub invariant-loop-i : goal.invariant-loop-i
invariant-loop-i l = (length l.to ≡ length l.initial.to) × (l.to ≡ front (list_to l.i (λ k. get_or l.from k 0)) l.initial.to)
