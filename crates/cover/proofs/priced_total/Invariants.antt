-- The holdings passed are added. Assumes nothing.
use Rattle.cover.proofs.Totals.{Summed}
use Rattle.cover.proofs.priced_total.Given as goal

abbrev pub invariant-loop-k : goal.invariant-loop-k
invariant-loop-k l = Summed l.price l.value l.total l.k
