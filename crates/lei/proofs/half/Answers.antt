-- `half` goes through the text by Horner's rule. Assumes nothing.
use Rattle.std.proofs.Common.{arith}
use Rattle.lei.proofs.Halves.{halved_more}
use Rattle.lei.proofs.half.Goals as goal

pub loop-c-preserved : goal.loop-c-preserved
loop-c-preserved c = halved_more _ c.loop-c.invariant _ (omega arith) c.value.ensures.0 c.value.ensures.1
