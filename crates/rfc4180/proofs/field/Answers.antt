-- `field` is the part of the text at the place of field k, in the list and so in the record. Assumes nothing.
use Rattle.std.proofs.Common.{arith}
use Rattle.rfc4180.proofs.Places.{hands_part, hands_none}
use Rattle.rfc4180.proofs.field.Goals as goal

pub returns-then-k-min : goal.returns-then-k-min
returns-then-k-min c = hands_part _ _ _ _ (omega arith) c.part.ensures

pub returns-else-k-min : goal.returns-else-k-min
returns-else-k-min c = hands_none _ _ _ _ (omega arith)
