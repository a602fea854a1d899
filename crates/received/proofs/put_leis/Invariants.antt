-- The LEIs so far are written. Assumes nothing.
use Rattle.std.proofs.Common.{◌≡◌, take}
use Rattle.lists.specs.Tables.{front}
use Rattle.received.specs.Naming.{lei_texts}
use Rattle.received.proofs.put_leis.Given as goal

abbrev pub invariant-loop-i : goal.invariant-loop-i
invariant-loop-i l = l.out ≡ front (lei_texts (take l.i l.leis)) l.initial.out
