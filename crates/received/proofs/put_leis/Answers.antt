-- `put_leis` writes the LEIs in turn. Assumes nothing.
use Rattle.std.proofs.Common.{arith, refl}
use lib.Seq.{take_all}
use Rattle.lists.specs.Tables.{front}
use Rattle.received.specs.Naming.{lei_texts}
use Rattle.received.proofs.Written.{written-more}
use Rattle.received.proofs.put_leis.Goals as goal

pub loop-i-init : goal.loop-i-init
unfolding front lei_texts
loop-i-init c = refl

pub loop-i-preserved : goal.loop-i-preserved
loop-i-preserved c = written-more _ c.loop-i.i _ (omega arith) c.requires c.loop-i.invariant c.put_lei.ensures

pub returns : goal.returns
returns c = rw (take_all _ _ c.loop-i-test.false) at c.loop-i.invariant
