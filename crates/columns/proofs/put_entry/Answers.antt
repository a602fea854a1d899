-- `put_entry` writes one value after another. Assumes nothing.
use Rattle.std.proofs.Common.{refl, arith}
use Rattle.columns.proofs.Entry.{putting_more}
use Rattle.columns.proofs.put_entry.Goals as goal

pub loop-j-preserved : goal.loop-j-preserved
loop-j-preserved c = putting_more refl c.requires (omega arith) c.loop-j.invariant _ c.put_word.ensures
