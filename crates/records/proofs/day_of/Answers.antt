-- `day_of` reads five totals where they are there. Assumes nothing.
use Rattle.std.proofs.Common.{arith}
use Rattle.records.proofs.Totals.{all-read, stored_with, read_more}
use Rattle.records.proofs.day_of.Goals as goal

pub loop-k-preserved : goal.loop-k-preserved
loop-k-preserved c =
    let (long, read) = read_more c.args.totals.now c.loop-k.five c.loop-k.k _ c.loop-k.invariant.long c.loop-k-test.true c.loop-k.invariant.read c.word.ensures in
    record { long = long; read = read }

pub returns-after-loop-k : goal.returns-after-loop-k
returns-after-loop-k c =
    stored_with _ _ _ _ (all-read c.args.totals.now c.loop-k.five c.loop-k.invariant.long (λ j l. c.loop-k.invariant.read j (omega (arith, c.loop-k-test.false))))
