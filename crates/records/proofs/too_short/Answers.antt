-- `too_short` tests both lengths. Assumes nothing.
use Rattle.std.proofs.Common.{arith, rules}
use borrow.Author.Tests.{lt-ltb}
use Rattle.lists.proofs.Tests.{tests}
use Rattle.records.specs.Records.{too_short}
use Rattle.records.proofs.too_short.Goals as goal

pub returns-then-totals-lt40 : goal.returns-then-totals-lt40
unfolding too_short
returns-then-totals-lt40 c = rw (lt-ltb c.args.totals 40 (omega arith))

pub returns : goal.returns
unfolding too_short
returns c = search (rules, tests)
