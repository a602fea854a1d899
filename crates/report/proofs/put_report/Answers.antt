-- `put_report` writes the lines of a verdict. Assumes nothing.
use Rattle.report.proofs.Lines.{refused-written, accepted-written}
use Rattle.report.proofs.put_report.Goals as goal

pub returns-then-number-ne0 : goal.returns-then-number-ne0
returns-then-number-ne0 c = refused-written _ _ _ _ _ c.numbers_of.ensures c.if-number-ne0.true c.put_line.ensures.0

pub returns : goal.returns
returns c = accepted-written _ _ _ _ _ c.numbers_of.ensures c.if-number-ne0.false c.put_line-next.ensures.0 c.put_remainders.ensures
