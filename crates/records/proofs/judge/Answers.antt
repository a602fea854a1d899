-- `judge` has judged an order by the rows of the records. Assumes nothing.
use Rattle.records.specs.Records.{records_in, rows_in}
use Rattle.records.proofs.Rows.{length-rows, whole}
use Rattle.records.proofs.Judged.{listed}
use Rattle.records.proofs.judge.Goals as goal

pub judge-requires-clause-callable : goal.judge-requires-clause-callable
unfolding records_in
judge-requires-clause-callable c = λ i low there. whole c.args.list.now i there

pub judge-requires-clause-listed : goal.judge-requires-clause-listed
unfolding records_in
judge-requires-clause-listed c = (rows_in c.args.list.now, listed c.args.list.now c.args.day.count, length-rows c.args.list.now)

pub returns : goal.returns
unfolding records_in
returns c = (
  c.judge.ensures.fits,
  c.judge.ensures.concluded (rows_in c.args.list.now) (listed c.args.list.now c.args.day.count) (length-rows c.args.list.now),
)
