-- `row` reads the numbers of a holding, one of each column. Assumes nothing.
use Rattle.columns.proofs.Submitted.{row_read}
use Rattle.columns.proofs.Columns.row.Goals as goal

pub returns : goal.returns
returns c =
    rw (← c.self.view_is)
    (row_read _ _ _ _ _ _ _ _ c.word.ensures c.word-2.ensures c.word-3.ensures c.word-4.ensures c.word-5.ensures c.word-6.ensures c.word-7.ensures)
