-- `line` reads the numbers of a line, one of each column. Assumes nothing.
use Rattle.columns.proofs.Submitted.{line_read}
use Rattle.columns.proofs.Columns.line.Goals as goal

pub returns : goal.returns
returns c = rw (← c.self.view_is) (line_read _ _ _ _ c.word.ensures c.word-2.ensures c.word-3.ensures)
