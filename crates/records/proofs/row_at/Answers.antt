-- `row_at` reads the seven numbers of a record. Assumes nothing.
use Rattle.std.proofs.Common.{refl}
use Rattle.records.proofs.Rows.{row_read}
use Rattle.records.proofs.row_at.Goals as goal

pub returns : goal.returns
returns c =
    row_read _ _ _ c.requires refl c.word.ensures c.word-2.ensures c.word-3.ensures c.word-4.ensures c.word-5.ensures c.word-6.ensures c.word-7.ensures
