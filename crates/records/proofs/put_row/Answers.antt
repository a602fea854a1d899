-- `put_row` writes the seven numbers of a row over those of the record. Assumes nothing.
use Rattle.std.proofs.Common.{arith}
use Rattle.holding.specs.Holding.{numbers_of}
use Rattle.records.proofs.Rewriting.{row-over, row_put}
use Rattle.records.proofs.put_row.Goals as goal

pub returns : goal.returns
unfolding numbers_of
returns c =
    row_put c.args.row c.args.list.now _ c.args.i c.requires
    (row-over c.args.row c.args.list.now _ _ c.args.i _ (omega arith) (omega arith) c.write_words.ensures)
    (omega (arith, c.well_formed))
