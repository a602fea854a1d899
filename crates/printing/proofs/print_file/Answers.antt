-- `print_file` prints the reader's refusal, or what the check finds of the tables that the file was read into. Assumes nothing.
use Rattle.std.proofs.Common.{refl}
use Rattle.printing.proofs.Whole.{refused_printed, tables_hold, checked_printed}
use Rattle.printing.proofs.print_file.Goals as goal

pub returns-in-Err : goal.returns-in-Err
returns-in-Err c = refused_printed _ c.read.ensures c.in-Err.is (rw c.number.ensures at c.refusal.ensures.prints, rw c.number.ensures at c.refusal.ensures.second_len_bound)

pub print_tables-requires : goal.print_tables-requires
print_tables-requires c = tables_hold _ c.read.ensures c.in-Ok.is refl refl

pub returns-in-Ok : goal.returns-in-Ok
returns-in-Ok c = checked_printed _ c.read.ensures c.in-Ok.is refl refl c.print_tables.ensures
