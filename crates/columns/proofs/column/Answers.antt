-- `column` hands out the first entries of a column. Assumes nothing.
use Rattle.std.proofs.Math.Nat.{add-sub_cancel_left}
use Rattle.columns.specs.Columns.{column_in}
use Rattle.columns.proofs.column.Goals as goal

pub returns : goal.returns
unfolding column_in
returns c = simp add-sub_cancel_left
