-- `lines` counts by the first column. Assumes nothing.
use Rattle.std.proofs.Common.{refl}
use Rattle.words.specs.Words.{entries}
use Rattle.columns.specs.Columns.{count_in}
use Rattle.columns.proofs.Columns.lines.Goals as goal

pub returns : goal.returns
unfolding count_in entries
returns c = rw (← c.self.view_is) refl
