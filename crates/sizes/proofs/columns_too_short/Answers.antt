-- `columns_too_short` compares each list with what it must hold. Assumes nothing.
use Rattle.std.proofs.Common.{sym}
use Rattle.sizes.proofs.Sizes.{short-tested}
use Rattle.sizes.proofs.columns_too_short.Goals as goal

pub returns : goal.returns
returns c = sym (short-tested _ _ _)
