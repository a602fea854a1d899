-- `is_alike` is `alike`. Assumes nothing.
use Rattle.booking.proofs.Tested.{alike_six}
use Rattle.booking.proofs.is_alike.Goals as goal

pub returns : goal.returns
returns c = alike_six _ _
