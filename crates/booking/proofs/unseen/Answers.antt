-- `unseen` has seen nothing. Assumes nothing.
use Rattle.std.proofs.Common.{refl}
use Rattle.booking.proofs.Seen.{seen_none}
use Rattle.booking.proofs.unseen.Goals as goal

pub returns : goal.returns
returns c = λ a t. seen_none a t _ refl refl refl
