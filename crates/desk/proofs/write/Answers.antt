-- `write` leaves the list as it is, puts a holding at its place, or moves entries up. Assumes nothing.
use Rattle.std.proofs.Common.{◌∙◌}
use Rattle.booking.specs.Seeing.{changed}
use Rattle.booking.proofs.Changed.{moved_within}
use Rattle.desk.proofs.write.Goals as goal

pub returns-in-Stay : goal.returns-in-Stay
unfolding changed
returns-in-Stay c = rw c.in-Stay.is

pub returns-in-Put : goal.returns-in-Put
unfolding changed
returns-in-Put c = rw (c.in-Put.is, c.put_of.ensures)

pub returns-in-CloseUp : goal.returns-in-CloseUp
unfolding changed
returns-in-CloseUp c =
    let fits = c.requires in
    let is = c.in-CloseUp.is in
    rw is (c.copy_within.ensures.after ∙ moved_within _ _ c.args.list.now (fits.moves _ _ is) (fits.until _ _ is))
