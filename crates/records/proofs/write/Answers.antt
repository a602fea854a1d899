-- `write` leaves the records as they are, puts one at its place, or moves records up. Assumes nothing.
use Rattle.std.proofs.Common.{refl, arith}
use Rattle.booking.specs.Seeing.{changed}
use Rattle.daybook.specs.Book.{valued}
use Rattle.records.proofs.Rows.{whole}
use Rattle.records.proofs.Rewriting.{still, moved_records, until_end}
use Rattle.records.proofs.write.Goals as goal

pub returns-in-Stay : goal.returns-in-Stay
unfolding changed
returns-in-Stay c = rw c.in-Stay.is (still refl)

pub put_row-requires : goal.put_row-requires
put_row-requires c = whole c.args.list.now _ (c.requires.put _ _ c.in-Put.is)

pub returns-in-Put : goal.returns-in-Put
unfolding changed valued
returns-in-Put c = rw c.in-Put.is c.put_row.ensures

pub overflow_mul-first : goal.overflow_mul-first
overflow_mul-first c =
    let is = c.in-CloseUp.is in
    omega (arith, c.requires.moves _ _ is, until_end c.args.list.now _ (c.requires.until _ _ is))

pub overflow_mul-end : goal.overflow_mul-end
overflow_mul-end c =
    let is = c.in-CloseUp.is in
    omega (arith, until_end c.args.list.now _ (c.requires.until _ _ is))

pub overflow_mul-first-in-CloseUp : goal.overflow_mul-first-in-CloseUp
overflow_mul-first-in-CloseUp c =
    let is = c.in-CloseUp.is in
    omega (arith, c.requires.moves _ _ is, until_end c.args.list.now _ (c.requires.until _ _ is))

pub copy_within-requires-clause-in_bounds : goal.copy_within-requires-clause-in_bounds
copy_within-requires-clause-in_bounds c =
    let is = c.in-CloseUp.is in
    omega (arith, until_end c.args.list.now _ (c.requires.until _ _ is))

pub copy_within-requires-clause-dest_in_bounds : goal.copy_within-requires-clause-dest_in_bounds
copy_within-requires-clause-dest_in_bounds c =
    let is = c.in-CloseUp.is in
    omega (arith, c.requires.from _ _ is, c.requires.moves _ _ is, until_end c.args.list.now _ (c.requires.until _ _ is))

pub returns-in-CloseUp : goal.returns-in-CloseUp
unfolding changed
returns-in-CloseUp c =
    let fits = c.requires in
    let is = c.in-CloseUp.is in
    rw is (moved_records _ _ c.args.list.now (fits.from _ _ is) (fits.moves _ _ is) (until_end _ _ (fits.until _ _ is)) c.copy_within.ensures.after)
