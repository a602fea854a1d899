-- The page specs/Bookings.antt, proved. Assumes nothing.
use mathlib.Core.Path.{refl}
use mathlib.Core.Bool.{Bool}
use borrow.Author.Tests.{eqb-true, eq-eqb}
use Rattle.holding.specs.declared.Row.{Row}
use Rattle.daybook.specs.Book.{head_of, account_at, Book, holdings_in}
use Rattle.daybook.specs.Orders.{outcome, accepted, booked}
use Rattle.daybook.specs.Bookings.{InOrder, OfOrder, Booking, BookNames, Bookings}
use Rattle.daybook.specs.declared.Order.{Order, TheVariants.Add, TheVariants.Take, TheVariants.MoveTo}
use Rattle.daybook.proofs.Descriptions.{one-description}
use Rattle.daybook.proofs.Trades.{taken_none}
use Rattle.daybook.proofs.Holdings.{place_at, held_at, no_holding, no_place, nothing_held}
use Rattle.daybook.proofs.Checked.{checked}
use Rattle.daybook.proofs.Adding.{add-described, adding}
use Rattle.daybook.proofs.Taking.{take-described, taking}
use Rattle.daybook.proofs.Moving.{moving}
use Rattle.daybook.proofs.NoOther.{one_only}

module _ (short : Bool) (b : Book) where
  ordered : (o : Order Row) → InOrder short b → OfOrder b (outcome short b o) (booked short b o) o
  ordered (Add t) i = (add-described short b i t, adding short b i t)
  ordered (Take t) i = (take-described short b i t, taking short b i t)
  ordered (MoveTo to) i = moving short b i to

  booking : (o : Order Row) → Booking b (outcome short b o) (booked short b o) short o
  booking o = record { at_first = checked short b o; next = ordered o }

names : (b : Book) (t : Row) → BookNames b t
unfolding account_at head_of
names b t = record {
  account_at_lem = refl;
  holdings_in_lem = unfold holdings_in in refl;
  place = λ fit. place_at b fit t;
  held = λ fit. held_at b fit t;
  no_place = λ fit. no_place b fit t;
  none_held = λ fit. nothing_held b fit t;
  none_taken = λ fit n. taken_none t (holdings_in b) (no_holding b fit t n);
}

pub bookings : Bookings
unfolding accepted
bookings = record {
  outcomes = booking;
  no_other = λ short b o answer after p. one_only short b o answer (outcome short b o) after (booked short b o) p (booking short b o);
  is_accepted = λ short b o. (eqb-true (outcome short b o).number 0, eq-eqb (outcome short b o).number 0);
  names = names;
  descriptions = one-description;
  findings = λ m r n. record { new_count = refl; refusal = refl };
}
