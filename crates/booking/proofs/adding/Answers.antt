-- `adding`: refused, to the first equal holding, or joined at the end. Assumes nothing.
use Rattle.std.proofs.Common.{◌*◌, ◌≤◌, sym, refl, arith}
use native.Mathlib.Nat.{mul-le-mul}
use borrow.Author.Tests.{eq-eqb}
use Rattle.daybook.specs.Orders.{whole}
use Rattle.proposal.specs.Submission.{margin_limit}
use Rattle.booking.proofs.Refusals.{handed_on}
use Rattle.booking.proofs.Changed.{fits_none, fits_put}
use Rattle.booking.proofs.Tested.{adds-value, adds-sum, adds-room}
use Rattle.booking.proofs.Settling.{place-there, adding-refused, adding-there, adding-joined}
use Rattle.booking.proofs.Tradable.{adding_undescribed, raises, tradable-there, rated_in}
use Rattle.booking.proofs.adding.Goals as goal

pub returns-in_err-place : goal.returns-in_err-place
returns-in_err-place c =
    rw (handed_on _ (whole _) c.from_residual.ensures.1) (record {
      fits = λ _. fits_none;
      settled = λ w rows traded. adding_undescribed _ _ c.in_err-place.ensures.number w;
    })

pub returns-in_err-adding_fault : goal.returns-in_err-adding_fault
returns-in_err-adding_fault c =
    rw (handed_on _ (whole _) c.from_residual-in_err-adding_fault.ensures.1) (record {
      fits = λ _. fits_none;
      settled = λ w rows traded. adding-refused traded (rated_in c.in_ok-place.ensures _ w) c.in_err-adding_fault.ensures refl;
    })

pub overflow_add-change : goal.overflow_add-change
overflow_add-change c = omega (arith, adds-sum _ _ _ _ _ (sym c.in_ok-adding_fault.ensures))

pub overflow_mul-next : goal.overflow_mul-next
overflow_mul-next c =
    let raise = raises c.in_ok-place.ensures c.requires in
    let margin : c.in_ok-place.field-0.rate * c.args.t.value ≤ margin_limit = mul-le-mul raise.high (adds-value _ _ _ _ _ (sym c.in_ok-adding_fault.ensures)) in
    omega (arith, margin)

pub overflow_add-next : goal.overflow_add-next
overflow_add-next c =
    let raise = raises c.in_ok-place.ensures c.requires in
    let margin : c.in_ok-place.field-0.rate * c.args.t.value ≤ margin_limit = mul-le-mul raise.high (adds-value _ _ _ _ _ (sym c.in_ok-adding_fault.ensures)) in
    omega (arith, margin, raise.low)

pub returns-then-joins : goal.returns-then-joins
returns-then-joins c = record {
  fits = λ h. fits_put (omega (arith, c.if-joins.true, adds-room _ _ _ _ _ (sym c.in_ok-adding_fault.ensures) (eq-eqb _ _ c.if-joins.true)));
  settled = λ w rows traded.
      adding-joined traded (rated_in c.in_ok-place.ensures _ w) c.if-joins.true c.in_ok-adding_fault.ensures (c.in_ok-place.ensures.place _ refl) refl;
}

pub returns-else-joins : goal.returns-else-joins
returns-else-joins c = record {
  fits = λ h. fits_put (omega (arith, tradable-there c.requires c.if-joins.false));
  settled = λ w rows traded.
      adding-there traded (rated_in c.in_ok-place.ensures _ w) (place-there traded c.if-joins.false) c.in_ok-adding_fault.ensures
      (c.in_ok-place.ensures.place _ refl) refl;
}
