-- `taking`: refused, from the first equal holding, or all of it. Assumes nothing.
use Rattle.std.proofs.Common.{◌*◌, ◌≤◌, ◌<◌, arith}
use native.Mathlib.Nat.{mul-le-mul_left}
use Rattle.daybook.specs.Orders.{whole}
use Rattle.booking.proofs.Refusals.{handed_on}
use Rattle.booking.proofs.Changed.{fits_none, fits_put, fits_close}
use Rattle.booking.proofs.Settling.{takes_zero, takes-more, taking-refused, taking-there, taking-whole}
use Rattle.booking.proofs.Tradable.{taking_undescribed, lowers, rated_in}
use Rattle.booking.proofs.taking.Goals as goal

pub returns-in_err-at : goal.returns-in_err-at
returns-in_err-at c =
    rw (handed_on _ (whole _) c.from_residual.ensures.1) (record {
      fits = λ room h. fits_none;
      settled = λ w room rows traded. taking_undescribed _ _ c.in_err-at.ensures.number w;
    })

pub returns-then-value-eq0 : goal.returns-then-value-eq0
returns-then-value-eq0 c =
    rw c.from.ensures (record {
      fits = λ room h. fits_none;
      settled = λ w room rows traded. taking-refused traded (rated_in c.in_ok-at.ensures _ w) (takes_zero _ _ c.if-value-eq0.true);
    })

pub returns-then-value-held : goal.returns-then-value-held
returns-then-value-held c =
    rw c.from-then-value-held.ensures (record {
      fits = λ room h. fits_none;
      settled = λ w room rows traded. taking-refused traded (rated_in c.in_ok-at.ensures _ w) (takes-more _ _ c.if-value-held.true);
    })

pub overflow_mul-next : goal.overflow_mul-next
overflow_mul-next c =
    let lower = lowers c.in_ok-at.ensures c.requires in
    let margin : c.in_ok-at.at.rate * c.args.t.value ≤ c.in_ok-at.at.rate * c.args.scan.held = mul-le-mul_left c.in_ok-at.at.rate c.if-value-held.false in
    omega (arith, margin, lower.enough, lower.low)

pub overflow_sub-next : goal.overflow_sub-next
overflow_sub-next c =
    let lower = lowers c.in_ok-at.ensures c.requires in
    let margin : c.in_ok-at.at.rate * c.args.t.value ≤ c.in_ok-at.at.rate * c.args.scan.held = mul-le-mul_left c.in_ok-at.at.rate c.if-value-held.false in
    omega (arith, margin, lower.enough)

pub overflow_sub-next-then-value-held-2 : goal.overflow_sub-next-then-value-held-2
overflow_sub-next-then-value-held-2 c =
    let lower = lowers c.in_ok-at.ensures c.requires in
    let there : c.args.scan.at < c.args.day.count = lower.there (omega arith) in
    omega arith

pub overflow_add-change : goal.overflow_add-change
overflow_add-change c =
    let lower = lowers c.in_ok-at.ensures c.requires in
    let there : c.args.scan.at < c.args.day.count = lower.there (omega arith) in
    omega (arith, c.requires.few, c.requires.count)

pub returns-then-value-held-2 : goal.returns-then-value-held-2
returns-then-value-held-2 c =
    let lower = lowers c.in_ok-at.ensures c.requires in
    let margin : c.in_ok-at.at.rate * c.args.t.value ≤ c.in_ok-at.at.rate * c.args.scan.held = mul-le-mul_left c.in_ok-at.at.rate c.if-value-held.false in
    let there : c.args.scan.at < c.args.day.count = lower.there (omega arith) in
    record {
      fits = λ room h. fits_close (omega arith) (omega arith) h;
      settled = λ w room rows traded.
          taking-whole traded (rated_in c.in_ok-at.ensures _ w) (omega arith) c.if-value-held.false _ there c.if-value-held-2.true lower.place
          (omega (arith, margin, lower.enough));
    }

pub returns-else-value-held-2 : goal.returns-else-value-held-2
returns-else-value-held-2 c =
    let lower = lowers c.in_ok-at.ensures c.requires in
    let margin : c.in_ok-at.at.rate * c.args.t.value ≤ c.in_ok-at.at.rate * c.args.scan.held = mul-le-mul_left c.in_ok-at.at.rate c.if-value-held.false in
    let there : c.args.scan.at < c.args.day.count = lower.there (omega arith) in
    record {
      fits = λ room h. fits_put (omega arith);
      settled = λ w room rows traded.
          taking-there traded (rated_in c.in_ok-at.ensures _ w) (omega arith) c.if-value-held.false _ there (omega arith) lower.place
          (omega (arith, margin, lower.enough));
    }
