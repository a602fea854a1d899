-- `see`: a fault with its place, or what a holding without fault adds. Assumes nothing.
use Rattle.std.proofs.Common.{◌-◌, refl, sym, ◌∙◌, arith}
use Rattle.holding.proofs.Rows.{made_row, refused-row}
use Rattle.booking.proofs.Rows.{made-margin, made-high, made-period}
use Rattle.booking.proofs.Seen.{seen-fault, seen-counted, totals-next, counted-here, counted_past, counted_later}
use Rattle.booking.proofs.see.Goals as goal

pub returns-in-Err : goal.returns-in-Err
returns-in-Err c = λ rows l seen.
    let (number, other) = refused-row c.holding_of.ensures c.in-Err.is in
    seen-fault seen _ l number other

pub overflow_mul-margin : goal.overflow_mul-margin
overflow_mul-margin c = omega (arith, made-high c.holding_of.ensures c.in-Ok.is c.requires.valued c.rate_in.ensures)

pub overflow_add-next : goal.overflow_add-next
overflow_add-next c =
    let low = c.requires.low (c.period-period.result - 1) in
    omega (arith, made-high c.holding_of.ensures c.in-Ok.is c.requires.valued c.rate_in.ensures, low, c.requires.few)

-- equal to the trade, and the first; not equal, and none before it; or one before it is equal
pub returns-then-is_alike : goal.returns-then-is_alike
returns-then-is_alike c = λ rows l seen.
    let built = c.in-Ok.is in
    let builds = c.holding_of.ensures in
    seen-counted seen _ (made_row builds built).1
    (counted-here seen _ l c.if-next-i.true (sym c.is_alike.ensures ∙ c.if-is_alike.true) refl refl
    (totals-next seen _ (omega (arith, c.period-period.ensures)) (made-period builds built c.period-period.ensures.0 (omega (arith, c.period-period.ensures)))
    (made-margin builds built c.rate_in.ensures)))

pub returns-else-is_alike : goal.returns-else-is_alike
returns-else-is_alike c = λ rows l seen.
    let built = c.in-Ok.is in
    let builds = c.holding_of.ensures in
    seen-counted seen _ (made_row builds built).1
    (counted_past seen _ l c.if-next-i.true (sym c.is_alike.ensures ∙ c.if-is_alike.false) refl refl
    (totals-next seen _ (omega (arith, c.period-period.ensures)) (made-period builds built c.period-period.ensures.0 (omega (arith, c.period-period.ensures)))
    (made-margin builds built c.rate_in.ensures)))

pub returns-else-next-i : goal.returns-else-next-i
returns-else-next-i c = λ rows l seen.
    let built = c.in-Ok.is in
    let builds = c.holding_of.ensures in
    seen-counted seen _ (made_row builds built).1
    (counted_later seen _ l c.if-next-i.false refl refl
    (totals-next seen _ (omega (arith, c.period-period.ensures)) (made-period builds built c.period-period.ensures.0 (omega (arith, c.period-period.ensures)))
    (made-margin builds built c.rate_in.ensures)))
