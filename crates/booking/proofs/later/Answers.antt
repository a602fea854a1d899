-- `later`: no date, not later, or the account on it. Assumes nothing.
use Rattle.std.proofs.Common.{sym, ◌∙◌, arith, rules}
use Rattle.booking.proofs.Opened.{later_unreal, later_back, later_on, date-fits}
use Rattle.booking.proofs.later.Goals as goal

pub returns-then-not-is_date : goal.returns-then-not-is_date
returns-then-not-is_date c = later_unreal (sym c.is_date.ensures ∙ c.if-not-is_date.true)

pub returns-then-to-day : goal.returns-then-to-day
returns-then-to-day c = later_back (sym c.is_date.ensures ∙ c.if-not-is_date.false) c.if-to-day.true

pub overflow_cast-result : goal.overflow_cast-result
overflow_cast-result c =
    let fits = date-fits c.args.to (sym c.is_date.ensures ∙ c.if-not-is_date.false) in
    search (rules, fits)

pub returns : goal.returns
returns c = later_on (sym c.is_date.ensures ∙ c.if-not-is_date.false) (omega (arith, c.if-to-day.false))
