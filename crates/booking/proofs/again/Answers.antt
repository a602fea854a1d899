-- `again`: no date, or the account on it; nothing for other orders. Assumes nothing.
use Rattle.std.proofs.Common.{sym, ◌∙◌, rules}
use Rattle.booking.proofs.Opened.{again_on, date-fits}
use Rattle.booking.proofs.again.Goals as goal

pub overflow_cast-result : goal.overflow_cast-result
overflow_cast-result c =
    let fits = date-fits c.in-MoveTo.to (sym c.is_date.ensures ∙ c.if-not-is_date.false) in
    search (rules, fits)

pub returns-else-not-is_date : goal.returns-else-not-is_date
returns-else-not-is_date c = rw c.in-MoveTo.is (again_on (sym c.is_date.ensures ∙ c.if-not-is_date.false))
