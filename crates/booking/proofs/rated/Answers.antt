-- `rated`: a description with a fault, or its place and its rate. Assumes nothing.
use Rattle.std.proofs.Common.{arith}
use Rattle.refusals.proofs.Refusals.{handed_on}
use Rattle.booking.proofs.Tradable.{rates_none, rates_at}
use Rattle.booking.proofs.rated.Goals as goal

pub returns-in_err-h : goal.returns-in_err-h
returns-in_err-h c = rw (handed_on _ _ c.from_residual.ensures.1) (rates_none c.args.t c.in_err-h.ensures)

pub returns : goal.returns
returns c = rates_at c.args.t c.in_ok-h.ensures c.period-period.ensures.0 (omega (arith, c.period-period.ensures)) (omega (arith, c.period-period.ensures)) c.rate_in.ensures
