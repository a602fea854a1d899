-- `two_at` is `two_at`: two bytes that are digits are their number. Assumes nothing.
use Rattle.std.proofs.Common.{arith}
use Rattle.dates.proofs.Texts.{two-some}
use Rattle.dates.proofs.text.two_at.Goals as goal

pub returns-clause-value : goal.returns-clause-value
returns-clause-value c =
    let a = c.if-not-is_ascii_digit.ensures.cases in
    let b = c.if-not-is_ascii_digit-2.ensures.cases in
    two-some _ _ _ _ c.digit.ensures (omega (arith, a)) c.digit-2.ensures (omega (arith, b))
