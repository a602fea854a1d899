-- `leg_of` is `leg_of`: each field by its own function's promise, and the rate by its law. Assumes nothing.
use Rattle.article.proofs.LegRates.{leg-rates}
use Rattle.article.specs.Pair.{leg_of}
use Rattle.article.proofs.pair.leg_of.Goals as goal

pub returns : goal.returns
unfolding leg_of
returns c = let row = c.row_of-row.ensures in
    let letter = c.from.ensures in
    let period = c.period-period.ensures.0 in
    let rate = c.rate_in.ensures in
    (rw (row, letter, period, rate), λ g. rw (row, letter, period, rate) (leg-rates _ _ g))
