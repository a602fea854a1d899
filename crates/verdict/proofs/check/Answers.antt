-- `check` hands over the first fault, or the figures. Assumes nothing.
use Rattle.verdict.specs.Judges.{Found}
use Rattle.verdict.proofs.Judged.{refusal-judged, figures-judged}
use Rattle.verdict.proofs.check.Goals as goal

pub returns-in-Ok-clause-judges : goal.returns-in-Ok-clause-judges
unfolding Found
returns-in-Ok-clause-judges c =
    let found = rw c.in-Ok.is at c.total_units-found.ensures in
    figures-judged _ _ _ _ _ _ _ found.0 found.1 c.cents_of.ensures found.2

pub returns-in-Err-clause-judges : goal.returns-in-Err-clause-judges
unfolding Found
returns-in-Err-clause-judges c =
    let found = rw c.in-Err.is at c.total_units-found.ensures in
    rw c.refused.ensures (refusal-judged _ _ _ _ _ _ found)
