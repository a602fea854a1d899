-- `asked` asks enough, return by return: one law of the estimate for each. Assumes nothing.
use Rattle.marks.proofs.Estimate.{neither-mark, suited_mark, other-mark}
use mathlib.Core.Logic.{inl, inr, ⊎_elim}
use Rattle.marks.proofs.asked.Goals.{then-short-long-via-then-short-long, then-short-long-via-else-short-long+then-short-long-2}
use Rattle.marks.proofs.asked.Goals as goal

pub returns-then-short-cross : goal.returns-then-short-cross
returns-then-short-cross c = other-mark (rw c.if-short-cross.true c.other_class-cross.ensures)

pub returns-then-short-long : goal.returns-then-short-long
returns-then-short-long c = rw c.min.ensures
    (suited_mark (elim c.then-short-long.branch [
      | then-short-long-via-then-short-long w ↦ inl w.if-short-long.true
      | then-short-long-via-else-short-long+then-short-long-2 w ↦ inr w.if-short-long-2.true
    ]))

pub returns : goal.returns
returns c = neither-mark c.other_class-cross.ensures c.if-short-cross.false (⊎_elim c.if-short-long.false c.if-short-long-2.false)
