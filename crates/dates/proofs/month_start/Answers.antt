-- `month_start` is `month_start` of a common year: the formula has the twelve months and the year's end, and every number is taken for one of these.
-- Assumes nothing.
use Rattle.std.proofs.Common.{◌≡◌, ◌∙◌, cond, leb, le-leb}
use borrow.Author.Tests.{lt-leb}
use Rattle.dates.proofs.Coded.{clamped, coded_start, start_small}
use Rattle.dates.proofs.month_start.Goals.{then-place-le2, else-place-le2}
use Rattle.dates.proofs.month_start.Goals as goal

pub returns : goal.returns
returns c =
    let placed = clamped _ _ c.clamp-place.ensures in
    let shortened : c.if-place-le2.short ≡ cond (leb c.clamp-place.result 2) 0 2 =
    elim c.if-place-le2.branch [
      | then-place-le2 w ↦ rw (w.short-is, le-leb _ _ w.if-place-le2.true)
      | else-place-le2 w ↦ rw (w.short-is, lt-leb _ _ w.if-place-le2.false)
    ] in
    let right = coded_start _ _ shortened placed.to ∙ placed.same in
    (right, rw right (start_small _))
