-- `shorts_of` fills the parts: each turn passes a holding, or adds one more short to the part of its period. Assumes nothing.
use Rattle.std.proofs.Common.{refl}
use Rattle.cover.specs.Cover.{part_of}
use Rattle.cover.proofs.Parts.{parting_other, parting_more}
use Rattle.cover.proofs.book.Book.shorts_of.Goals as goal
use Rattle.cover.proofs.book.Book.shorts_of.Goals.{then-leg-eq1, else-leg-eq1}

pub loop-j-preserved : goal.loop-j-preserved
unfolding part_of
loop-j-preserved g c =
    let parting = c.loop-j.invariant in
    let leg = c.leg_in-leg.ensures in
    let taken = c.loop-j-test.true in
    elim c.if-leg-eq1.branch [
      | then-leg-eq1 w ↦ rw w.parts-is (parting_more parting leg taken refl w.word.ensures w.add.ensures)
      | else-leg-eq1 w ↦ rw w.parts-is (parting_other parting leg taken w.if-leg-eq1.false)
    ]
