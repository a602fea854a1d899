-- `place_in` finds the first place whose text is this one. Assumes nothing.
use Rattle.std.proofs.Common.{rules}
use Rattle.std.proofs.lemmas.Iterator.{first_from_Range}
use Rattle.codes.proofs.Cells.{Here, Other, test_here, test_other, place_found}
use Rattle.codes.proofs.place_in.Goals as goal

pub returns : goal.returns
returns c =
    let text = c.args.text.now in
    let table = c.args.table.now in
    let width = c.args.width in
    place_found text table width c.args.count _
    (first_from_Range _ _ _ _ (Here text table width) (Other text table width) c.find.ensures.ran
    (λ n q k. search (rules, test_here text table width n))
    (λ n q k. search (rules, test_other text table width n)))
