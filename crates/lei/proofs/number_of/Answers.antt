-- `number_of` compares the LEI with those known in turn. Assumes nothing.
use Rattle.std.proofs.Common.{◌∙◌, rules, tests}
use Rattle.std.proofs.lemmas.Iterator.{YieldsList-from_slice}
use Rattle.std.proofs.lemmas.Iterator.Search.{position_from_yields_List}
use Rattle.lei.specs.Numbering.{same_lei}
use Rattle.lei.proofs.Places.{among_position}
use Rattle.lei.proofs.number_of.Goals as goal

pub returns : goal.returns
unfolding same_lei
returns c =
    let known = c.args.known.now in
    let lei = c.args.lei in
    position_from_yields_List (same_lei lei) _ _ _ c.position.ensures.ran (YieldsList-from_slice known cc) (λ x b q k. search (rules, tests)) ∙ among_position known lei
