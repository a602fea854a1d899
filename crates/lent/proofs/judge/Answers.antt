-- `judge` checks what is lent, and writes what is accepted. Assumes nothing.
use Rattle.std.proofs.Common.{arith, sym, length-take-le}
use Rattle.lent.specs.Boundary.{make_lent, written_lists, two}
use Rattle.lent.proofs.Checked.{refused_checks, remainder_room, ranking_room, accepted_checks}
use Rattle.lent.proofs.judge.Goals as goal

pub slice_bounds-write_words-end : goal.slice_bounds-write_words-end
unfolding two written_lists
slice_bounds-write_words-end c =
    let room = remainder_room _ _ (make_lent c.args.remainder.now c.args.ranking.now c.args.answer.now) (rw c.holdings-n.ensures at c.lists_too_short-two.ensures)
    c.check.ensures.judges c.in-Accepted.is in
    sym (length-take-le _ _ (omega (arith, c.holdings-n.ensures, room.0)))

pub write_words-requires : goal.write_words-requires
unfolding two written_lists
write_words-requires c =
    let room = remainder_room _ _ (make_lent c.args.remainder.now c.args.ranking.now c.args.answer.now) (rw c.holdings-n.ensures at c.lists_too_short-two.ensures)
    c.check.ensures.judges c.in-Accepted.is in
    rw (length-take-le c.holdings-n.result c.check.new.scratch.left.now (omega (arith, c.holdings-n.ensures, room.0))) (omega (arith, c.holdings-n.ensures, room.1))

pub slice_bounds-write_words-end-in-Accepted : goal.slice_bounds-write_words-end-in-Accepted
unfolding two written_lists
slice_bounds-write_words-end-in-Accepted c =
    let room = ranking_room _ _ (make_lent c.args.remainder.now c.args.ranking.now c.args.answer.now) (rw c.holdings-n.ensures at c.lists_too_short-two.ensures)
    c.check.ensures.judges c.in-Accepted.is in
    sym (length-take-le _ _ (omega (arith, c.holdings-n.ensures, room.0)))

pub write_words-requires-in-Accepted : goal.write_words-requires-in-Accepted
unfolding two written_lists
write_words-requires-in-Accepted c =
    let room = ranking_room _ _ (make_lent c.args.remainder.now c.args.ranking.now c.args.answer.now) (rw c.holdings-n.ensures at c.lists_too_short-two.ensures)
    c.check.ensures.judges c.in-Accepted.is in
    rw (length-take-le c.holdings-n.result c.check.new.scratch.ranks.now (omega (arith, c.holdings-n.ensures, room.0))) (omega (arith, c.holdings-n.ensures, room.1))

pub returns-in-Accepted-clause-checks : goal.returns-in-Accepted-clause-checks
unfolding two written_lists
returns-in-Accepted-clause-checks c =
    accepted_checks _ _ _ (rw c.holdings-n.ensures at c.lists_too_short-two.ensures) c.check.ensures.judges c.in-Accepted.is
    (rw c.holdings-n.ensures at c.write_words.ensures) (rw c.holdings-n.ensures at c.write_words-in-Accepted.ensures) c.put_answer.ensures

pub returns-in-Refused-clause-checks : goal.returns-in-Refused-clause-checks
unfolding two written_lists
returns-in-Refused-clause-checks c =
    refused_checks _ _ _ (rw c.holdings-n.ensures at c.lists_too_short-two.ensures) c.check.ensures.judges c.in-Refused.is c.put_answer-in-Refused.ensures
