-- `move_to` judges a move, which changes no record, and puts the reply. Assumes nothing.
use Rattle.std.proofs.Common.{◌<◌, refl}
use Rattle.lists.proofs.Entries.{at_each}
use Rattle.records.specs.Records.{make_slices}
use Rattle.records.proofs.Booked.{room, books_moved}
use Rattle.records.proofs.move_to.Goals as goal

pub put_reply-requires : goal.put_reply-requires
put_reply-requires c =
    room (make_slices c.args.list.now c.args.totals.now c.args.answer.now) c.too_short-short.ensures c.day_of-day.ensures c.judge-outcome.ensures.1

pub returns : goal.returns
returns c =
    books_moved (make_slices c.args.list.now c.args.totals.now c.args.answer.now) c.too_short-short.ensures c.day_of-day.ensures c.judge-outcome.ensures.1
    c.args.to refl (at_each (λ x. x < 256) 0 c.args.list.now (λ i _. (c.type_inv.list i).fits)) c.put_reply.ensures
