-- `book` judges an order, writes the change and puts the reply. Assumes nothing.
use Rattle.std.proofs.Common.{◌<◌, ℕ, get_or, rules, Fits, w8}
use Rattle.lists.proofs.Entries.{at_each}
use Rattle.records.specs.Records.{make_slices}
use Rattle.records.proofs.Booked.{room, books_written}
use Rattle.records.proofs.book.Goals as goal

pub put_reply-requires : goal.put_reply-requires
put_reply-requires c =
    room (make_slices c.args.list.now c.args.totals.now c.args.answer.now) c.too_short-short.ensures c.day_of-day.ensures c.judge-outcome.ensures.1

pub returns : goal.returns
returns c =
    let own : (i : ℕ) → Fits w8 (get_or c.args.list.now i 0) = λ i. search rules in
    books_written (make_slices c.args.list.now c.args.totals.now c.args.answer.now) c.too_short-short.ensures c.day_of-day.ensures c.judge-outcome.ensures.1
    (at_each (λ x. x < 256) 0 c.args.list.now (λ i _. (own i).fits))
    (at_each (λ x. x < 256) 0 c.write.new.list (λ i _. (c.type_inv.list i).fits))
    c.trade_of.ensures c.write.ensures c.put_reply.ensures
