-- `put_reply` writes the totals of an accepted order, and the answer. Assumes nothing.
use Rattle.std.proofs.Common.{◌<◌, ◌^◌, ℕ, get_or, ap, refl, rules, Fits, w64, Result}
use Rattle.lists.proofs.Entries.{at_each}
use Rattle.daybook.specs.Orders.{answer_of}
use Rattle.daybook.specs.declared.Refused.{Refused}
use Rattle.records.proofs.Totals.{replied_accepted, replied_refused}
use Rattle.records.proofs.put_reply.Goals as goal

pub returns-in-Ok : goal.returns-in-Ok
returns-in-Ok c =
    let (five, room) = c.requires (ap (λ (f : Result ℕ Refused). (answer_of f).number) c.in-Ok.is) in
    let own : (i : ℕ) → Fits w64 (get_or c.args.reply.day.totals i 0) = λ i. search rules in
    rw c.in-Ok.is
    (replied_accepted c.put_answer.ensures room five (at_each (λ x. x < 2 ^ 64) 0 c.args.reply.day.totals (λ i _. (own i).fits)) c.write_words.ensures)

pub returns-in-Err : goal.returns-in-Err
returns-in-Err c = rw c.in-Err.is (replied_refused (rw c.number.ensures at c.put_answer-in-Err.ensures) refl)
