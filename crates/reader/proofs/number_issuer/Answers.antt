-- `number_issuer` leaves a government's number, and finds or enters a corporation's LEI. Assumes nothing.
use Rattle.std.proofs.Common.{length-take, sym, ◌∙◌, arith, rules}
use Rattle.lei.proofs.Places.{among-known}
use Rattle.reader.proofs.Numbering.{record-other, record_known, record_new}
use Rattle.reader.proofs.number_issuer.Goals as goal

pub returns-then-record-ne100-clause-numbers : goal.returns-then-record-ne100-clause-numbers
returns-then-record-ne100-clause-numbers c = record-other _ (omega arith) _ c.if-record-ne100.true

pub overflow_add-record : goal.overflow_add-record
overflow_add-record c =
    let (_, within) = among-known _ _ _ (sym c.number_of.ensures ∙ c.in-Some.is) in
    search (rules, within, length-take)

pub returns-in-Some-clause-numbers : goal.returns-in-Some-clause-numbers
returns-in-Some-clause-numbers c = record_known _ (omega arith) c.if-record-ne100.false _ _ (sym c.number_of.ensures ∙ c.in-Some.is)

pub returns-clause-numbers : goal.returns-clause-numbers
returns-clause-numbers c = record_new _ (omega arith) c.if-record-ne100.false _ _ c.requires (sym c.number_of.ensures ∙ c.in_default.is)
