-- `parsed_in` judges a record: the count of its fields, its letter, the values after it, its rating. Assumes nothing.
use Rattle.std.proofs.Common.{[], ap}
use Rattle.refusals.specs.Refusals.{refused_by}
use Rattle.refusals.proofs.Refusals.{handed_on, not_refused}
use Rattle.layout.proofs.Parsing.{parsed_unknown, parsed-wrong, parsed-misrated, parsed-good}
use Rattle.layout.proofs.parsed_in.Goals as goal

pub returns-in_default : goal.returns-in_default
returns-in_default c = parsed_unknown _ _ _ c.if-count-ne-FIELDS.false c.field.ensures _ c.letter_in.ensures c.in_default.is []

pub returns-in_err-values_after : goal.returns-in_err-values_after
returns-in_err-values_after c =
    rw (handed_on c.from_residual.result _ c.from_residual.ensures.1)
    (parsed-wrong _ _ _ c.if-count-ne-FIELDS.false c.field.ensures _ c.letter_in.ensures c.in-Some.is _ _ c.values_after.ensures _ (ap refused_by c.in_err-values_after.was) [])

pub returns-then-misrated : goal.returns-then-misrated
returns-then-misrated c =
    parsed-misrated _ _ _ c.if-count-ne-FIELDS.false c.field.ensures _ c.letter_in.ensures c.in-Some.is _ _ c.values_after.ensures
    (not_refused c.in_ok-values_after.was) _ c.misrated.ensures c.if-misrated.true []

pub returns : goal.returns
returns c =
    parsed-good _ _ _ c.if-count-ne-FIELDS.false c.field.ensures _ c.letter_in.ensures c.in-Some.is _ _ c.values_after.ensures
    (not_refused c.in_ok-values_after.was) _ c.misrated.ensures c.if-misrated.false
    c.field-2.ensures c.lei_of-record.ensures
