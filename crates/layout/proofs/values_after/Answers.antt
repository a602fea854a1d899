-- `values_after` reads the fields in turn. Assumes nothing.
use Rattle.std.proofs.Common.{◌≡◌, ◌∙◌, ap, arith, [], get_or, drop}
use Rattle.rfc4180.specs.Reading.{field_count, texts_in}
use Rattle.layout.specs.Layout.{place_by, value_of, sorts_by}
use Rattle.layout.specs.declared.Sort.{Sort, TheVariants.Empty}
use Rattle.layout.proofs.Found.{finding_none, finding_more, finding_wrong, finding_all, texts-after, value_after}
use Rattle.std.proofs.lemmas.List.{get_or_default}
use Rattle.layout.proofs.Letters.{length_sorts}
use Rattle.layout.proofs.values_after.Goals.{in-Ok, in-Err}
use Rattle.layout.proofs.values_after.Goals as goal

pub loop-j-init : goal.loop-j-init
loop-j-init c = finding_none _ _ _ (texts-after _ _) c.told-fields

pub loop-j-preserved : goal.loop-j-preserved
loop-j-preserved c =
    let k = place_by c.args.letter in
    let texts = drop 1 (texts_in c.args.text.now field_count c.args.spans.now) in
    let value : value_of (get_or (sorts_by k) c.loop-j.j Empty) (get_or texts c.loop-j.j []) ≡ c.value_in.result =
    value_after _ _ k c.loop-j.j
    (c.value_in.ensures ∙ rw c.sorts_of-sorts.ensures (ap (λ (s : Sort). value_of s c.field.result.now) (get_or_default (sorts_by k) c.loop-j.j _ Empty (omega (arith, length_sorts k)))))
    c.field.ensures in
    elim c.match-value_in.branch [
      | in-Ok w ↦ rw (w.fields-is, w.found-is) (finding_more c.loop-j.invariant (omega arith) _ (value ∙ w.in-Ok.is))
      | in-Err w ↦ rw (w.fields-is, w.found-is, w.sooner-found.ensures) (finding_wrong c.loop-j.invariant (omega arith) _ (value ∙ w.in-Err.is))
    ]

pub returns : goal.returns
returns c = finding_all c.loop-j.invariant (omega arith)
