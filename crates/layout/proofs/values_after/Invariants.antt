-- `values_after`: the first j values are found, or a refusal among them. Assumes nothing.
use Rattle.std.proofs.Common.{drop}
use Rattle.refusals.specs.Refusals.{refused_by}
use Rattle.rfc4180.specs.Reading.{field_count, texts_in}
use Rattle.layout.specs.Layout.{place_by}
use Rattle.layout.proofs.Found.{Finding}
use Rattle.layout.proofs.values_after.Given as goal

abbrev pub invariant-loop-j : goal.invariant-loop-j
invariant-loop-j l = Finding (place_by l.fn.letter) (drop 1 (texts_in l.text field_count l.spans)) l.fields (refused_by l.found) l.j
