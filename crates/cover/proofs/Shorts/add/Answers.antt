-- `add` adds a short. Assumes nothing.
use Rattle.std.proofs.Common.{refl, ◌∙◌}
use Rattle.article.specs.Pair.{is_bond}
use Rattle.cover.proofs.Shorts.add.Goals as goal

pub returns : goal.returns
unfolding is_bond
returns c = record {
  strip = c.strip_mark.result;
  sought = λ e. c.strip_mark.ensures e ∙ c.mark_of-mark.ensures;
  low = rw c.scan_rate.ensures.0 at c.scan_rate.ensures.1;
  count = refl;
  marks = rw (c.across_mark.ensures, c.mark_of-mark.ensures) refl;
  strips = refl;
  rates = rw c.scan_rate.ensures.0 refl;
  prices = refl;
}
