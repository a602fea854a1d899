-- A bond and a strip by the numbers of their kinds. Assumes nothing.
use mathlib.Core.Path.{◌≡◌, sym, ap, ◌∙◌}
use mathlib.Core.Bool.{true, false≢true}
use lib.Dec.{eqb}
use borrow.Author.Tests.{eqb-true}
use Rattle.lists.specs.Choice.{within}
use Rattle.holding.proofs.Ranges.{kind-back}
use Rattle.holding.specs.Holding.{kind_number, kind_of}
use Rattle.holding.specs.declared.Kind.{Kind}
use Rattle.holding.specs.declared.Kind.TheVariants.{Bond}

pub bond-of : (k : Kind) → eqb (kind_number k) 0 ≡ true → k ≡ Bond
unfolding kind_of
bond-of k e = sym (kind-back k) ∙ ap kind_of (eqb-true (kind_number k) 0 e)

pub strip-of : (k : Kind) → within 1 2 (kind_number k) ≡ true → k ≡ Bond → ⊥
unfolding within
strip-of k e b = false≢true (sym (ap (λ (x : Kind). within 1 2 (kind_number x)) b) ∙ e)
