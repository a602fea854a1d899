-- `margins_of` writes the margins and adds them up. Assumes nothing.
use Rattle.std.proofs.Common.{◌≡◌, refl, ap, ◌∙◌, List, ℕ, ◌+◌, ◌*◌, ◌≤◌, ◌<◌, arith, rules}
use Rattle.std.proofs.Math.Nat.{mul-le-mul}
use Rattle.std.proofs.Math.ListN.{set}
use Rattle.lists.specs.Tables.{sum_to, list_to, front}
use Rattle.lists.proofs.Overwrite.{front-more}
use Rattle.lists.proofs.Sums.{sum_to-more}
use Rattle.article.specs.declared.pair.Leg.{Leg}
use Rattle.proposal.specs.Submission.{margin_limit}
use Rattle.packed.specs.Packed.{leg_at, entry}
use Rattle.figures.specs.Margins.{MarginsLent, left_margin, Margins}
use Rattle.figures.proofs.margins_of.Goals as goal

-- the margin of a holding, by its leg
module _ {n : ℕ} {legs left old : List ℕ} (lent : MarginsLent n legs left old) {i : ℕ} (h : i < n) {leg : Leg} (e : leg ≡ leg_at legs i) where
  high : leg.rate * entry left i ≤ margin_limit
  high = rw e (mul-le-mul (lent.bounded.rate i h).high (lent.left_high i h))

  is-left : leg.rate * entry left i ≡ left_margin legs left i
  unfolding left_margin
  is-left = rw e

  more : {margins : List ℕ} {total : ℕ} → Margins i legs left old margins total
      → Margins (i + 1) legs left old (set margins i (leg.rate * entry left i)) (total + leg.rate * entry left i)
  more {margins} {total} m = record {
    each = front-more i _ _ margins old (omega (arith, lent.margins_held)) is-left m.each;
    sum = ap (λ (x : ℕ). total + x) is-left ∙ sum_to-more _ i total m.sum;
    sum_high = omega (arith, high, m.sum_high);
  }

pub loop-i-init : goal.loop-i-init
unfolding sum_to list_to front
loop-i-init c = (refl, record { each = refl; sum = refl; sum_high = omega arith })

pub loop-i-preserved : goal.loop-i-preserved
loop-i-preserved c = (search rules, more c.requires c.loop-i-test.true c.leg_in-leg.ensures c.loop-i.invariant.1)
