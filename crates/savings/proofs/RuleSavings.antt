-- A rule that permits nothing saves nothing, and no pair saves more than the most. Assumes nothing.
use mathlib.Core.Path.{◌≡◌, refl}
use mathlib.Core.Bool.{true, false, cond}
use lib.Dec.{eqb}
use Prim.Native.Nat.{ℕ, ◌≤◌}
use native.Mathlib.Omega.{arith}
use Rattle.lists.proofs.Tests.{by-test}
use Rattle.article.specs.Pair.{permits, rule_rate, is_long, is_short, allowed, rule_of, pair_rate_of, saving_rate_of, saving_limit, RateInRange}
use Rattle.article.proofs.Saved.{saving-high}
use Rattle.article.specs.declared.pair.Leg.{Leg}
use Rattle.article.specs.declared.pair.Rule.{Rule}
use Rattle.article.specs.declared.pair.Rule.TheVariants.{Difference, HalfSum, Capped, NotAllowed}
use Rattle.savings.specs.Savings.{rule_saving, saving_of}

-- without a rule that permits there is nothing to save
pub saving-permitted : (r : Rule) (a b : ℕ) → rule_saving r a b ≡ cond (permits r) (rule_saving r a b) 0
unfolding rule_saving rule_rate
saving-permitted Difference a b = refl
saving-permitted HalfSum a b = refl
saving-permitted Capped a b = refl
saving-permitted NotAllowed a b = omega arith

-- no two legs save more than 43,800
pub saved_high : (l s : Leg) → RateInRange l → RateInRange s → saving_of l s ≤ saving_limit
unfolding saving_of
saved_high l s f g = by-test (◌≤ saving_limit) (allowed l s) (λ _. saving-high l s f g) (λ _. omega arith)

-- what a pair saves by its rule, and what no pair does
module _ (l s : Leg) where
  pub paired : RateInRange l → RateInRange s → is_long l ≡ true → is_short s ≡ true → eqb l.period s.period ≡ true
      → (rule_saving (rule_of l s) l.rate s.rate ≡ saving_of l s) × (rule_saving (rule_of l s) l.rate s.rate ≤ saving_limit)
  unfolding saving_of saving_rate_of pair_rate_of rule_saving allowed
  paired f g a b c =
      let same : rule_saving (rule_of l s) l.rate s.rate ≡ saving_of l s = rw (a, b, c) (saving-permitted (rule_of l s) l.rate s.rate) in
      (same, rw same (saved_high l s f g))

  pub unpaired : allowed l s ≡ false → (0 ≡ saving_of l s) × (0 ≤ saving_limit)
  unfolding saving_of
  unpaired e = (rw e, omega arith)

pub ruleset of_a_pair = (paired, unpaired)
