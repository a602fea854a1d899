-- Laws of a pair's rate and of what it saves. Assumes nothing.
use mathlib.Core.Path.{◌≡◌}
use mathlib.Core.Bool.{true, false≢true}
use Prim.Native.Nat.{ℕ, ◌+◌, ◌*◌, ◌≤◌, min, max}
use native.Mathlib.Omega.{arith}
use Rattle.rates.specs.Rate.{rate_of}
use Rattle.rates.proofs.Rates.{rate_even}
use Rattle.holding.specs.declared.Holding.{Holding}
use Rattle.holding.specs.declared.Account.{Account}
use Rattle.article.specs.Pair.{rule_rate, permits, pair_rate_of, saving_rate_of, rule_of, rate_limit}
use Rattle.article.specs.declared.pair.Rule.{Rule}
use Rattle.article.specs.declared.pair.Rule.TheVariants.{Difference, HalfSum, Capped, NotAllowed}
use Rattle.article.specs.declared.pair.Leg.{Leg}

-- the difference is the excess of the greater rate over the lesser, never negative
pub difference_excess : (a b : ℕ) → min a b + rule_rate Difference a b ≡ max a b
unfolding rule_rate
difference_excess a b = omega arith

-- half the sum of two holdings' rates is exact
pub half_exact : (a : Account) (l s : Holding) → 2 * rule_rate HalfSum (rate_of a l) (rate_of a s) ≡ rate_of a l + rate_of a s
unfolding rule_rate
half_exact a l s =
    let (k, e) = rate_even a l in
    let (m, f) = rate_even a s in
    omega arith

pub rule_rate_le : (r : Rule) (a b : ℕ) → rule_rate r a b ≤ a + b
unfolding rule_rate
rule_rate_le Difference a b = omega arith
rule_rate_le HalfSum a b = omega arith
rule_rate_le Capped a b = omega arith
rule_rate_le NotAllowed a b = omega arith

-- a pair's rate and its saving rate are together the two rates
pub rate-and-saving : (l s : Leg) → pair_rate_of l s + saving_rate_of l s ≡ l.rate + s.rate
unfolding saving_rate_of pair_rate_of
rate-and-saving l s = omega (arith, rule_rate_le (rule_of l s) l.rate s.rate)

-- a rule that permits makes no rate above the article's highest
pub permitted-high : (r : Rule) (a b : ℕ) → permits r ≡ true → a ≤ rate_limit → b ≤ rate_limit → rule_rate r a b ≤ rate_limit
unfolding rule_rate
permitted-high Difference a b p f g = omega arith
permitted-high HalfSum a b p f g = omega arith
permitted-high Capped a b p f g = omega arith
permitted-high NotAllowed a b p f g = absurd (false≢true p)
