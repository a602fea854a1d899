-- What two legs save as a pair. Assumes nothing.
use Rattle.std.specs.Prelude.{cond, ℕ, ◌+◌, ◌-◌}
use Rattle.article.specs.Pair.{allowed, rule_rate, saving_rate_of}
use Rattle.article.specs.declared.pair.{Rule.Rule, Leg.Leg}

-- what a rule saves of two rates: their sum less the rate that it makes of them
unfoldable pub rule_saving : Rule → ℕ → ℕ → ℕ
rule_saving r a b = a + b - rule_rate r a b

-- what two legs save: the saving rate of an allowed pair, and else 0
unfoldable pub saving_of : Leg → Leg → ℕ
saving_of l s = cond (allowed l s) (saving_rate_of l s) 0
