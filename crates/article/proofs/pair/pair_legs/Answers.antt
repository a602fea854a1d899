-- `pair_legs` answers what `pair_of` says: it refuses at the first test that fails, and else has the rule's rate and its saving. Assumes nothing.
use mathlib.Core.Path.{◌≡◌, refl, ap, sym, ◌∙◌}
use mathlib.Core.Bool.{true, false, not}
use denote.Enum.Bare.{sameb}
use Rattle.article.specs.contracts.pair.Rule.{the_type}
use Prim.Native.Nat.{ℕ, ◌+◌, ◌-◌}
use native.Mathlib.Omega.{arith}
use borrow.Author.Tests.{eq-eqb}
use Rattle.lists.proofs.Tests.{arms}
use Rattle.article.proofs.PairRates.{permitted-high}
use Rattle.article.proofs.Saved.{saving-high}
use Rattle.article.specs.Pair.{allowed, is_long, is_short, rule_of, permits, rule_rate, pair_rate_of, saving_rate_of, pair_answer, pair_of, RateInRange, Pairs}
use Rattle.article.specs.declared.pair.Rule.{Rule}
use Rattle.article.specs.declared.pair.Leg.{Leg}
use Rattle.std.specs.Prelude.{Some, None}
use Rattle.article.specs.declared.pair.Rule.TheVariants.{Difference, HalfSum, Capped, NotAllowed}
use Rattle.article.proofs.pair.pair_legs.Goals as goal

-- any other rule than none permits
permits_else : (rule : Rule) → permits rule ≡ not (sameb the_type rule NotAllowed)
permits_else Difference = refl
permits_else HalfSum = refl
permits_else Capped = refl
permits_else NotAllowed = refl

module _ (l s : Leg) where
  no_pair : allowed l s ≡ false → Pairs l s None
  unfolding pair_answer pair_of
  no_pair e = record { answered = rw e; rate-high = omega arith; saving-high = omega arith }

  -- a long and a short of one period, and what their rule was found to be
  module _ (long : l.side ≡ 0) (short : s.side ≡ 1) (period : l.period ≡ s.period) (rule : Rule) (found : rule ≡ rule_of l s) where
    decided : allowed l s ≡ permits rule
    unfolding allowed is_long is_short
    decided = rw (eq-eqb _ _ long, eq-eqb _ _ short, eq-eqb _ _ period, found)

    a_pair : (rate : ℕ) → permits rule ≡ true → RateInRange l → RateInRange s → rate ≡ rule_rate rule l.rate s.rate
        → Pairs l s (Some (record { rate = rate; saving = l.rate + s.rate - rate }))
    unfolding pair_answer pair_of pair_rate_of saving_rate_of
    a_pair rate e f g r = rw (r, found) (record {
      answered = rw (decided ∙ e);
      rate-high = permitted-high (rule_of l s) l.rate s.rate (ap permits (sym found) ∙ e) f.high g.high;
      saving-high = saving-high l s f g;
    })

pub returns-then-long-ne0 : goal.returns-then-long-ne0
unfolding allowed is_long is_short
returns-then-long-ne0 c = no_pair _ _ (search arms)

pub returns-then-short-ne1 : goal.returns-then-short-ne1
unfolding allowed is_long is_short
returns-then-short-ne1 c = no_pair _ _ (search arms)

pub returns-then-long-short : goal.returns-then-long-short
unfolding allowed is_long is_short
returns-then-long-short c = no_pair _ _ (search arms)

pub returns-then-eq : goal.returns-then-eq
returns-then-eq c =
    let none = permits_else c.rule_of-rule.result ∙ ap not (sym c.eq.ensures ∙ c.if-eq.true) in
    no_pair _ _ (decided _ _ c.if-long-ne0.false c.if-short-ne1.false c.if-long-short.false _ c.rule_of-rule.ensures ∙ none)

pub returns : goal.returns
returns c =
    let some = permits_else c.rule_of-rule.result ∙ ap not (sym c.eq.ensures ∙ c.if-eq.false) in
    a_pair _ _ c.if-long-ne0.false c.if-short-ne1.false c.if-long-short.false _ c.rule_of-rule.ensures _
    some c.requires.0 c.requires.1 c.rule_rate-rate.ensures.0
