-- What an allowed pair of legs means, and why its rule permits it. Assumes nothing.
use mathlib.Core.Path.{◌≡◌, refl}
use mathlib.Core.Logic.{◌⊎◌, inl, inr}
use mathlib.Core.Bool.{true, false, ◌&&◌, and-eq-true_iff, and-false, or-true, false≢true}
use Prim.Native.Nat.{◌≤◌}
use lib.Dec.{eqb}
use borrow.Author.Tests.{eq-eqb, eqb-true}
use Rattle.lists.specs.Choice.{first_of}
use Rattle.lists.proofs.Tests.{zero_out, arms, by-test}
use Rattle.article.proofs.PairRates.{permitted-high}
use Rattle.article.specs.Pair.{is_long, is_short, is_bond, is_strip, kinds_pair, same_class, mixed_class, provinces_pair}
use Rattle.article.specs.Pair.{class_rule, domestic_rule, is_corporate, bond_rating, same_corporation, corporate_rule, cad_rule, are_participants, one_bond, same_government, foreign_rule}
use Rattle.article.specs.Pair.{both_cad, same_foreign, rule_of, permits, allowed, pair_rate_of, rate_limit, RateInRange}
use Rattle.article.specs.declared.pair.Rule.{Rule}
use Rattle.article.specs.declared.pair.Rule.TheVariants.{Difference, HalfSum, Capped, NotAllowed}
use Rattle.article.specs.declared.pair.Leg.{Leg}

-- what an allowed pair is
pub record Meets (l s : Leg) : Type 0 where
  pub long : l.side ≡ 0
  pub short : s.side ≡ 1
  pub period : l.period ≡ s.period
  pub rule : permits (rule_of l s) ≡ true

module _ (l s : Leg) where
  pub allowed_meets : allowed l s ≡ true → Meets l s
  unfolding allowed is_long is_short
  allowed_meets e =
      let (sides-and-period, rule) = (and-eq-true_iff _ _).0 e in
      let (sides, period) = (and-eq-true_iff _ _).0 sides-and-period in
      let (long, short) = (and-eq-true_iff _ _).0 sides in
      record { long = eqb-true _ _ long; short = eqb-true _ _ short; period = eqb-true _ _ period; rule = rule }

  pub meets_allowed : Meets l s → allowed l s ≡ true
  unfolding allowed is_long is_short
  meets_allowed m = rw (eq-eqb _ _ m.long, eq-eqb _ _ m.short, eq-eqb _ _ m.period, m.rule)

  -- an allowed pair has no rate above the article's highest
  pub allowed_high : allowed l s ≡ true → RateInRange l → RateInRange s → pair_rate_of l s ≤ rate_limit
  unfolding pair_rate_of
  allowed_high e f g = permitted-high (rule_of l s) l.rate s.rate (allowed_meets e).rule f.high g.high

  -- two bonds have no rule
  pub bonds_no_rule : l.kind ≡ 0 → s.kind ≡ 0 → rule_of l s ≡ NotAllowed
  unfolding rule_of cad_rule corporate_rule domestic_rule foreign_rule kinds_pair one_bond is_bond is_strip
  bonds_no_rule a b =
      let Is : Rule → Type 0 = λ r. r ≡ NotAllowed in
      by-test Is (both_cad l s)
      (λ _. by-test Is (is_corporate l)
      (λ _. rw (zero_out 2 l.kind a, zero_out 2 s.kind b, eq-eqb _ _ a, and-false (are_participants l s)))
      (λ _. rw (zero_out 2 l.kind a, zero_out 2 s.kind b, eq-eqb _ _ a)))
      (λ _. by-test Is (same_foreign l s) (λ _. rw (zero_out 2 l.kind a, zero_out 2 s.kind b, eq-eqb _ _ a, and-false (are_participants l s))) (λ _. refl))

  pub no_rule : permits (rule_of l s) ≡ false → allowed l s ≡ false
  unfolding allowed
  no_rule e = rw e (and-false (is_long l && is_short s && eqb l.period s.period))

-- of which provinces two legs pair: strips of any, a bond with the same issuer's alone
module _ (l s : Leg) where
  pub two_strips : (l.kind ≡ 0 → ⊥) → (s.kind ≡ 0 → ⊥) → provinces_pair l s ≡ true
  unfolding provinces_pair is_bond
  two_strips a b = search arms

  pub one-issuer : l.issuer ≡ s.issuer → provinces_pair l s ≡ true
  unfolding provinces_pair
  one-issuer e = search (arms, or-true)

  pub with_bond : (l.kind ≡ 0) ⊎ (s.kind ≡ 0) → provinces_pair l s ≡ eqb l.issuer s.issuer
  unfolding provinces_pair is_bond
  with_bond (inl a) = search arms
  with_bond (inr b) = search (arms, or-true)

-- why a rule permits a pair: paragraph 2 for legs of one class or of two, or a participant's paragraph 3 or 4
pub data Permitted (l s : Leg) : Rule → Type 0 where
  one_class : both_cad l s ≡ true → kinds_pair l s ≡ true → same_class l s ≡ true → provinces_pair l s ≡ true → Permitted l s Difference
  two_classes : both_cad l s ≡ true → kinds_pair l s ≡ true → mixed_class l s ≡ true → Permitted l s HalfSum
  one_corporation : both_cad l s ≡ true → are_participants l s ≡ true → one_bond l s ≡ true → same_corporation l s ≡ true → eqb (bond_rating l s) 0 ≡ true → Permitted l s Capped
  one_government : same_foreign l s ≡ true → are_participants l s ≡ true → one_bond l s ≡ true → same_government l s ≡ true → Permitted l s Difference

module _ (l s : Leg) where
  pub permitted : permits (rule_of l s) ≡ true → Permitted l s (rule_of l s)
  unfolding rule_of cad_rule corporate_rule domestic_rule class_rule foreign_rule first_of
  permitted =
      let Why : Rule → Type 0 = λ r. permits r ≡ true → Permitted l s r in
      let none : Why NotAllowed = λ e. absurd (false≢true e) in
      by-test Why (both_cad l s)
      (λ c. by-test Why (is_corporate l)
      (λ _. by-test Why (are_participants l s && one_bond l s && same_corporation l s && eqb (bond_rating l s) 0)
      (λ e _.
      let (three, rated) = (and-eq-true_iff _ _).0 e in
      let (two, n) = (and-eq-true_iff _ _).0 three in
      let (p, k) = (and-eq-true_iff _ _).0 two in
      one_corporation c p k n rated)
      (λ _. none))
      (λ _. by-test Why (kinds_pair l s)
      (λ k. by-test Why (same_class l s && provinces_pair l s)
      (λ e _. let (same, provinces) = (and-eq-true_iff _ _).0 e in one_class c k same provinces)
      (λ _. by-test Why (mixed_class l s) (λ e _. two_classes c k e) (λ _. none)))
      (λ _. none)))
      (λ _. by-test Why (same_foreign l s)
      (λ c. by-test Why (are_participants l s && one_bond l s && same_government l s)
      (λ e _.
      let (two, g) = (and-eq-true_iff _ _).0 e in
      let (p, k) = (and-eq-true_iff _ _).0 two in
      one_government c p k g)
      (λ _. none))
      (λ _. none))
