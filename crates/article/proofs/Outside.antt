-- The rule of two legs in one currency that paragraph 2 does not have: paragraph 3 in CAD, paragraph 4 in a foreign currency. Assumes nothing.
use mathlib.Core.Path.{◌≡◌, refl, sym, ◌∙◌}
use mathlib.Core.Logic.{◌≢◌}
use mathlib.Core.Bool.{true, false, ◌&&◌, and-false}
use Prim.Native.Nat.{◌≤◌, ◌<◌}
use native.Mathlib.Omega.{arith}
use lib.Dec.{ltb}
use borrow.Author.Tests.{eq-eqb, ne_eqb, ltb-true, ltb-false}
use Rattle.lists.specs.Choice.{first_of}
use Rattle.lists.proofs.Tests.{not_both, same_or_not, either_way, by-test}
use Rattle.holding.proofs.Issuers.{above_range, no_corporation_lem as below_corporations}
use Rattle.article.specs.Pair.{is_canada, is_province, is_us, is_gb, is_corporate, in_cad, in_usd, in_gbp, kinds_pair, same_class, mixed_class, class_rule, domestic_rule}
use Rattle.article.specs.Pair.{are_participants, one_bond, bond_rating, same_corporation, corporate_rule, same_government, foreign_rule, both_cad, same_foreign, cad_rule, rule_of, Outside, OneIssuer}
use Rattle.article.specs.declared.pair.Rule.{Rule}
use Rattle.article.specs.declared.pair.Rule.TheVariants.{Difference, Capped, NotAllowed}
use Rattle.article.specs.declared.pair.Leg.{Leg}

module _ (l s : Leg) where
  -- two currencies have no rule, nor has a number that is no currency's
  pub two_currencies_rows : (l.currency ≡ s.currency → ⊥) → NotAllowed ≡ rule_of l s
  unfolding rule_of both_cad same_foreign in_cad in_usd in_gbp
  two_currencies_rows h = rw (not_both l.currency s.currency 0 h, not_both l.currency s.currency 1 h, not_both l.currency s.currency 2 h)

  pub no_currency : 3 ≤ l.currency → NotAllowed ≡ rule_of l s
  unfolding rule_of both_cad same_foreign in_cad in_usd in_gbp
  no_currency h = rw (ne_eqb l.currency 0 (λ z. omega arith), ne_eqb l.currency 1 (λ z. omega arith), ne_eqb l.currency 2 (λ z. omega arith))

  -- in CAD, and in one foreign currency
  module _ (same : l.currency ≡ s.currency) where
    pub cad : l.currency ≡ 0 → cad_rule l s ≡ rule_of l s
    unfolding rule_of both_cad in_cad
    cad a = rw (eq-eqb _ _ a, eq-eqb _ _ (sym same ∙ a))

    pub foreign : (l.currency ≡ 0 → ⊥) → l.currency < 3 → foreign_rule l s ≡ rule_of l s
    unfolding rule_of both_cad same_foreign in_cad in_usd in_gbp
    foreign f h =
        same_or_not l.currency 1
        (λ e. rw (ne_eqb _ 0 f, eq-eqb _ _ e, eq-eqb _ _ (sym same ∙ e)))
        (λ e. let ne : l.currency ≢ 0 = f in let gbp : l.currency ≡ 2 = omega arith in rw (ne_eqb _ 0 f, ne_eqb _ 1 e, eq-eqb _ _ gbp, eq-eqb _ _ (sym same ∙ gbp)))

    -- paragraph 2 has Canada and the provinces in CAD
    pub domestic : l.currency ≡ 0 → l.issuer ≤ 10 → domestic_rule l s ≡ rule_of l s
    unfolding cad_rule is_corporate
    domestic c h = rw (below_corporations l.issuer (omega arith)) at (cad c)

  -- an issuer after the provinces has no class
  no_class : 10 < l.issuer → domestic_rule l s ≡ NotAllowed
  unfolding domestic_rule class_rule same_class mixed_class is_canada is_province first_of
  no_class h =
      by-test (λ (r : Rule). r ≡ NotAllowed) (kinds_pair l s)
      (λ _. rw (ne_eqb l.issuer 0 (λ z. omega arith), above_range 1 10 l.issuer h))
      (λ _. refl)

  no_corporation_lem : is_corporate l ≡ false → corporate_rule l s ≡ NotAllowed
  unfolding corporate_rule same_corporation
  no_corporation_lem n = rw (n, and-false (are_participants l s && one_bond l s))

  module _ (o : Outside l s) where
    -- in CAD paragraph 3 alone can have them
    pub outside_cad : l.currency ≡ 0 → corporate_rule l s ≡ rule_of l s
    unfolding cad_rule
    outside_cad c =
        either_way (is_corporate l)
        (λ n. rw n at (cad o.currency c))
        (λ n. no_corporation_lem n ∙ sym (no_class (o.issuer c)) ∙ rw n at (cad o.currency c))

    pub outside_foreign : (l.currency ≡ 0 → ⊥) → l.currency < 3 → foreign_rule l s ≡ rule_of l s
    outside_foreign = foreign o.currency

    -- where neither has them, no rule has
    neither-rule : corporate_rule l s ≡ NotAllowed → foreign_rule l s ≡ NotAllowed → NotAllowed ≡ rule_of l s
    neither-rule a b =
        same_or_not l.currency 0
        (λ c. sym a ∙ outside_cad c)
        (λ c. either_way (ltb l.currency 3)
        (λ t. sym b ∙ outside_foreign c (ltb-true l.currency 3 t))
        (λ t. no_currency (ltb-false l.currency 3 t)))

    pub two-issuers : (l.issuer ≡ s.issuer → ⊥) → NotAllowed ≡ rule_of l s
    unfolding corporate_rule same_corporation foreign_rule same_government is_canada is_us is_gb
    two-issuers h =
        neither-rule
        (rw (ne_eqb l.issuer s.issuer h, and-false (is_corporate l), and-false (are_participants l s && one_bond l s)))
        (rw (not_both l.issuer s.issuer 0 h, not_both l.issuer s.issuer 11 h, not_both l.issuer s.issuer 12 h, and-false (are_participants l s && one_bond l s)))

    pub no_bond : one_bond l s ≡ false → NotAllowed ≡ rule_of l s
    unfolding corporate_rule foreign_rule
    no_bond e = neither-rule (rw (e, and-false (are_participants l s))) (rw (e, and-false (are_participants l s)))

    pub no_participants : are_participants l s ≡ false → NotAllowed ≡ rule_of l s
    unfolding corporate_rule foreign_rule
    no_participants e = neither-rule (rw e) (rw e)

  -- a participant's, of one issuer, just one a bond
  pub unrated : (bond_rating l s ≡ 0 → ⊥) → NotAllowed ≡ corporate_rule l s
  unfolding corporate_rule
  unrated h = rw (ne_eqb (bond_rating l s) 0 h, and-false (are_participants l s && one_bond l s && same_corporation l s))

  pub not-corporate : is_corporate l ≡ false → NotAllowed ≡ corporate_rule l s
  not-corporate n = sym (no_corporation_lem n)

  module _ (i : OneIssuer l s) where
    pub rated-bond : is_corporate l ≡ true → bond_rating l s ≡ 0 → Capped ≡ corporate_rule l s
    unfolding corporate_rule same_corporation
    rated-bond n r = rw (i.participants, i.one_bond_lem, n, eq-eqb l.issuer s.issuer i.issuer, eq-eqb (bond_rating l s) 0 r)

    pub of_canada : l.issuer ≡ 0 → Difference ≡ foreign_rule l s
    unfolding foreign_rule same_government is_canada
    of_canada e = rw (i.participants, i.one_bond_lem, ← i.issuer, eq-eqb _ 0 e)

    pub of-us : l.issuer ≡ 11 → Difference ≡ foreign_rule l s
    unfolding foreign_rule same_government is_canada is_us
    of-us e = rw (i.participants, i.one_bond_lem, ← i.issuer, e)

    pub of-gb : l.issuer ≡ 12 → Difference ≡ foreign_rule l s
    unfolding foreign_rule same_government is_canada is_us is_gb
    of-gb e = rw (i.participants, i.one_bond_lem, ← i.issuer, e)

  pub no_government : (l.issuer ≡ 0 → ⊥) → (l.issuer ≡ 11 → ⊥) → (l.issuer ≡ 12 → ⊥) → NotAllowed ≡ foreign_rule l s
  unfolding foreign_rule same_government is_canada is_us is_gb
  no_government f g h = rw (ne_eqb _ 0 f, ne_eqb _ 11 g, ne_eqb _ 12 h, and-false (are_participants l s && one_bond l s))

-- what decides paragraph 3, paragraph 4, and which of the two
pub ruleset corporate = (unrated, not-corporate, rated-bond)

pub ruleset foreign_government = (of_canada, of-us, of-gb, no_government)

pub ruleset outside = (two-issuers, no_bond, no_participants, outside_cad, outside_foreign, no_currency)
