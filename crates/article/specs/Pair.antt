-- Document 01, "A pair", from the article's Group XI(2), with document 02 g), which provinces, a), from Group XI(4), d), from Group XI(3), and e), who may have them.
-- Assumes nothing.
use mathlib.Core.{Bool.Bool, Bool.true, Bool.false, Bool.cond, Bool.not, Bool.◌&&◌, Bool.◌||◌, Path.◌≡◌, List.[], List.◌∷◌, Logic.◌⊎◌}
use Rattle.std.specs.Prelude.{ℕ, ◌+◌, ◌-◌, ◌*◌, ◌/◌, ◌≤◌, ◌<◌, min, max, eqb, Option, Some, None}
use Rattle.lists.specs.Choice.{first_of, within}
use Rattle.article.specs.Answer.{Answer, make_answer}
use Rattle.rates.specs.Rate.{period_of, rate_of, flat_rate}
use Rattle.holding.specs.Holding.{letter_number, row_of, is_corporation}
use Rattle.holding.specs.declared.{Account.Account, Holding.Holding}
use Rattle.article.specs.declared.pair.{Rule.Rule, Rule.TheVariants.Difference, Rule.TheVariants.HalfSum, Rule.TheVariants.Capped, Rule.TheVariants.NotAllowed, Leg.Leg, Pair.Pair}

-- what a pair asks of a holding in an account: the number of the account's letter, those of its side, kind, issuer, currency and rating, its period, and its rate alone
unfoldable pub leg_of : Account → Holding → Leg
leg_of a h = record {
  letter = letter_number a.letter;
  side = (row_of h).side;
  kind = (row_of h).kind;
  issuer = (row_of h).issuer;
  currency = (row_of h).currency;
  rating = (row_of h).rating;
  period = period_of a h.maturity;
  rate = rate_of a h;
}

-- an approved participant's
unfoldable pub is_participant : Leg → Bool
is_participant l = eqb l.letter 0

unfoldable pub is_long : Leg → Bool
is_long l = eqb l.side 0

unfoldable pub is_short : Leg → Bool
is_short l = eqb l.side 1

unfoldable pub is_bond : Leg → Bool
is_bond l = eqb l.kind 0

-- strip means coupon or residual
unfoldable pub is_strip : Leg → Bool
is_strip l = within 1 2 l.kind

unfoldable pub is_canada : Leg → Bool
is_canada l = eqb l.issuer 0

unfoldable pub is_province : Leg → Bool
is_province l = within 1 10 l.issuer

unfoldable pub is_us : Leg → Bool
is_us l = eqb l.issuer 11

unfoldable pub is_gb : Leg → Bool
is_gb l = eqb l.issuer 12

unfoldable pub is_corporate : Leg → Bool
is_corporate l = is_corporation l.issuer

unfoldable pub in_cad : Leg → Bool
in_cad l = eqb l.currency 0

unfoldable pub in_usd : Leg → Bool
in_usd l = eqb l.currency 1

unfoldable pub in_gbp : Leg → Bool
in_gbp l = eqb l.currency 2

-- a bond with a strip or a strip with a strip: they are not both bonds
unfoldable pub kinds_pair : Leg → Leg → Bool
kinds_pair l s = (is_bond l && is_strip s) || (is_strip l && is_bond s) || (is_strip l && is_strip s)

-- both Canada or both provincial: any two provinces count as one class
unfoldable pub same_class : Leg → Leg → Bool
same_class l s = (is_canada l && is_canada s) || (is_province l && is_province s)

-- one Canada, one provincial
unfoldable pub mixed_class : Leg → Leg → Bool
mixed_class l s = (is_canada l && is_province s) || (is_province l && is_canada s)

-- within a class: a provincial bond pairs with a provincial strip only if the province is the same, and of strips among themselves nothing is asked; Canada is one issuer
unfoldable pub provinces_pair : Leg → Leg → Bool
provinces_pair l s = not (is_bond l || is_bond s) || eqb l.issuer s.issuer

-- both Canada or both provincial: the difference; one Canada, one provincial: half the sum
unfoldable pub class_rule : Leg → Leg → Rule
class_rule l s = first_of ((same_class l s && provinces_pair l s, Difference) ∷ (mixed_class l s, HalfSum) ∷ []) NotAllowed

-- paragraph 2, of two legs in CAD: which rule applies to their issuers and kinds
unfoldable pub domestic_rule : Leg → Leg → Rule
domestic_rule l s = cond (kinds_pair l s) (class_rule l s) NotAllowed

-- the article gives paragraphs 3 and 4 to approved participants
unfoldable pub are_participants : Leg → Leg → Bool
are_participants l s = is_participant l && is_participant s

-- exactly one is a bond
unfoldable pub one_bond : Leg → Leg → Bool
one_bond l s = (is_bond l && is_strip s) || (is_strip l && is_bond s)

-- the rating of the bond, where just one of the two is one
unfoldable pub bond_rating : Leg → Leg → ℕ
bond_rating l s = cond (is_bond l) l.rating s.rating

-- of the same corporation
unfoldable pub same_corporation : Leg → Leg → Bool
same_corporation l s = is_corporate l && eqb l.issuer s.issuer

-- paragraph 3, of a participant's two legs in CAD, the bond rated single A or higher, which is 0: the lesser of 20 percent and the greater rate
unfoldable pub corporate_rule : Leg → Leg → Rule
corporate_rule l s = cond (are_participants l s && one_bond l s && same_corporation l s && eqb (bond_rating l s) 0) Capped NotAllowed

-- of the same government, Canada, US or GB
unfoldable pub same_government : Leg → Leg → Bool
same_government l s = (is_canada l && is_canada s) || (is_us l && is_us s) || (is_gb l && is_gb s)

-- paragraph 4, of a participant's two legs in the same foreign currency: the difference
unfoldable pub foreign_rule : Leg → Leg → Rule
foreign_rule l s = cond (are_participants l s && one_bond l s && same_government l s) Difference NotAllowed

-- both in CAD, and both in the same foreign currency, USD or GBP
unfoldable pub both_cad : Leg → Leg → Bool
both_cad l s = in_cad l && in_cad s

unfoldable pub same_foreign : Leg → Leg → Bool
same_foreign l s = (in_usd l && in_usd s) || (in_gbp l && in_gbp s)

-- in CAD: paragraph 3 for a corporation's long, paragraph 2 for any other
unfoldable pub cad_rule : Leg → Leg → Rule
cad_rule l s = cond (is_corporate l) (corporate_rule l s) (domestic_rule l s)

-- which rule applies, one decision over the currencies, issuers, kinds, ratings and letters of the two legs
unfoldable pub rule_of : Leg → Leg → Rule
rule_of l s = cond (both_cad l s) (cad_rule l s) (cond (same_foreign l s) (foreign_rule l s) NotAllowed)

-- two legs in one currency that paragraph 2 does not have, and a participant's two of one issuer of which just one is a bond
pub record Outside (l s : Leg) : Type 0 where
  pub currency : l.currency ≡ s.currency
  pub issuer : l.currency ≡ 0 → 10 < l.issuer

pub record OneIssuer (l s : Leg) : Type 0 where
  pub issuer : l.issuer ≡ s.issuer
  pub one_bond_lem : one_bond l s ≡ true
  pub participants : are_participants l s ≡ true

-- a rule that allows the pair
abbrev pub permits : Rule → Bool
permits Difference = true
permits HalfSum = true
permits Capped = true
permits NotAllowed = false

-- one long and one short may be paired if both lie in the same period and a rule applies to them
unfoldable pub allowed : Leg → Leg → Bool
allowed l s = is_long l && is_short s && eqb l.period s.period && permits (rule_of l s)

-- the rate that a rule makes of two: their difference, never negative; half their sum; the lesser of 29,200 and the greater; without a rule, what the two have alone
unfoldable pub rule_rate : Rule → ℕ → ℕ → ℕ
rule_rate Difference a b = max a b - min a b
rule_rate HalfSum a b = (a + b) / 2
rule_rate Capped a b = min 29200 (max a b)
rule_rate NotAllowed a b = a + b

-- the rate of a pair
unfoldable pub pair_rate_of : Leg → Leg → ℕ
pair_rate_of l s = rule_rate (rule_of l s) l.rate s.rate

-- the sum of the two rates less the pair's rate
unfoldable pub saving_rate_of : Leg → Leg → ℕ
saving_rate_of l s = l.rate + s.rate - pair_rate_of l s

-- the paper's number and values of each answer: 0 with the pair's rate and the saving rate, or 13
unfoldable pub pair_answer : Option Pair → Answer
pair_answer (Some p) = make_answer 0 p.rate p.saving
pair_answer None = make_answer 13 0 0

-- the answer on two legs as a pair
unfoldable pub pair_of : Leg → Leg → Answer
pair_of l s = cond (allowed l s) (make_answer 0 (pair_rate_of l s) (saving_rate_of l s)) (make_answer 13 0 0)

-- the article's highest rate, and the most that a pair can save
abbrev pub rate_limit : ℕ
rate_limit = 43800

abbrev pub saving_limit : ℕ
saving_limit = 43800

-- the rate that a leg can have: at most the highest, of a government at most 21,900; of a corporation a bond has the rate of its period, and a strip one and a half
-- times that, or in the fifth period three times
pub record RateInRange (l : Leg) : Type 0 where
  pub high : l.rate ≤ rate_limit
  pub government : is_corporate l ≡ false → l.rate ≤ 21900
  pub bond : is_corporate l ≡ true → is_bond l ≡ true → l.rate ≡ flat_rate 2 l.period
  pub strip : is_corporate l ≡ true → is_strip l ≡ true → (2 * l.rate ≡ 3 * flat_rate 2 l.period) ⊎ ((l.period ≡ 5) × (l.rate ≡ 43800))

-- what pairing two legs promises
pub record Pairs (l s : Leg) (r : Option Pair) : Type 0 where
  pub answered : pair_answer r ≡ pair_of l s
  pub rate-high : (pair_answer r).first ≤ rate_limit
  pub saving-high : (pair_answer r).second ≤ saving_limit
