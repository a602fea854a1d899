-- THE PAGE OF HOLDINGS, RATES AND PAIRS: what document 01 and document 02 a), b), d), e) and g) say of them, in their own words; proofs/Article.antt proves it. What a date, an
-- anniversary and the days between are, is on the page Dates. Assumes nothing.
use mathlib.Core.{Path.◌≡◌, Bool.true, Bool.false, Logic.◌↔◌, Logic.◌⊎◌}
use Rattle.std.specs.Prelude.{ℕ, ◌*◌, ◌≤◌, ◌+◌, min, max}
use Rattle.article.specs.Pair.{leg_of, allowed, pair_rate_of, saving_rate_of}
use Rattle.rates.specs.{Rate.rate_of, Rate.period_of, RateTable.Periods, RateTable.RateTable}
use Rattle.holding.specs.declared.{Head.Head, Account.Account, Kind.Kind, Holding.Holding, Row.Row}
use Rattle.holding.specs.declared.{Side.TheVariants.Long, Side.TheVariants.Short, Kind.TheVariants.Bond, Rating.TheVariants.SingleA}
use Rattle.holding.specs.declared.Issuer.{Issuer, TheVariants.Canada, TheVariants.Province, TheVariants.UnitedStates, TheVariants.UnitedKingdom, TheVariants.Corporation}
use Rattle.holding.specs.declared.AccountKind.{TheVariants.Participant, TheVariants.Client}
use Rattle.holding.specs.declared.Currency.{Currency, TheVariants.Cad, TheVariants.Usd, TheVariants.Gbp}
use Rattle.lists.specs.Choice.{within}
use Rattle.holding.specs.Holding.{HeadKept, Ranges, InRange, fault_of, RowRefused, row_of, holding_of, Numbers}

-- a row is refused exactly when a number is outside its range; any other makes a record that keeps its numbers
pub record RowKept (a : Account) (r : Row) : Type 0 where
  pub no_fault : (fault_of a r ≡ 0) ↔ Ranges a r
  pub kept : Ranges a r → row_of (holding_of r) ≡ r

-- both Canada or both provincial: any two provinces count as one class
pub data OneClass : Issuer → Issuer → Type 0 where
  both_canada : OneClass Canada Canada
  both_provincial : (p q : ℕ) → OneClass (Province p) (Province q)

-- one Canada, one provincial
pub data TwoClasses : Issuer → Issuer → Type 0 where
  canada_long : (p : ℕ) → TwoClasses Canada (Province p)
  canada_short : (p : ℕ) → TwoClasses (Province p) Canada

-- paragraph 2: CAD on both legs, Canada or a province on both, and they are not both bonds; a provincial bond pairs with a provincial strip only if the province is the
-- same, and strips among themselves pair across provinces
pub record Paragraph2 (l s : Holding) : Type 0 where
  pub first_cad : l.currency ≡ Cad
  pub second_cad : s.currency ≡ Cad
  pub classes : OneClass l.issuer s.issuer ⊎ TwoClasses l.issuer s.issuer
  pub not-bonds : l.kind ≡ Bond → s.kind ≡ Bond → ⊥
  pub one-province : (p q : ℕ) → l.issuer ≡ Province p → s.issuer ≡ Province q → (l.kind ≡ Bond) ⊎ (s.kind ≡ Bond) → p ≡ q

-- in the same foreign currency
pub data SameForeign : Currency → Currency → Type 0 where
  both_usd : SameForeign Usd Usd
  both_gbp : SameForeign Gbp Gbp

-- of the same government (Canada, US or GB)
pub data SameGovernment : Issuer → Issuer → Type 0 where
  of_canada : SameGovernment Canada Canada
  of-us : SameGovernment UnitedStates UnitedStates
  of-gb : SameGovernment UnitedKingdom UnitedKingdom

-- exactly one is a bond
pub record OneBond (k m : Kind) : Type 0 where
  pub some : (k ≡ Bond) ⊎ (m ≡ Bond)
  pub not_both : k ≡ Bond → m ≡ Bond → ⊥

-- paragraph 4: two holdings in the same foreign currency and of the same government, if exactly one is a bond
pub record Paragraph4 (l s : Holding) : Type 0 where
  pub currency : SameForeign l.currency s.currency
  pub government : SameGovernment l.issuer s.issuer
  pub one_bond_lem : OneBond l.kind s.kind

-- of the same corporation
pub data SameCorporation : Issuer → Issuer → Type 0 where
  of-corporation : (c : ℕ) → SameCorporation (Corporation c) (Corporation c)

-- paragraph 3: one bond with one strip, both in CAD, same issuer, the bond rated single A or higher
pub record Paragraph3 (l s : Holding) : Type 0 where
  pub first_cad : l.currency ≡ Cad
  pub second_cad : s.currency ≡ Cad
  pub corporation : SameCorporation l.issuer s.issuer
  pub one_bond_lem : OneBond l.kind s.kind
  pub long-rated : l.kind ≡ Bond → l.rating ≡ SingleA
  pub short-rated : s.kind ≡ Bond → s.rating ≡ SingleA

-- one of the three paragraphs: the article gives 3 and 4 to approved participants, and 2 to clients as well
pub data ByParagraph (a : Account) (l s : Holding) : Type 0 where
  by_2 : Paragraph2 l s → ByParagraph a l s
  by_3 : a.letter ≡ Participant → Paragraph3 l s → ByParagraph a l s
  by_4 : a.letter ≡ Participant → Paragraph4 l s → ByParagraph a l s

-- one long and one short may be paired if both lie in the same period and one of the paragraphs has them; nothing else pairs
pub record MayPair (a : Account) (l s : Holding) : Type 0 where
  pub first-long : l.side ≡ Long
  pub second_short : s.side ≡ Short
  pub period : period_of a l.maturity ≡ period_of a s.maturity
  pub paragraph : ByParagraph a l s

-- what two holdings within the ranges have as a pair
pub record Pairing (a : Account) (l s : Holding) : Type 0 where
  pub permitted : (allowed (leg_of a l) (leg_of a s) ≡ true) ↔ MayPair a l s
  -- both Canada or both provincial: the greater rate is the lesser and the pair's, so that this is never negative
  pub difference : MayPair a l s → OneClass l.issuer s.issuer → min (rate_of a l) (rate_of a s) + pair_rate_of (leg_of a l) (leg_of a s) ≡ max (rate_of a l) (rate_of a s)
  -- one Canada, one provincial: half the sum of the rates, with nothing lost by halving
  pub half_sum : MayPair a l s → TwoClasses l.issuer s.issuer → 2 * pair_rate_of (leg_of a l) (leg_of a s) ≡ rate_of a l + rate_of a s
  -- of the same government in the same foreign currency: the difference
  pub foreign : MayPair a l s → Paragraph4 l s → min (rate_of a l) (rate_of a s) + pair_rate_of (leg_of a l) (leg_of a s) ≡ max (rate_of a l) (rate_of a s)
  -- of one corporation: the lesser of 29,200 and the greater of the two rates
  pub corporate : MayPair a l s → Paragraph3 l s → pair_rate_of (leg_of a l) (leg_of a s) ≡ min 29200 (max (rate_of a l) (rate_of a s))
  -- the saving rate is the sum of the two rates less the pair's rate, between 0 and 43,800
  pub saving : pair_rate_of (leg_of a l) (leg_of a s) + saving_rate_of (leg_of a l) (leg_of a s) ≡ rate_of a l + rate_of a s
  pub saving_range : saving_rate_of (leg_of a l) (leg_of a s) ≤ 43800

-- of a client's account and a participant's: a client may pair what a participant may pair by paragraph 2, and nothing else, at the same rate
pub record ClientPairs (c p : Account) (l s : Holding) : Type 0 where
  pub may : MayPair c l s ↔ (MayPair p l s × Paragraph2 l s)
  pub same-rate : MayPair c l s → pair_rate_of (leg_of c l) (leg_of c s) ≡ pair_rate_of (leg_of p l) (leg_of p s)
  -- and what a holding has alone is the same for both
  pub alone : rate_of c l ≡ rate_of p l

-- in no pair, as the long or as the short
pub record Unpaired (h : Holding) : Type 0 where
  pub as_long : (a : Account) (s : Holding) → allowed (leg_of a h) (leg_of a s) ≡ false
  pub as_short : (a : Account) (l : Holding) → allowed (leg_of a l) (leg_of a h) ≡ false

-- a province or a corporation of another number is no issuer: no record within the ranges has it, and it is in no pair
pub record UnknownIssuer (i : Issuer) : Type 0 where
  pub out_of_range : (a : Account) (h : Holding) → h.issuer ≡ i → InRange a h → ⊥
  pub unpaired : (h : Holding) → h.issuer ≡ i → Unpaired h

-- provincial and corporate debt in foreign currency, US or GB debt in CAD and a corporation's bond that is not rated single A or higher stay unpaired
pub record StayUnpaired (h : Holding) : Type 0 where
  pub province : (p : ℕ) → h.issuer ≡ Province p → (h.currency ≡ Cad → ⊥) → Unpaired h
  pub corporation : (c : ℕ) → h.issuer ≡ Corporation c → (h.currency ≡ Cad → ⊥) → Unpaired h
  pub unrated : (c : ℕ) → h.issuer ≡ Corporation c → h.kind ≡ Bond → (h.rating ≡ SingleA → ⊥) → Unpaired h
  pub us : h.issuer ≡ UnitedStates → h.currency ≡ Cad → Unpaired h
  pub gb : h.issuer ≡ UnitedKingdom → h.currency ≡ Cad → Unpaired h

-- the page
pub record Article : Type 0 where
  pub each_head : (h : Head) → HeadKept h
  pub each_row : (a : Account) (r : Row) → RowKept a r
  -- refused, it has the number of the first that is outside its range: 4 side, 5 kind, 6 issuer, 24 and 7 maturity, 8 value, 23 currency, 25 rating
  pub refusals : (a : Account) (r : Row) → RowRefused a r
  -- a record within the ranges is the record of its numbers
  pub records : (a : Account) (h : Holding) → InRange a h → holding_of (row_of h) ≡ h
  -- side 0 long, 1 short; kind 0 bond, 1 coupon, 2 residual; issuer 0 Canada, 1 to 10 a province, 11 US, 12 GB, 100 to 355 a corporation;
  -- currency 0 CAD, 1 USD, 2 GBP; rating 0 single A or higher, 1 lower, 2 none
  pub numbered : (h : Holding) → Numbers h
  pub unknown_provinces : (p : ℕ) → within 1 10 p ≡ false → UnknownIssuer (Province p)
  pub unknown_corporations : (c : ℕ) → within 100 355 c ≡ false → UnknownIssuer (Corporation c)
  pub ends : (a : Account) (maturity : ℕ) → Periods a maturity
  pub rates : (a : Account) (h : Holding) → RateTable a h
  pub pairs : (a : Account) (l s : Holding) → InRange a l → InRange a s → Pairing a l s
  pub no_pairs : (h : Holding) → StayUnpaired h
  -- a client's account and a participant's that are valued on one date
  pub clients : (c p : Account) → c.letter ≡ Client → p.letter ≡ Participant → c.date ≡ p.date → (l s : Holding) → ClientPairs c p l s
