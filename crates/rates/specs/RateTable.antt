-- Document 01's table of rates, document 02 b)'s periods and d)'s rates of corporations, row by row, for the page Article. Assumes nothing.
use Rattle.std.specs.Prelude.{◌≡◌, ℕ, ◌*◌, ◌≤◌, ◌<◌}
use Rattle.dates.specs.Calendar.{anniversary, days_between}
use Rattle.holding.specs.declared.{Account.Account, Kind.TheVariants.Bond, Holding.Holding}
use Rattle.holding.specs.declared.Issuer.{TheVariants.Canada, TheVariants.Province, TheVariants.UnitedStates, TheVariants.UnitedKingdom, TheVariants.Corporation}
use Rattle.rates.specs.Rate.{period_of, rate_of}

-- periods end at the 1st, 3rd, 7th and 11th anniversary of the valuation date, each end inside the earlier period; the fifth is everything longer. The 20th
-- anniversary changes the rate and is no period end
pub record Periods (a : Account) (maturity : ℕ) : Type 0 where
  pub first : maturity ≤ anniversary a.date 1 → period_of a maturity ≡ 1
  pub second : anniversary a.date 1 < maturity → maturity ≤ anniversary a.date 3 → period_of a maturity ≡ 2
  pub third : anniversary a.date 3 < maturity → maturity ≤ anniversary a.date 7 → period_of a maturity ≡ 3
  pub fourth : anniversary a.date 7 < maturity → maturity ≤ anniversary a.date 11 → period_of a maturity ≡ 4
  pub fifth : anniversary a.date 11 < maturity → period_of a maturity ≡ 5

-- the six rates of a row: Canada bond, Canada strip, province bond, province strip, corporation's bond, corporation's strip. Strip means coupon or residual,
-- what is no bond. US and GB have Group I rates, Canada's
module _ (a : Account) (h : Holding) where
  pub record Rates (canada canada-strip province province-strip corporation corporation-strip : ℕ) : Type 0 where
    pub of_canada_bond : h.issuer ≡ Canada → h.kind ≡ Bond → rate_of a h ≡ canada
    pub of_canada_strip : h.issuer ≡ Canada → (h.kind ≡ Bond → ⊥) → rate_of a h ≡ canada-strip
    pub of_province_bond : (p : ℕ) → h.issuer ≡ Province p → h.kind ≡ Bond → rate_of a h ≡ province
    pub of_province_strip : (p : ℕ) → h.issuer ≡ Province p → (h.kind ≡ Bond → ⊥) → rate_of a h ≡ province-strip
    pub of_us_bond : h.issuer ≡ UnitedStates → h.kind ≡ Bond → rate_of a h ≡ canada
    pub of_us_strip : h.issuer ≡ UnitedStates → (h.kind ≡ Bond → ⊥) → rate_of a h ≡ canada-strip
    pub of_gb_bond : h.issuer ≡ UnitedKingdom → h.kind ≡ Bond → rate_of a h ≡ canada
    pub of_gb_strip : h.issuer ≡ UnitedKingdom → (h.kind ≡ Bond → ⊥) → rate_of a h ≡ canada-strip
    pub of_corporation_bond : (c : ℕ) → h.issuer ≡ Corporation c → h.kind ≡ Bond → rate_of a h ≡ corporation
    pub of_corporation_strip : (c : ℕ) → h.issuer ≡ Corporation c → (h.kind ≡ Bond → ⊥) → rate_of a h ≡ corporation-strip

  -- the actual days to maturity: how often the next day is taken from the valuation date
  abbrev pub actual_days : ℕ
  actual_days = days_between a.date h.maturity

  -- the table, row by row; a corporation's rate has no days fraction
  pub record RateTable : Type 0 where
    pub row_1 : h.maturity ≤ anniversary a.date 1 → Rates (4 * actual_days) (6 * actual_days) (8 * actual_days) (12 * actual_days) 4380 6570
    pub row_2 : anniversary a.date 1 < h.maturity → h.maturity ≤ anniversary a.date 3 → Rates 1460 2190 4380 6570 8760 13140
    pub row_3 : anniversary a.date 3 < h.maturity → h.maturity ≤ anniversary a.date 7 → Rates 2920 4380 5840 8760 10220 15330
    pub row_4 : anniversary a.date 7 < h.maturity → h.maturity ≤ anniversary a.date 11 → Rates 5840 8760 7300 10950 14600 21900
    pub row_5_below : anniversary a.date 11 < h.maturity → h.maturity < anniversary a.date 20 → Rates 5840 8760 7300 10950 14600 21900
    pub row_5_from : anniversary a.date 20 ≤ h.maturity → Rates 5840 17520 7300 21900 14600 43800
