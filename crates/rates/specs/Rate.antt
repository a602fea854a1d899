-- Document 01, "Rate and period", from the article's Group I, Group II and Group XI(1), and document 02 b), terms by dates, and d), Group V. Assumes nothing.
use mathlib.Core.{Bool.Bool, Bool.cond, Bool.◌||◌, List.List, List.[], List.◌∷◌}
use Rattle.std.specs.Prelude.{ℕ, ◌+◌, ◌-◌, ◌*◌, ◌/◌}
use lib.{Dec.ltb, Dec.leb, Dec.eqb, ListN.get_or}
use Rattle.lists.specs.Choice.{count}
use Rattle.dates.specs.Calendar.{anniversary, days_between}
use Rattle.holding.specs.declared.{Account.Account, Kind.Kind, Kind.TheVariants.Bond, Kind.TheVariants.Coupon, Kind.TheVariants.Residual, Holding.Holding}
use Rattle.holding.specs.declared.Issuer.{Issuer, TheVariants.Canada, TheVariants.Province, TheVariants.UnitedStates, TheVariants.UnitedKingdom, TheVariants.Corporation}

-- the term from an account's valuation date to a maturity. "A term is n years or less if maturity is on or before the same day and month n years on": more
-- than so many years if it is later
unfoldable pub longer_than : Account → ℕ → ℕ → Bool
longer_than a maturity years = ltb (anniversary a.date years) maturity

-- a term of so many years or more, which starts on that day
unfoldable pub at_least : Account → ℕ → ℕ → Bool
at_least a maturity years = leb (anniversary a.date years) maturity

-- 1 year or less, over 1 year to 3, over 3 to 7, over 7 to 11, over 11 years: periods 1 to 5, each end inside the earlier period
unfoldable pub period_of : Account → ℕ → ℕ
period_of a maturity = 1 + count (longer_than a maturity) (1 ∷ 3 ∷ 7 ∷ 11 ∷ [])

-- the issuer class, as a place in the table: Group I, Canada, US and GB; Group II, the provinces; Group V, corporations
abbrev pub class_of : Issuer → ℕ
class_of Canada = 0
class_of (Province p) = 1
class_of UnitedStates = 0
class_of UnitedKingdom = 0
class_of (Corporation c) = 2

-- the margin required in each period, in percent of market value: 1, 1, 2, 4, 4 in Group I, 2, 3, 4, 5, 5 in Group II and 3, 6, 7, 10, 10 in Group V
unfoldable pub percents : List (List ℕ)
percents =
    (1 ∷ 1 ∷ 2 ∷ 4 ∷ 4 ∷ [])
    ∷ (2 ∷ 3 ∷ 4 ∷ 5 ∷ 5 ∷ [])
    ∷ (3 ∷ 6 ∷ 7 ∷ 10 ∷ 10 ∷ [])
    ∷ []

-- the same as a rate, units per cent of market value: a unit is 1/146,000 of a cent
unfoldable pub flat_rate : ℕ → ℕ → ℕ
flat_rate class period = get_or (get_or percents class []) (period - 1) 0 * (146000 / 100)

-- a bond's rate: for 1 year or less, in Groups I and II, multiplied by the actual number of days to maturity divided by 365
unfoldable pub bond_rate : ℕ → Account → ℕ → ℕ
bond_rate class a maturity =
    let flat = flat_rate class (period_of a maturity) in
    cond (eqb class 2 || longer_than a maturity 1) flat (flat * days_between a.date maturity / 365)

-- a strip's rate: one and a half times the bond's at the strip's own term, three times from 20 years
unfoldable pub strip_rate : ℕ → Account → ℕ → ℕ
strip_rate bond a maturity = cond (at_least a maturity 20) (bond * 3) (bond * 3 / 2)

-- strip means coupon or residual
unfoldable pub kind_rate : Kind → ℕ → Account → ℕ → ℕ
kind_rate Bond bond a maturity = bond
kind_rate Coupon bond a maturity = strip_rate bond a maturity
kind_rate Residual bond a maturity = strip_rate bond a maturity

-- the rate of a kind, an issuer and a term
unfoldable pub rate_at : Kind → Issuer → Account → ℕ → ℕ
rate_at kind issuer a maturity = kind_rate kind (bond_rate (class_of issuer) a maturity) a maturity

-- the rate of a holding, units per cent of market value
unfoldable pub rate_of : Account → Holding → ℕ
rate_of a h = rate_at h.kind h.issuer a h.maturity
