-- The code's table is the article's percentages in units: one test over the whole table, one law for every entry. Assumes nothing.
use mathlib.Core.Path.{◌≡◌, refl, ap, ◌∙◌}
use mathlib.Core.List.{List, [], ◌∷◌, map}
use Prim.Native.Nat.{ℕ, zero, suc, ◌-◌, ◌*◌, ◌/◌, ◌≤◌, ◌<◌}
use native.Mathlib.Nat.{mul-le-mul_right}
use native.Mathlib.Omega.{arith}
use Rattle.lists.proofs.Entries.{bounded}
use lib.ListN.{get_or, get_or-map}
use Rattle.rates.specs.Rate.{percents, flat_rate}

-- the table as src/lib.rt has it
abbrev pub table : List (List ℕ)
table =
    (1460 ∷ 1460 ∷ 2920 ∷ 5840 ∷ 5840 ∷ [])
    ∷ (2920 ∷ 4380 ∷ 5840 ∷ 7300 ∷ 7300 ∷ [])
    ∷ (4380 ∷ 8760 ∷ 10220 ∷ 14600 ∷ 14600 ∷ [])
    ∷ []

-- percent of a cent, in units
abbrev units : ℕ → ℕ
units percent = percent * (146000 / 100)

-- the test, computed
tested : table ≡ map (map units) percents
unfolding percents
tested = refl

-- the law, for every class and period
pub flat_right : (class period : ℕ) → get_or (get_or table class []) (period - 1) 0 ≡ flat_rate class period
unfolding flat_rate
flat_right class period =
    ap (λ (t : List (List ℕ)). get_or (get_or t class []) (period - 1) 0) tested
    ∙ ap (λ (row : List ℕ). get_or row (period - 1) 0) (get_or-map (map units) percents class [])
    ∙ get_or-map units (get_or percents class []) (period - 1) 0

-- no bond's rate is above 5 percent in Groups I and II, and none above 10 in any
abbrev most : ℕ → ℕ
most zero = 5
most (suc zero) = 5
most (suc (suc class)) = 10

percent_high : (class at : ℕ) → get_or (get_or percents class []) at 0 ≤ most class
unfolding percents
percent_high zero at = bounded 5 (get_or percents 0 []) refl at
percent_high (suc zero) at = bounded 5 (get_or percents 1 []) refl at
percent_high (suc (suc zero)) at = bounded 10 (get_or percents 2 []) refl at
percent_high (suc (suc (suc class))) at = omega arith

most-all : (class : ℕ) → most class ≤ 10
most-all zero = omega arith
most-all (suc zero) = omega arith
most-all (suc (suc class)) = omega arith

pub flat_high : (class period : ℕ) → flat_rate class period ≤ 14600
unfolding flat_rate
flat_high class period =
    let high : get_or (get_or percents class []) (period - 1) 0 ≤ 10 = omega (arith, percent_high class (period - 1), most-all class) in
    mul-le-mul_right 1460 high

pub government_flat : (class period : ℕ) → class < 2 → flat_rate class period ≤ 7300
unfolding flat_rate
government_flat zero period h = mul-le-mul_right 1460 (percent_high 0 (period - 1))
government_flat (suc zero) period h = mul-le-mul_right 1460 (percent_high 1 (period - 1))
government_flat (suc (suc class)) period h = absurd (omega arith)

-- and in period 1 none of Groups I and II is above 2
pub first-high : (class : ℕ) → class < 2 → flat_rate class 1 ≤ 2920
unfolding flat_rate percents
first-high zero h = omega arith
first-high (suc zero) h = omega arith
first-high (suc (suc class)) h = absurd (omega arith)
