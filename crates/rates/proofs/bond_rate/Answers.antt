-- `bond_rate` is `bond_rate`: the table's entry is the article's flat rate, and in period 1 the year's fraction of it is taken. Assumes nothing.
use mathlib.Core.Path.{◌≡◌, refl, sym, ◌∙◌}
use mathlib.Core.List.{[]}
use Prim.Native.Nat.{ℕ, ◌*◌, ◌/◌, ◌-◌, ◌≤◌, ◌<◌}
use native.Mathlib.Nat.{mul-le-mul}
use native.Mathlib.Omega.{arith}
use lib.ListN.{get_or}
use Rattle.dates.specs.Calendar.{days_between}
use Rattle.holding.specs.declared.Account.{Account}
use Rattle.rates.specs.Rate.{bond_rate, flat_rate, period_of}
use Rattle.rates.proofs.Periods.{first-only, not_first}
use Rattle.rates.proofs.FlatRates.{table, flat_right, flat_high}
use Rattle.rates.proofs.Terms.{within-one, over-one, of-corporation}
use Rattle.rates.proofs.bond_rate.Goals as goal

-- what was read of the table, for the class and the period that were found, is the article's flat rate of the issuer's own class
module _ (class period own flat : ℕ) (a : Account) (m : ℕ) (read : flat ≡ get_or (get_or table class []) (period - 1) 0) (p : class ≡ own) (q : period ≡ period_of a m) where
  entry : flat ≡ flat_rate own (period_of a m)
  entry = read ∙ flat_right class period ∙ (λ i. flat_rate (p i) (q i))

  high : flat ≤ 14600
  high = rw entry (flat_high own (period_of a m))

  small : flat < 18446744073709551616
  small = omega (arith, high)

  -- the days to any maturity that the code can be given are few enough
  few : (days : ℕ) → days ≤ 200000000 → flat * days ≤ 14600 * 200000000
  few days h = mul-le-mul high h

  below : (days : ℕ) → days ≤ 200000000 → flat * days < 18446744073709551616
  below days h = omega (arith, few days h)

  early : (days : ℕ) → days ≡ days_between a.date m → days ≤ 200000000 → (class ≡ 2 → ⊥) → period ≡ 1
      → (flat * days / 365 ≡ bond_rate own a m) × (flat * days / 365 ≤ 8000000000)
  early days d h g e = (rw (entry, d) (sym (within-one own a m (λ z. g (p ∙ z)) (first-only a m (sym q ∙ e)))), omega (arith, few days h))

  whole : class ≡ 2 → (flat ≡ bond_rate own a m) × (flat ≤ 8000000000)
  whole e = (entry ∙ sym (of-corporation own a m (sym p ∙ e)), omega (arith, high))

  late : (period ≡ 1 → ⊥) → (flat ≡ bond_rate own a m) × (flat ≤ 8000000000)
  late e = (entry ∙ sym (over-one own a m (not_first a m (λ f. e (q ∙ f)))), omega (arith, high))

pub returns-then-class-eq2 : goal.returns-then-class-eq2
returns-then-class-eq2 c = whole _ _ _ _ _ _ refl c.class_of-class.ensures.0 c.requires.0 c.if-class-eq2.true

pub returns-then-period-eq1 : goal.returns-then-period-eq1
returns-then-period-eq1 c = early _ _ _ _ _ _ refl c.class_of-class.ensures.0 c.requires.0 _ (omega arith) (omega arith) c.if-class-eq2.false (omega arith)

pub returns : goal.returns
returns c = late _ _ _ _ _ _ refl c.class_of-class.ensures.0 c.requires.0 c.if-period-eq1.false
