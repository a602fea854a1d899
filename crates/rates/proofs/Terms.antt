-- What a bond's rate is on either side of a year, and a strip's on either side of 20 years. Assumes nothing.
use mathlib.Core.Path.{◌≡◌}
use mathlib.Core.Bool.{true, false, or-true}
use Prim.Native.Nat.{ℕ, ◌*◌, ◌/◌, ◌≤◌, ◌<◌}
use borrow.Author.Tests.{le-leb, lt-leb, eq-eqb, ne_eqb}
use Rattle.dates.specs.Calendar.{days_between}
use Rattle.holding.specs.declared.Account.{Account}
use Rattle.rates.specs.Rate.{longer_than, at_least, period_of, flat_rate, bond_rate, strip_rate}
use Rattle.rates.proofs.Periods.{end}

module _ (class : ℕ) (a : Account) (m : ℕ) where
  pub within-one : (class ≡ 2 → ⊥) → longer_than a m 1 ≡ false → bond_rate class a m ≡ flat_rate class (period_of a m) * days_between a.date m / 365
  unfolding bond_rate
  within-one g e = rw (ne_eqb class 2 g, e)

  pub over-one : longer_than a m 1 ≡ true → bond_rate class a m ≡ flat_rate class (period_of a m)
  unfolding bond_rate
  over-one e = rw (e, or-true)

  -- a corporation's has no fraction
  pub of-corporation : class ≡ 2 → bond_rate class a m ≡ flat_rate class (period_of a m)
  unfolding bond_rate
  of-corporation c = rw (eq-eqb class 2 c)

module _ (bond : ℕ) (a : Account) (m : ℕ) where
  pub below_twenty : m < end a 20 → strip_rate bond a m ≡ bond * 3 / 2
  unfolding strip_rate at_least
  below_twenty h = rw (lt-leb _ m h)

  pub from_twenty : end a 20 ≤ m → strip_rate bond a m ≡ bond * 3
  unfolding strip_rate at_least
  from_twenty h = rw (le-leb _ m h)
