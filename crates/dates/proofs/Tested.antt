-- The tests of a date say what they mean, and the parts of a number are those that it was made of. Assumes nothing.
use mathlib.Core.Path.{◌≡◌, sym}
use mathlib.Core.Logic.{◌⊎◌, ⊎_elim}
use mathlib.Core.Bool.{true, false, and-eq-true_iff}
use Prim.Native.Nat.{ℕ, ◌+◌, ◌≤◌, ◌<◌}
use native.Mathlib.Omega.{arith}
use Rattle.lists.specs.Choice.{within}
use Rattle.lists.proofs.Tests.{either_way, within_true, true_within}
use lib.Dec.{leb}
use borrow.Author.Tests.{le-leb, lt-leb}
use Rattle.dates.specs.Calendar.{year, month, day, dated, month_length, is_real, is_date}
use Rattle.dates.specs.Dates.{On, RealDay, RealDate}
use Rattle.dates.proofs.Years.{month-low, month-high, length_high}

-- a day that the month has: the month is one of the twelve
pub real-day : (d : ℕ) → 1 ≤ day d → day d ≤ month_length (year d) (month d) → RealDay d
real-day d l h = record {
  month-low = month-low (year d) (month d) (omega arith);
  month-high = month-high (year d) (month d) (omega arith);
  day_low = l;
  day_high = h;
}

pub real-tested : (d : ℕ) → is_real d ≡ true → RealDay d
unfolding is_real
real-tested d e =
    let (l, h) = within_true 1 (month_length (year d) (month d)) (day d) e in
    real-day d l h

pub tested_real : (d : ℕ) → RealDay d → is_real d ≡ true
unfolding is_real
tested_real d r = true_within 1 (month_length (year d) (month d)) (day d) r.day_low r.day_high

pub date-tested : (d : ℕ) → is_date d ≡ true → RealDate d
unfolding is_date
date-tested d e =
    let (a, b) = (and-eq-true_iff (within 1900 2299 (year d)) (is_real d)).0 e in
    let (l, h) = within_true 1900 2299 (year d) a in
    record { year_low = l; year_high = h; real = real-tested d b }

pub tested-date : (d : ℕ) → RealDate d → is_date d ≡ true
unfolding is_date
tested-date d r = rw (true_within 1900 2299 (year d) r.year_low r.year_high) (tested_real d r.real)

-- a date is a number of eight digits
module _ (d : ℕ) (t : is_date d ≡ true) where
  date : RealDate d
  date = date-tested d t

  pub date-low : 19000101 ≤ d
  date-low = let r = date.real in omega (arith, date.year_low, r.month-low, r.day_low)

  pub date-high : d ≤ 22991231
  date-high = let r = date.real in omega (arith, date.year_high, r.month-high, r.day_high, length_high (year d) (month d))

-- the parts of the number of a year, a month and a day
pub on-parts : (y m d : ℕ) → m < 100 → d < 100 → On (dated y m d) y m d
on-parts y m d h l = record { of_year = omega arith; of_month = omega arith; of_day = omega arith }

-- the next number within a month
pub on-next : (d : ℕ) → day d < 99 → On (d + 1) (year d) (month d) (day d + 1)
on-next d h = record { of_year = omega arith; of_month = omega arith; of_day = omega arith }

-- what the code finds on its way: a number outside the years, no day, or a day that the month has or not
pub date_out : (d : ℕ) → (d < 19000101) ⊎ (22991231 < d) → false ≡ is_date d
date_out d = ⊎_elim (λ h. no_date (λ t. omega (arith, date-low d t))) (λ h. no_date (λ t. omega (arith, date-high d t)))
  where
    no_date : (is_date d ≡ true → ⊥) → false ≡ is_date d
    no_date n = either_way (is_date d) (λ t. absurd (n t)) (λ e. sym e)

module _ (d : ℕ) (low : 19000101 ≤ d) (high : d ≤ 22991231) where
  years : within 1900 2299 (year d) ≡ true
  years = true_within 1900 2299 (year d) (omega arith) (omega arith)

  pub date_no_day : day d < 1 → false ≡ is_date d
  unfolding is_date is_real within
  date_no_day h = rw (years, lt-leb 1 (day d) h)

  pub date_day : (l : ℕ) → l ≡ month_length (year d) (month d) → 1 ≤ day d → leb (day d) l ≡ is_date d
  unfolding is_date is_real within
  date_day l e h = rw (years, e, le-leb 1 (day d) h)

-- what `is_date` owes
pub ruleset dates = (date_out, date_no_day, date_day)
