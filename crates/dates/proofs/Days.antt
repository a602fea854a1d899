-- The next day is one more in the count of days, and a later number is a later day. Assumes nothing.
use mathlib.Core.Path.{◌≡◌, ◌∙◌}
use Prim.Native.Nat.{ℕ, zero, suc, ◌+◌, ◌-◌, ◌≤◌, ◌<◌}
use native.Mathlib.Omega.{arith}
use borrow.Author.Tests.{lt-ltb, le-ltb}
use Rattle.dates.specs.Calendar.{year, month, day, dated, leap_day, month_length, next_day, later, year_start, month_start, day_number, days_between}
use Rattle.dates.specs.Dates.{On, RealDay}
use Rattle.dates.proofs.Years.{below_or-from, year-more, year-grows, month-more, month-grows, january, december_end, month-end, length-low, length_high}
use Rattle.dates.proofs.Tested.{real-day, on-parts, on-next}

-- the number of a day from its parts
abbrev pub numbered : ℕ → ℕ → ℕ → ℕ
numbered y m d = year_start y + month_start y m + d

pub number_of : {n y m d : ℕ} → On n y m d → day_number n ≡ numbered y m d
unfolding day_number
number_of p = rw (p.of_year, p.of_month, p.of_day)

pub real_of : {n y m d : ℕ} → On n y m d → 1 ≤ d → d ≤ month_length y m → RealDay n
real_of {n} p c e = real-day n (omega (arith, p.of_day)) (rw (p.of_year, p.of_month, p.of_day) e)

module _ (d : ℕ) where
  -- the next day, case by case
  pub next_in_month : day d < month_length (year d) (month d) → next_day d ≡ d + 1
  unfolding next_day
  next_in_month h = rw (lt-ltb (day d) (month_length (year d) (month d)) h)

  pub next-month : month_length (year d) (month d) ≤ day d → month d < 12 → next_day d ≡ dated (year d) (month d + 1) 1
  unfolding next_day
  next-month h m = rw (le-ltb (day d) (month_length (year d) (month d)) h, lt-ltb (month d) 12 m)

  pub next-year : month_length (year d) (month d) ≤ day d → 12 ≤ month d → next_day d ≡ dated (year d + 1) 1 1
  unfolding next_day
  next-year h m = rw (le-ltb (day d) (month_length (year d) (month d)) h, le-ltb (month d) 12 m)

-- what the next day is good for: it is a day of the calendar, the next in the count
record Next (d n : ℕ) : Type 0 where
  real : RealDay n
  more : day_number n ≡ day_number d + 1

module _ (d : ℕ) (r : RealDay d) where
  in_month : day d < month_length (year d) (month d) → Next d (d + 1)
  unfolding day_number
  in_month h =
      let p = on-next d (omega (arith, length_high (year d) (month d))) in
      record {
        real = real_of p (omega arith) (omega arith);
        more = number_of p ∙ omega arith;
      }

  new_month : month_length (year d) (month d) ≤ day d → month d < 12 → Next d (dated (year d) (month d + 1) 1)
  unfolding day_number
  new_month h m =
      let p = on-parts (year d) (month d + 1) 1 (omega arith) (omega arith) in
      record {
        real = real_of p (omega arith) (omega (arith, length-low (year d) (month d + 1) (omega arith) (omega arith)));
        more = number_of p ∙ omega (arith, r.day_high, month-more (year d) (month d));
      }

  new_year : month_length (year d) (month d) ≤ day d → 12 ≤ month d → Next d (dated (year d + 1) 1 1)
  unfolding day_number
  new_year h m =
      let p = on-parts (year d + 1) 1 1 (omega arith) (omega arith) in
      let last : month d ≡ 12 = omega (arith, r.month-high) in
      let end : month_start (year d) (month d) + month_length (year d) (month d) ≡ 365 + leap_day (year d) = rw last (december_end (year d)) in
      record {
        real = real_of p (omega arith) (omega (arith, length-low (year d + 1) 1 (omega arith) (omega arith)));
        more = number_of p ∙ omega (arith, r.day_high, january (year d + 1), year-more (year d));
      }

  next : Next d (next_day d)
  next =
      below_or-from (day d) (month_length (year d) (month d))
      (λ h. rw (next_in_month d h) (in_month h))
      (λ h. below_or-from (month d) 12
      (λ m. rw (next-month d h m) (new_month h m))
      (λ m. rw (next-year d h m) (new_year h m)))

  pub next_real : RealDay (next_day d)
  next_real = next.real

  pub next_more : day_number (next_day d) ≡ day_number d + 1
  next_more = next.more

-- k days later it is a day of the calendar, and the count is k more
pub later-real : (k d : ℕ) → RealDay d → RealDay (later k d)
unfolding later
later-real zero d r = r
later-real (suc k) d r = next_real (later k d) (later-real k d r)

pub later_more : (k d : ℕ) → RealDay d → day_number (later k d) ≡ day_number d + k
unfolding later
later_more zero d r = omega arith
later_more (suc k) d r = omega (arith, next_more (later k d) (later-real k d r), later_more k d r)

-- a day of an earlier year, and of an earlier month in one year, is earlier
by-year : (y m a z n b : ℕ) → a ≤ month_length y m → 1 ≤ b → y < z → numbered y m a < numbered z n b
by-year y m a z n b h i l =
    let next-year : y + 1 + (z - (y + 1)) ≡ z = omega arith in
    let starts : year_start (y + 1) ≤ year_start z = rw next-year at (year-grows (y + 1) (z - (y + 1))) in
    omega (arith, month-end y m, year-more y)

by-month : (y m a n b : ℕ) → a ≤ month_length y m → 1 ≤ b → m < n → numbered y m a < numbered y n b
by-month y m a n b h i l =
    let next-month : m + 1 + (n - (m + 1)) ≡ n = omega arith in
    let starts : month_start y (m + 1) ≤ month_start y n = rw next-month at (month-grows y (m + 1) (n - (m + 1))) in
    omega (arith, month-more y m)

-- of two days the one with the smaller number is earlier
pub earlier : (d e : ℕ) → RealDay d → RealDay e → d < e → day_number d < day_number e
unfolding day_number
earlier d e r s h =
    below_or-from (year d) (year e)
    (λ y. by-year (year d) (month d) (day d) (year e) (month e) (day e) r.day_high s.day_low y)
    (λ y.
    let one-year : year e ≡ year d = omega arith in
    rw one-year
    (below_or-from (month d) (month e)
    (λ m. by-month (year d) (month d) (day d) (month e) (day e) r.day_high s.day_low m)
    (λ m.
    let one-month : month e ≡ month d = omega arith in
    rw one-month (omega arith))))

-- a day has one number
pub same-day : (d e : ℕ) → RealDay d → RealDay e → day_number d ≡ day_number e → d ≡ e
same-day d e r s h =
    below_or-from d e
    (λ l. absurd (omega (arith, earlier d e r s l)))
    (λ l. below_or-from e d (λ g. absurd (omega (arith, earlier e d s r g))) (λ g. omega arith))

pub no_earlier : (d e : ℕ) → RealDay d → RealDay e → d ≤ e → day_number d ≤ day_number e
no_earlier d e r s h =
    below_or-from d e
    (λ l. omega (arith, earlier d e r s l))
    (λ l.
    let one : d ≡ e = omega arith in
    rw one (omega arith))

-- the days between two days
module _ (d : ℕ) (r : RealDay d) where
  pub between_later : (k : ℕ) → days_between d (later k d) ≡ k
  unfolding days_between
  between_later k = omega (arith, later_more k d r)

  module _ (e : ℕ) (s : RealDay e) where
    pub later_between : d ≤ e → later (days_between d e) d ≡ e
    unfolding days_between
    later_between h =
        same-day (later (day_number e - day_number d) d) e (later-real (day_number e - day_number d) d r) s
        (omega (arith, later_more (day_number e - day_number d) d r, no_earlier d e r s h))

    pub between_earlier : d < e → 0 < days_between d e
    unfolding days_between
    between_earlier h = omega (arith, earlier d e r s h)

    pub between_none : e ≤ d → days_between d e ≡ 0
    unfolding days_between
    between_none h = omega (arith, no_earlier e d s r h)
