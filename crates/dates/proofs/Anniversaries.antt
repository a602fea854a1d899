-- Laws of anniversaries: where they fall, how they grow, and how many days a year has. Assumes nothing.
use mathlib.Core.Path.{◌≡◌, refl, sym, ◌∙◌}
use mathlib.Core.Bool.{Bool, true, false, not, ◌&&◌, and-eq-true_iff, false≢true}
use Prim.Native.Nat.{ℕ, ◌+◌, ◌*◌, ◌≤◌, ◌<◌}
use native.Mathlib.Omega.{arith}
use lib.Dec.{eqb}
use borrow.Author.Tests.{eqb-true, not-true}
use Rattle.lists.proofs.Tests.{by-test, same_or_not}
use Rattle.dates.specs.Calendar.{year, month, day, dated, is_leap, leap_day, month_length, is_date, month_start, day_number, days_between, is_leap_day, anniversary}
use Rattle.dates.specs.Dates.{On, RealDay}
use Rattle.dates.proofs.Years.{below_or-from, start_early, start_late, leap_true, leap_false, leap-one, year-more, february, other-month}
use Rattle.dates.proofs.Tested.{date-tested, on-parts}
use Rattle.dates.proofs.Days.{number_of, real_of, no_earlier}

module _ (d n : ℕ) where
  -- the year has a 29 February where the date is one
  abbrev pub Kept : Type 0
  Kept = month d ≡ 2 → day d ≡ 29 → is_leap (year d + n) ≡ true

  -- a 29 February in a year that has none
  pub record Lost : Type 0 where
    pub second : month d ≡ 2
    pub last : day d ≡ 29
    pub common : is_leap (year d + n) ≡ false

  -- what the test finds
  test_lost : (is_leap_day d && not (is_leap (year d + n))) ≡ true → Lost
  unfolding is_leap_day
  test_lost e =
      let (a, b) = (and-eq-true_iff (is_leap_day d) (not (is_leap (year d + n)))).0 e in
      let (m, l) = (and-eq-true_iff (eqb (month d) 2) (eqb (day d) 29)).0 a in
      record { second = eqb-true _ _ m; last = eqb-true _ _ l; common = not-true _ b }

  lost_test : Lost → (is_leap_day d && not (is_leap (year d + n))) ≡ true
  unfolding is_leap_day
  lost_test l = rw (l.second, l.last, l.common)

  pub kept : Kept → anniversary d n ≡ dated (year d + n) (month d) (day d)
  unfolding anniversary
  kept k =
      by-test (λ x. x ≡ dated (year d + n) (month d) (day d)) (is_leap_day d && not (is_leap (year d + n)))
      (λ e. let l = test_lost e in absurd (false≢true (sym l.common ∙ k l.second l.last)))
      (λ e. refl)

  pub lost : Lost → anniversary d n ≡ dated (year d + n) 2 28
  unfolding anniversary
  lost l = rw (lost_test l)

  -- one or the other
  either : {P : Type 0} → (Kept → P) → (Lost → P) → P
  either {P} p q = by (is_leap_day d && not (is_leap (year d + n))) refl
    where
      by : (t : Bool) → (is_leap_day d && not (is_leap (year d + n))) ≡ t → P
      by true e = q (test_lost e)
      by false e = p (λ m l. leap m l (is_leap (year d + n)) refl)
        where
          leap : month d ≡ 2 → day d ≡ 29 → (t : Bool) → is_leap (year d + n) ≡ t → is_leap (year d + n) ≡ true
          leap m l true f = f
          leap m l false f = absurd (false≢true (sym e ∙ lost_test (record { second = m; last = l; common = f })))

  pub kept_on : Kept → On (anniversary d n) (year d + n) (month d) (day d)
  kept_on k = rw (kept k) (on-parts (year d + n) (month d) (day d) (omega arith) (omega arith))

  pub lost_on : Lost → On (anniversary d n) (year d + n) 2 28
  lost_on l = rw (lost l) (on-parts (year d + n) 2 28 (omega arith) (omega arith))

  pub anniversary_year : year (anniversary d n) ≡ year d + n
  anniversary_year = either (λ k. (kept_on k).of_year) (λ l. (lost_on l).of_year)

  -- it is a day of the calendar
  pub anniversary_real : RealDay d → RealDay (anniversary d n)
  anniversary_real r =
      either
      (λ k. real_of (kept_on k) r.day_low
      (same_or_not (month d) 2 (same_month k) (λ o. rw (other-month (year d + n) (year d) (month d) o) r.day_high)))
      (λ l. real_of (lost_on l) (omega arith) (omega (arith, february (year d + n))))
    where
      same_month : Kept → month d ≡ 2 → day d ≤ month_length (year d + n) (month d)
      same_month k m =
          let high : day d ≤ 28 + leap_day (year d) = rw (m, february (year d)) at r.day_high in
          rw (m, february (year d + n))
          (same_or_not (day d) 29
          (λ l. omega (arith, leap_true (year d + n) (k m l)))
          (λ o. omega (arith, leap-one (year d))))

  -- n years on is n more in the year, or a day less
  pub anniversary_high : anniversary d n ≤ d + 10000 * n
  anniversary_high = either (λ k. rw (kept k) (omega arith)) (λ l. rw (lost l) (omega (arith, l.second, l.last)))

  pub anniversary_low : d + 10000 * n ≤ anniversary d n + 1
  anniversary_low = either (λ k. rw (kept k) (omega arith)) (λ l. rw (lost l) (omega (arith, l.second, l.last)))

pub anniversary-none : (d : ℕ) → RealDay d → anniversary d 0 ≡ d
anniversary-none d r =
    either d 0
    (λ k. kept d 0 k ∙ omega arith)
    (λ l.
    let high : day d ≤ 28 + leap_day (year d) = rw (l.second, february (year d)) at r.day_high in
    let same : year d + 0 ≡ year d = omega arith in
    absurd (omega (arith, l.last, leap_false (year d) (rw same at l.common))))

-- anniversaries grow with n, of every number
pub anniversary-grows : (d n k : ℕ) → n < k → anniversary d n < anniversary d k
anniversary-grows d n k h = omega (arith, anniversary_high d n, anniversary_low d k)

-- and all but the 0th are later than the number itself
pub anniversary-later : (d n : ℕ) → 1 ≤ n → d < anniversary d n
anniversary-later d n h = omega (arith, anniversary_low d n)

pub anniversary-follows : (d e n : ℕ) → d ≤ e → anniversary d n ≤ anniversary e n
anniversary-follows d e n h =
    below_or-from d e
    (λ l. omega (arith, anniversary_high d n, anniversary_low e n))
    (λ l.
    let one : d ≡ e = omega arith in
    rw one (omega arith))

module _ (d : ℕ) (r : RealDay d) where
  -- a year is 365 or 366 days
  record Year (count : ℕ) : Type 0 where
    low : day_number d + 365 ≤ count
    high : count ≤ day_number d + 366

  year_on : Year (day_number (anniversary d 1))
  unfolding day_number
  year_on =
      let y = year d in
      let m = month d in
      let l = leap-one in
      either d 1
      (λ k. rw (number_of (kept_on d 1 k))
      (below_or-from 2 m
      (λ h.
      let s = start_late y (y + 1) m h in
      record { low = omega (arith, year-more y, l y, l (y + 1)); high = omega (arith, year-more y, l y, l (y + 1)) })
      (λ h.
      let s = start_early y (y + 1) m h in
      record { low = omega (arith, year-more y, l y); high = omega (arith, year-more y, l y) })))
      (λ k.
      let s : month_start y m ≡ month_start (y + 1) 2 = rw k.second (start_early y (y + 1) 2 (omega arith)) in
      let leap : day d ≤ 28 + leap_day y = rw (k.second, february y) at r.day_high in
      rw (number_of (lost_on d 1 k))
      (record { low = omega (arith, year-more y, l y, k.last); high = omega (arith, year-more y, l y, k.last) }))

  pub year_low : 365 ≤ days_between d (anniversary d 1)
  unfolding days_between
  year_low = omega (arith, year_on.low)

  pub year_high : days_between d (anniversary d 1) ≤ 366
  unfolding days_between
  year_high = omega (arith, year_on.high)

  pub year_within : (e : ℕ) → RealDay e → e ≤ anniversary d 1 → days_between d e ≤ 366
  unfolding days_between
  year_within e s h = omega (arith, year_on.high, no_earlier e (anniversary d 1) s (anniversary_real d 1 r) h)

-- up to a date's first anniversary are 366 days at most
pub within-year : (d e : ℕ) → is_date d ≡ true → is_date e ≡ true → e ≤ anniversary d 1 → days_between d e ≤ 366
within-year d e t s = year_within d (date-tested d t).real e (date-tested e s).real
