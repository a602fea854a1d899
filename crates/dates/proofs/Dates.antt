-- The page specs/Dates.antt, proved. Assumes nothing.
use mathlib.Core.Path.{◌≡◌, refl, sym}
use mathlib.Core.Logic.{◌≢◌}
use mathlib.Core.List.{List}
use Prim.Native.Nat.{ℕ, ◌+◌}
use native.Mathlib.Omega.{arith}
use Rattle.dates.specs.Calendar.{year, month, day, is_leap, leap_day, month_lengths, month_length, next_day, later, anniversary}
use Rattle.dates.specs.Dates.{RealDay, RealDate, LeapYears, MonthsOf, DayAfter, CountFrom, AnniversariesOf, YearFrom, TextRead, Dates}
use Rattle.dates.proofs.Years.{leap-other, leap-fourth, leap_hundredth, leap-four_hundredth, below_or-from, length_high, december_length}
use Rattle.dates.proofs.Tested.{real-tested, tested_real, date-tested, tested-date, date-low, date-high, on-parts, on-next}
use Rattle.dates.proofs.Days.{next_in_month, next-month, next-year, next_real, between_later, later_between, between_earlier, between_none}
use Rattle.dates.proofs.Texts.{eight-text, read-exactly, form-read, not-read}
use Rattle.dates.proofs.Anniversaries.{kept_on, lost_on, anniversary_year, anniversary_real, anniversary-none}
use Rattle.dates.proofs.Anniversaries.{anniversary-later, anniversary-grows, anniversary-follows, year_low, year_high, year_within}

leap-years : LeapYears
unfolding is_leap
leap-years = record {
  others = leap-other;
  fourths = leap-fourth;
  hundredths = leap_hundredth;
  four_hundredths = leap-four_hundredth;
  in_1900 = refl;
  in_2000 = refl;
  in_2100 = refl;
}

months : (y : ℕ) → MonthsOf y
unfolding month_length month_lengths leap_day
months y = record { common = λ e. rw e; leap = λ e. rw e }

-- a date that is not the last is followed by another
next-date : (d : ℕ) → RealDate d → d ≢ 22991231 → RealDate (next_day d)
next-date d t n =
    let r = t.real in
    let real = next_real d r in
    let high = length_high (year d) (month d) in
    below_or-from (day d) (month_length (year d) (month d))
    (λ h.
    let e = next_in_month d h in
    record { year_low = rw e (omega arith); year_high = rw e (omega arith); real = real })
    (λ h. below_or-from (month d) 12
    (λ m.
    let e = next-month d h m in
    record { year_low = rw e (omega arith); year_high = rw e (omega arith); real = real })
    (λ m.
    let e = next-year d h m in
    let december : month d ≡ 12 = omega (arith, r.month-high) in
    let last : month_length (year d) (month d) ≡ 31 = rw december (december_length (year d)) in
    record { year_low = rw e (omega arith); year_high = rw e (omega (arith, t.year_high, r.day_high)); real = real }))

module _ (d : ℕ) (r : RealDay d) where
  next-days : DayAfter d
  next-days =
      let high = length_high (year d) (month d) in
      record {
        in_month = λ h. rw (next_in_month d h) (on-next d (omega arith));
        new_month = λ h m. rw (next-month d (omega arith) m) (on-parts (year d) (month d + 1) 1 (omega arith) (omega arith));
        new_year = λ h m. rw (next-year d (omega arith) (omega arith)) (on-parts (year d + 1) 1 1 (omega arith) (omega arith));
        real = next_real d r;
        date = λ t n. tested-date (next_day d) (next-date d (date-tested d t) n);
      }

  counting : CountFrom d
  counting = record {
    no_days = unfold later in refl;
    one_day = λ k. unfold later in refl;
    counts = between_later d r;
    reaches = later_between d r;
    order = λ e s. (between_earlier d r e s, λ h. below_or-from d e (λ l. l) (λ l. absurd (omega (arith, between_none d r e s l))));
  }

  years : YearFrom d
  years = record {
    none = anniversary-none d r;
    real = λ n. anniversary_real d n r;
    date = λ n l h.
        let y = anniversary_year d n in
        tested-date (anniversary d n) (record { year_low = rw y l; year_high = rw y h; real = anniversary_real d n r });
    least = year_low d r;
    most = year_high d r;
    most_before = year_within d r;
  }

anniversaries : (d : ℕ) → AnniversariesOf d
anniversaries d = record {
  same = kept_on d;
  leap_day_lem = λ n m l c. lost_on d n (record { second = m; last = l; common = c });
  after = anniversary-later d;
  grows = anniversary-grows d;
  follows = λ n e. anniversary-follows d e n;
}

texts : (text : List ℕ) → TextRead text
texts text = record { exactly = read-exactly text; in_form_lem = form-read text; not_in_form = λ h. sym (not-read text h) }

pub dates : Dates
dates = record {
  parts = λ n. record { sum = omega arith; month_digits = omega arith; day_digits = omega arith };
  leap-years = leap-years;
  months = months;
  real = λ d. (real-tested d, tested_real d);
  tested = λ d. (date-tested d, tested-date d);
  limits = λ d t. (date-low d t, date-high d t);
  next-days = next-days;
  counting = counting;
  anniversaries = anniversaries;
  years = years;
  texts = texts;
  written = eight-text;
}
