-- Document 01's terms that are counted: 2,000, 5,000 and 8,000 days from 1 January 2025; and all days of the calendar. Assumes nothing.
use mathlib.Core.Path.{◌≡◌, refl}
use mathlib.Core.List.{[], ◌∷◌, map}
use Rattle.lists.specs.Tables.{sum_of}
use Rattle.dates.specs.Calendar.{is_leap, leap_day, month_lengths, year_start, month_start, day_number, days_between}

pub counted : map (days_between 20250101) (20300624 ∷ 20380910 ∷ 20461127 ∷ 20250101 ∷ 20241231 ∷ []) ≡ 2000 ∷ 5000 ∷ 8000 ∷ 0 ∷ 0 ∷ []
unfolding days_between day_number year_start month_start sum_of month_lengths leap_day is_leap
counted = refl

pub all-days : days_between 19000101 22991231 ≡ 146096
unfolding days_between day_number year_start month_start sum_of month_lengths leap_day is_leap
all-days = refl
