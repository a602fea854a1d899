-- Document 02 b), dates: the Gregorian calendar on numbers YYYYMMDD, from 1900 to 2299. Assumes nothing.
use mathlib.Core.{Bool.Bool, Bool.cond, Bool.not, Bool.◌&&◌, Bool.◌||◌, List.List, List.[], List.◌∷◌}
use Rattle.std.specs.Prelude.{ℕ, zero, suc, ◌+◌, ◌-◌, ◌*◌, ◌/◌, ◌%◌}
use lib.{Dec.ltb, Dec.eqb, ListN.get_or, ListN.take}
use Rattle.lists.specs.{Choice.within, Tables.sum_of}

-- the year, the month and the day of a number, and the number of the three
abbrev pub year : ℕ → ℕ
year d = d / 10000

abbrev pub month : ℕ → ℕ
month d = d / 100 % 100

abbrev pub day : ℕ → ℕ
day d = d % 100

abbrev pub dated : ℕ → ℕ → ℕ → ℕ
dated y m d = 10000 * y + 100 * m + d

-- a leap year: every fourth, but of the hundreds only every fourth
unfoldable pub is_leap : ℕ → Bool
is_leap y = eqb (y % 4) 0 && (not (eqb (y % 100) 0) || eqb (y % 400) 0)

unfoldable pub leap_day : ℕ → ℕ
leap_day y = cond (is_leap y) 1 0

-- the lengths of January to December
unfoldable pub month_lengths : ℕ → List ℕ
month_lengths y = 31 ∷ (28 + leap_day y) ∷ 31 ∷ 30 ∷ 31 ∷ 30 ∷ 31 ∷ 31 ∷ 30 ∷ 31 ∷ 30 ∷ 31 ∷ []

-- months are numbered from 1; one that no year has is given no days
unfoldable pub month_length : ℕ → ℕ → ℕ
month_length y m = get_or (0 ∷ month_lengths y) m 0

-- a day of the calendar, in any year
unfoldable pub is_real : ℕ → Bool
is_real d = within 1 (month_length (year d) (month d)) (day d)

-- a day of the years 1900 to 2299
unfoldable pub is_date : ℕ → Bool
is_date d = within 1900 2299 (year d) && is_real d

-- the day after: in the same month, or the first of the next, or 1 January
unfoldable pub next_day : ℕ → ℕ
next_day d =
    cond (ltb (day d) (month_length (year d) (month d))) (d + 1)
    (cond (ltb (month d) 12) (dated (year d) (month d + 1) 1)
    (dated (year d + 1) 1 1))

-- k days later
unfoldable pub later : ℕ → ℕ → ℕ
later zero d = d
later (suc k) d = next_day (later k d)

-- the days of the years 0 to y - 1: 365 each, one more in every fourth, less the hundreds, with every fourth of these
unfoldable pub year_start : ℕ → ℕ
year_start y = 365 * y + (y + 3) / 4 - (y + 99) / 100 + (y + 399) / 400

-- the days of a year before a month
unfoldable pub month_start : ℕ → ℕ → ℕ
month_start y m = sum_of (take m (0 ∷ month_lengths y)) (λ x. x)

-- a day's number in the count of all days
unfoldable pub day_number : ℕ → ℕ
day_number d = year_start (year d) + month_start (year d) (month d) + day d

-- the days from d to e, none where e is earlier
unfoldable pub days_between : ℕ → ℕ → ℕ
days_between d e = day_number e - day_number d

unfoldable pub is_leap_day : ℕ → Bool
is_leap_day d = eqb (month d) 2 && eqb (day d) 29

-- the same day and month n years on; 29 February falls on 28 February where there is none
unfoldable pub anniversary : ℕ → ℕ → ℕ
anniversary d n =
    let y = year d + n in
    cond (is_leap_day d && not (is_leap y)) (dated y 2 28) (dated y (month d) (day d))
