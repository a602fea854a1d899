-- What the formulas of src/lib.rt are. Assumes nothing.
use mathlib.Core.Path.{◌≡◌, refl, sym, ap, ◌∙◌}
use mathlib.Core.Logic.{◌≢◌, ◌⊎◌, ⊎_elim}
use mathlib.Core.Bool.{true, false, cond}
use mathlib.Core.List.{List, [], ◌∷◌}
use Prim.Native.Nat.{ℕ, max, min, zero, suc, ◌+◌, ◌-◌, ◌*◌, ◌/◌, ◌%◌, ◌≤◌, ◌<◌}
use native.Mathlib.Omega.{arith}
use lib.Dec.{leb}
use lib.ListN.{get_or}
use Rattle.lists.specs.Tables.{sum_of, list_to}
use Rattle.lists.proofs.Tables.{get_or-to}
use Rattle.dates.specs.Calendar.{year, month, day, dated, is_leap, leap_day, month_lengths, month_length, next_day, year_start, month_start, anniversary}
use Rattle.dates.proofs.Years.{below_or-from, leap_false, month_zero, no_month, february, year-more, year-end, month-end, start_early, start_late}
use Rattle.dates.proofs.Days.{next_in_month, next-month, next-year}
use Rattle.dates.proofs.Anniversaries.{kept, lost}

-- 31 and 30 in turn, and in turn again from August on; the test, computed
abbrev in_turn : ℕ → ℕ
in_turn m = 30 + (m + m / 8) % 2

turns : list_to 13 in_turn ≡ 30 ∷ 31 ∷ 30 ∷ 31 ∷ 30 ∷ 31 ∷ 30 ∷ 31 ∷ 31 ∷ 30 ∷ 31 ∷ 30 ∷ 31 ∷ []
unfolding list_to
turns = refl

-- so are the twelve months but February
pub coded-length : (y m : ℕ) → m ≢ 2 → 1 ≤ m → m ≤ 12 → in_turn m ≡ month_length y m
unfolding month_length month_lengths
coded-length y zero n l h = absurd (omega arith)
coded-length y (suc zero) n l h = refl
coded-length y (suc (suc zero)) n l h = absurd (n refl)
coded-length y (suc (suc (suc m))) n l h =
    sym (get_or-to 13 in_turn (suc (suc (suc m))) 0 (omega arith)) ∙ ap (λ (s : List ℕ). get_or s (suc (suc (suc m))) 0) turns

-- a month that is no month, and February
pub coded_none : (y m : ℕ) → (m < 1) ⊎ (12 < m) → 0 ≡ month_length y m
coded_none y m = ⊎_elim (λ h. sym (month_zero y m h)) (λ h. sym (no_month y m h))

pub coded_february : (y m l : ℕ) → m ≡ 2 → l ≡ leap_day y → 28 + l ≡ month_length y m
coded_february y m l e f = rw (e, f) (sym (february y))

-- the days before a month of a common year, as the year 1 is, and before the next; the test, computed
abbrev before : ℕ → ℕ → ℕ
before m short = (367 * m - 362) / 12 - short

befores : list_to 14 (λ m. before m (cond (leb m 2) 0 2)) ≡ list_to 14 (month_start 1)
unfolding list_to month_start sum_of month_lengths leap_day is_leap
befores = refl

common : leap_day 1 ≡ 0
common = leap_false 1 (unfold is_leap in refl)

pub start_small : (m : ℕ) → month_start 1 m ≤ 365
start_small m = omega (arith, month-end 1 m, common)

pub coded_start : (m short : ℕ) → short ≡ cond (leb m 2) 0 2 → m ≤ 13 → before m short ≡ month_start 1 m
coded_start m short e h =
    rw e
    (sym (get_or-to 14 (λ m. before m (cond (leb m 2) 0 2)) m 0 (omega arith))
    ∙ ap (λ (s : List ℕ). get_or s m 0) befores
    ∙ get_or-to 14 (month_start 1) m 0 (omega arith))

-- before January there is nothing, and behind December the year ends
pub start_first : (m : ℕ) → m < 1 → month_start 1 1 ≡ month_start 1 m
unfolding month_start sum_of
start_first zero h = refl
start_first (suc m) h = absurd (omega arith)

pub start_last : (m : ℕ) → 12 < m → month_start 1 13 ≡ month_start 1 m
start_last m h = year-end 1 13 (omega arith) ∙ sym (year-end 1 m h)

-- the place that is left of a month by the two ends
pub record Place (m place : ℕ) : Type 0 where
  pub to : place ≤ 13
  pub same : month_start 1 place ≡ month_start 1 m

pub clamped : (m place : ℕ) → place ≡ max 1 (min m 13) → Place m place
clamped m place e =
    below_or-from m 1
    (λ h.
    let first : place ≡ 1 = omega arith in
    rw first (record { to = omega arith; same = start_first m h }))
    (λ h.
    below_or-from 12 m
    (λ k.
    let last : place ≡ 13 = omega arith in
    rw last (record { to = omega arith; same = start_last m k }))
    (λ k.
    let kept : place ≡ m = omega arith in
    rw kept (record { to = omega arith; same = refl })))

-- the days before a month of a year: l leap days of some years before, which from March on are those to the next year, and s days of a common year
module _ (y m years l s : ℕ) (e : 365 * years + l ≡ year_start years) (f : s ≡ month_start 1 m) where
  pub number_early : m ≤ 2 → years ≡ y → 365 * y + l + s ≡ year_start y + month_start y m
  number_early h g = omega (arith, rw g at e, start_early 1 y m h)

  pub number_late : 2 < m → years ≡ y + 1 → 365 * y + l + s ≡ year_start y + month_start y m
  number_late h g = omega (arith, rw g at e, year-more y, start_late y 1 m h, common)

-- the next day
module _ (d l : ℕ) (e : l ≡ month_length (year d) (month d)) where
  pub coded_in_month : day d < l → d + 1 ≡ next_day d
  coded_in_month h = sym (next_in_month d (rw e at h))

  pub coded-month : l ≤ day d → month d < 12 → dated (year d) (month d + 1) 1 ≡ next_day d
  coded-month h m = sym (next-month d (rw e at h) m)

  pub coded-year : l ≤ day d → 12 ≤ month d → 10000 * (year d + 1) + 101 ≡ next_day d
  coded-year h m = sym (next-year d (rw e at h) m ∙ omega arith)

-- an anniversary
module _ (d n : ℕ) where
  same : dated (year d + n) (month d) (day d) ≡ d + 10000 * n
  same = omega arith

  pub coded-same : (d % 10000 ≡ 229 → ⊥) → d + 10000 * n ≡ anniversary d n
  coded-same h = sym (kept d n (λ m l. absurd (h (omega arith))) ∙ same)

  pub coded-leap : is_leap (year d + n) ≡ true → d + 10000 * n ≡ anniversary d n
  coded-leap h = sym (kept d n (λ m l. h) ∙ same)

  pub coded-lost : d % 10000 ≡ 229 → is_leap (year d + n) ≡ false → d + 10000 * n - 1 ≡ anniversary d n
  coded-lost h c =
      let second : month d ≡ 2 = omega arith in
      let day29 : day d ≡ 29 = omega arith in
      let at : d + 10000 * n - 1 ≡ dated (year d + n) 2 28 = omega arith in
      at ∙ sym (lost d n (record { second = second; last = day29; common = c }))

-- what `month_length`, `next_day` and `anniversary` owe
pub ruleset lengths = (coded_february, coded_none, coded-length)

pub ruleset next_days = (coded_in_month, coded-month, coded-year)

pub ruleset anniversaries = (coded-same, coded-leap, coded-lost)
