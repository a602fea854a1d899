-- Laws of years and months: their lengths, and the days before them. Assumes nothing.
use mathlib.Core.Path.{◌≡◌, refl, sym, ◌∙◌}
use mathlib.Core.Logic.{◌≢◌}
use mathlib.Core.Bool.{Bool, true, false, cond, not, ◌&&◌, ◌||◌}
use mathlib.Core.List.{List, [], ◌∷◌}
use Prim.Native.Nat.{ℕ, zero, suc, ◌+◌, ◌-◌, ◌*◌, ◌/◌, ◌%◌, ◌≤◌, ◌<◌}
use native.Mathlib.Nat.{add-zero}
use native.Mathlib.Numerals.{add-one}
use native.Mathlib.Omega.{arith}
use lib.Dec.{eqb, leb, ltb}
use lib.ListN.{length, get_or, take, get_or-eq_default}
use lib.Seq.{take_all}
use borrow.Author.Tests.{eq-eqb, ne_eqb, eqb-true, eqb-false, leb-true, ltb-true, ltb-false}
use Rattle.lists.specs.Choice.{every}
use Rattle.lists.specs.Tables.{sum_of}
use Rattle.lists.proofs.Tests.{by-test, either_way}
use Rattle.lists.proofs.Entries.{bounded, each-by, each_at}
use Rattle.dates.specs.Calendar.{is_leap, leap_day, month_lengths, month_length, year_start, month_start}

-- one number is below another, or it is not
pub below_or-from : {P : Type 0} (a b : ℕ) → (a < b → P) → (b ≤ a → P) → P
below_or-from a b p q = either_way (ltb a b) (λ e. p (ltb-true a b e)) (λ e. q (ltb-false a b e))

-- the four kinds of years
module _ (y : ℕ) where
  pub leap-other : y % 4 ≢ 0 → is_leap y ≡ false
  unfolding is_leap
  leap-other h = rw (ne_eqb (y % 4) 0 h)

  pub leap-fourth : y % 4 ≡ 0 → y % 100 ≢ 0 → is_leap y ≡ true
  unfolding is_leap
  leap-fourth a b = rw (eq-eqb (y % 4) 0 a, ne_eqb (y % 100) 0 b)

  pub leap_hundredth : y % 100 ≡ 0 → y % 400 ≢ 0 → is_leap y ≡ false
  unfolding is_leap
  leap_hundredth a b =
      let fourth : y % 4 ≡ 0 = omega arith in
      rw (eq-eqb (y % 4) 0 fourth, eq-eqb (y % 100) 0 a, ne_eqb (y % 400) 0 b)

  pub leap-four_hundredth : y % 400 ≡ 0 → is_leap y ≡ true
  unfolding is_leap
  leap-four_hundredth a =
      let fourth : y % 4 ≡ 0 = omega arith in
      let hundredth : y % 100 ≡ 0 = omega arith in
      rw (eq-eqb (y % 4) 0 fourth, eq-eqb (y % 100) 0 hundredth, eq-eqb (y % 400) 0 a)

  pub leap_true : is_leap y ≡ true → leap_day y ≡ 1
  unfolding leap_day
  leap_true e = rw e

  pub leap_false : is_leap y ≡ false → leap_day y ≡ 0
  unfolding leap_day
  leap_false e = rw e

-- what holds with a leap day and without holds of a year
pub by-leap : (P : ℕ → Type 0) (y : ℕ) → P 1 → P 0 → P (leap_day y)
unfolding leap_day
by-leap P y p q = by-test P (is_leap y) (λ _. p) (λ _. q)

pub leap-one : (y : ℕ) → leap_day y ≤ 1
leap-one y = by-leap (◌≤ 1) y (omega arith) (omega arith)

-- one more year is one more fourth, hundredth or four hundredth exactly if it is a multiple
module _ (y : ℕ) where
  fourth : (t : Bool) → eqb (y % 4) 0 ≡ t → (y + 1 + 3) / 4 ≡ (y + 3) / 4 + cond t 1 0
  fourth true e = omega (arith, eqb-true)
  fourth false e = omega (arith, eqb-false)

  hundredth : (t : Bool) → eqb (y % 100) 0 ≡ t → (y + 1 + 99) / 100 ≡ (y + 99) / 100 + cond t 1 0
  hundredth true e = omega (arith, eqb-true)
  hundredth false e = omega (arith, eqb-false)

  four_hundredth : (t : Bool) → eqb (y % 400) 0 ≡ t → (y + 1 + 399) / 400 ≡ (y + 399) / 400 + cond t 1 0
  four_hundredth true e = omega (arith, eqb-true)
  four_hundredth false e = omega (arith, eqb-false)

  -- the fourths are enough to take the hundredths from
  fewer : (y + 99) / 100 ≤ (y + 3) / 4
  fewer = omega arith

  -- the sum of a year more, where the three together make l
  sum-years : (a b c : Bool) (l : ℕ) → eqb (y % 4) 0 ≡ a → eqb (y % 100) 0 ≡ b → eqb (y % 400) 0 ≡ c
      → cond a 1 0 + cond c 1 0 ≡ cond b 1 0 + l → cond b 1 0 ≤ cond a 1 0 → year_start (y + 1) ≡ year_start y + 365 + l
  unfolding year_start
  sum-years a b c l p q r e m = rw (fourth a p, hundredth b q, four_hundredth c r) (sum _ _ _ (cond a 1 0) (cond b 1 0) (cond c 1 0) fewer e m)
    where
      sum : (f g h a b c : ℕ) → g ≤ f → a + c ≡ b + l → b ≤ a → 365 * (y + 1) + (f + a) - (g + b) + (h + c) ≡ 365 * y + f - g + h + 365 + l
      sum f g h a b c i j k = omega arith

  -- a year is 365 days and its leap day
  pub year-more : year_start (y + 1) ≡ year_start y + 365 + leap_day y
  unfolding leap_day is_leap
  year-more = by (eqb (y % 4) 0) (eqb (y % 100) 0) (eqb (y % 400) 0) refl refl refl
    where
      by : (a b c : Bool) → eqb (y % 4) 0 ≡ a → eqb (y % 100) 0 ≡ b → eqb (y % 400) 0 ≡ c
          → year_start (y + 1) ≡ year_start y + 365 + cond (a && (not b || c)) 1 0
      by true true true p q r = sum-years true true true 1 p q r refl (omega arith)
      by true true false p q r = sum-years true true false 0 p q r refl (omega arith)
      by true false false p q r = sum-years true false false 1 p q r refl (omega arith)
      by false false false p q r = sum-years false false false 0 p q r refl (omega arith)
      by false true c p q r = absurd (omega (arith, eqb-true (y % 100) 0 q, eqb-false (y % 4) 0 p))
      by a false true p q r = absurd (omega (arith, eqb-true (y % 400) 0 r, eqb-false (y % 100) 0 q))

-- a later year starts later
pub year-grows : (y k : ℕ) → year_start y ≤ year_start (y + k)
year-grows y zero = rw add-zero (omega arith)
year-grows y (suc k) =
    let more : y + suc k ≡ y + k + 1 = omega arith in
    rw more (omega (arith, year-grows y k, year-more (y + k)))

-- the sum of a list's first entries
sum_more : (l : List ℕ) (i : ℕ) → sum_of (take (suc i) l) (λ x. x) ≡ sum_of (take i l) (λ x. x) + get_or l i 0
unfolding sum_of
sum_more [] zero = refl
sum_more [] (suc i) = refl
sum_more (x ∷ l) zero = omega arith
sum_more (x ∷ l) (suc i) = omega (arith, sum_more l i)

module _ (y : ℕ) where
  -- a month starts where the one before it ends
  pub month-more : (m : ℕ) → month_start y (m + 1) ≡ month_start y m + month_length y m
  unfolding month_start month_length
  month-more m = rw (add-one m) (sum_more (0 ∷ month_lengths y) m)

  pub january : month_start y 1 ≡ 0
  unfolding month_start sum_of
  january = refl

  -- behind December the year ends
  pub year-end : (m : ℕ) → 12 < m → month_start y m ≡ 365 + leap_day y
  unfolding month_start month_lengths sum_of
  year-end m h = rw (take_all m (0 ∷ month_lengths y) (omega arith)) (omega arith)

  -- a later month starts later
  pub month-grows : (m k : ℕ) → month_start y m ≤ month_start y (m + k)
  month-grows m zero = rw add-zero (omega arith)
  month-grows m (suc k) =
      let more : m + suc k ≡ m + k + 1 = omega arith in
      rw more (omega (arith, month-grows m k, month-more (m + k)))

  -- a month ends within the year, and December with it
  pub month-end : (m : ℕ) → month_start y m + month_length y m ≤ 365 + leap_day y
  month-end m = omega (arith, month-more m, month-grows (m + 1) 12, year-end (m + 1 + 12) (omega arith))

  pub december_end : month_start y 12 + month_length y 12 ≡ 365 + leap_day y
  december_end = omega (arith, month-more 12, year-end 13 (omega arith))

-- the lengths of the months with a leap day or none
abbrev pub lengths : ℕ → List ℕ
lengths l = 0 ∷ 31 ∷ (28 + l) ∷ 31 ∷ 30 ∷ 31 ∷ 30 ∷ 31 ∷ 31 ∷ 30 ∷ 31 ∷ 30 ∷ 31 ∷ []

-- no month is longer than 31 days
pub length_high : (y m : ℕ) → month_length y m ≤ 31
unfolding month_length month_lengths
length_high y m = by-leap (λ l. get_or (lengths l) m 0 ≤ 31) y (bounded 31 (lengths 1) refl m) (bounded 31 (lengths 0) refl m)

-- each of the twelve has 28
pub length-low : (y m : ℕ) → 1 ≤ m → m ≤ 12 → 28 ≤ month_length y m
unfolding month_length month_lengths leap_day is_leap
length-low y zero a b = absurd (omega arith)
length-low y (suc m) a b =
    by-leap (λ l. 28 ≤ get_or (lengths l) (suc m) 0) y (low (month_lengths 4) refl refl) (low (month_lengths 1) refl refl)
  where
    low : (l : List ℕ) → every (leb 28) l ≡ true → length l ≡ 12 → 28 ≤ get_or l m 0
    low l e n = each_at (28 ≤◌) 0 l (each-by (28 ≤◌) (leb 28) (leb-true 28) l e) m (omega arith)

-- and a month that has days is one of the twelve
pub month_zero : (y m : ℕ) → m < 1 → month_length y m ≡ 0
unfolding month_length
month_zero y zero h = refl
month_zero y (suc m) h = absurd (omega arith)

pub no_month : (y m : ℕ) → 12 < m → month_length y m ≡ 0
unfolding month_length month_lengths
no_month y m h = get_or-eq_default (0 ∷ month_lengths y) 0 {n = m} (omega arith)

pub month-low : (y m : ℕ) → 1 ≤ month_length y m → 1 ≤ m
unfolding month_length
month-low y zero h = h
month-low y (suc m) h = omega arith

pub month-high : (y m : ℕ) → 1 ≤ month_length y m → m ≤ 12
month-high y m h = below_or-from 12 m (λ l. absurd (omega (arith, no_month y m l))) (λ l. l)

pub february : (y : ℕ) → month_length y 2 ≡ 28 + leap_day y
unfolding month_length month_lengths
february y = refl

pub december_length : (y : ℕ) → month_length y 12 ≡ 31
unfolding month_length month_lengths
december_length y = refl

-- every other month has one length
pub other_length : (y m : ℕ) → m ≢ 2 → month_length y m ≡ get_or (lengths 0) m 0
unfolding month_length month_lengths
other_length y zero h = refl
other_length y (suc zero) h = refl
other_length y (suc (suc zero)) h = absurd (h refl)
other_length y (suc (suc (suc m))) h = refl

pub other-month : (y z m : ℕ) → m ≢ 2 → month_length y m ≡ month_length z m
other-month y z m h = other_length y m h ∙ sym (other_length z m h)

-- January and February start alike in all years, and March to December a leap day later
pub start_early : (y z m : ℕ) → m ≤ 2 → month_start y m ≡ month_start z m
unfolding month_start month_lengths sum_of
start_early y z zero h = refl
start_early y z (suc zero) h = refl
start_early y z (suc (suc zero)) h = refl
start_early y z (suc (suc (suc m))) h = absurd (omega arith)

pub start_late : (y z m : ℕ) → 2 < m → month_start y m + leap_day z ≡ month_start z m + leap_day y
unfolding month_start month_lengths sum_of
start_late y z zero h = absurd (omega arith)
start_late y z (suc zero) h = absurd (omega arith)
start_late y z (suc (suc zero)) h = absurd (omega arith)
start_late y z (suc (suc (suc m))) h = omega arith
