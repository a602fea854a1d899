-- The period of a term between two ends, and that there are five. Assumes nothing.
use mathlib.Core.Path.{◌≡◌}
use mathlib.Core.Bool.{Bool, true, false, cond}
use Prim.Native.Nat.{ℕ, ◌+◌, ◌≤◌, ◌<◌}
use native.Mathlib.Nat.{le_of_lt}
use native.Mathlib.Omega.{arith}
use borrow.Author.Tests.{le-ltb, lt-ltb, ltb-false}
use Rattle.lists.specs.Choice.{count}
use Rattle.lists.proofs.Tests.{by-test, either_way}
use Rattle.dates.specs.Calendar.{anniversary}
use Rattle.dates.proofs.Anniversaries.{anniversary-grows}
use Rattle.holding.specs.declared.Account.{Account}
use Rattle.rates.specs.Rate.{longer_than, period_of}
use Rattle.rates.specs.RateTable.{Periods}

-- the end at n years
abbrev pub end : Account → ℕ → ℕ
end a = anniversary a.date

module _ (a : Account) (m : ℕ) where
  -- what is over more years is over fewer, and what is up to fewer is below more
  pub over_fewer : (n k : ℕ) → n < k → end a k < m → end a n < m
  over_fewer n k l h = omega (arith, anniversary-grows a.date n k l)

  pub below_more : (n k : ℕ) → n < k → m ≤ end a n → m < end a k
  below_more n k l h = omega (arith, anniversary-grows a.date n k l)

  -- the test of a term over n years, and of one up to n years or below
  pub over : (n : ℕ) → end a n < m → longer_than a m n ≡ true
  unfolding longer_than
  over n = lt-ltb (end a n) m

  pub up_to : (n : ℕ) → m ≤ end a n → longer_than a m n ≡ false
  unfolding longer_than
  up_to n = le-ltb (end a n) m

  below : (n : ℕ) → m < end a n → longer_than a m n ≡ false
  below n h = up_to n (le_of_lt h)

  -- one more than how many of the ends at 1, 3, 7 and 11 years the term is over
  ends : {p q r s : Bool} → longer_than a m 1 ≡ p → longer_than a m 3 ≡ q → longer_than a m 7 ≡ r → longer_than a m 11 ≡ s
      → period_of a m ≡ 1 + (cond p 1 0 + (cond q 1 0 + (cond r 1 0 + (cond s 1 0 + 0))))
  unfolding period_of count
  ends p q r s = λ i. 1 + (cond (p i) 1 0 + (cond (q i) 1 0 + (cond (r i) 1 0 + (cond (s i) 1 0 + 0))))

  pub period_1 : m ≤ end a 1 → period_of a m ≡ 1
  period_1 h =
      ends (up_to 1 h)
      (below 3 (below_more 1 3 (omega arith) h)) (below 7 (below_more 1 7 (omega arith) h)) (below 11 (below_more 1 11 (omega arith) h))

  pub period_2 : end a 1 < m → m ≤ end a 3 → period_of a m ≡ 2
  period_2 l h = ends (over 1 l) (up_to 3 h) (below 7 (below_more 3 7 (omega arith) h)) (below 11 (below_more 3 11 (omega arith) h))

  pub period_3 : end a 3 < m → m ≤ end a 7 → period_of a m ≡ 3
  period_3 l h = ends (over 1 (over_fewer 1 3 (omega arith) l)) (over 3 l) (up_to 7 h) (below 11 (below_more 7 11 (omega arith) h))

  pub period_4 : end a 7 < m → m ≤ end a 11 → period_of a m ≡ 4
  period_4 l h = ends (over 1 (over_fewer 1 7 (omega arith) l)) (over 3 (over_fewer 3 7 (omega arith) l)) (over 7 l) (up_to 11 h)

  pub period_5 : end a 11 < m → period_of a m ≡ 5
  period_5 l =
      ends (over 1 (over_fewer 1 11 (omega arith) l)) (over 3 (over_fewer 3 11 (omega arith) l)) (over 7 (over_fewer 7 11 (omega arith) l))
      (over 11 l)

  -- the page's periods
  pub periods : Periods a m
  periods = record { first = period_1; second = period_2; third = period_3; fourth = period_4; fifth = period_5 }

  -- there are five
  pub period-low : period_of a m ≤ 5
  unfolding period_of count
  period-low =
      let one : (n : ℕ) → cond (longer_than a m n) 1 0 ≤ 1 = λ n. by-test (◌≤ 1) (longer_than a m n) (λ _. omega arith) (λ _. omega arith) in
      omega (arith, one 1, one 3, one 7, one 11)

  -- the first is up to a year, and no other is
  pub first-only : period_of a m ≡ 1 → longer_than a m 1 ≡ false
  unfolding period_of count
  first-only e = either_way (longer_than a m 1) (λ t. absurd (omega (arith, rw t at e))) (λ f. f)

  pub not_first : (period_of a m ≡ 1 → ⊥) → longer_than a m 1 ≡ true
  unfolding longer_than
  not_first h = either_way (longer_than a m 1) (λ t. t) (λ f. absurd (h (period_1 (ltb-false _ _ f))))
