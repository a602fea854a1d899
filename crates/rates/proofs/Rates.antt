-- Laws of a rate: none of a government's record within the ranges is above the highest, a corporation's is by its period, and each is even, so that half the sum of two is
-- exact. Assumes nothing.
use mathlib.Core.Path.{◌≡◌, refl, ◌∙◌}
use mathlib.Core.Logic.{◌⊎◌, inl, inr}
use mathlib.Core.Bool.{true, ◌||◌}
use mathlib.Core.List.{[]}
use Prim.Native.Nat.{ℕ, ◌-◌, ◌*◌, ◌/◌, ◌≤◌, ◌<◌}
use native.Mathlib.Nat.{mul-le-mul}
use native.Mathlib.Omega.{arith}
use lib.Dec.{eqb, leb}
use lib.ListN.{get_or}
use borrow.Author.Tests.{ltb-false, leb-true, leb-false}
use Rattle.lists.proofs.Tests.{by-test, either_way, neither}
use Rattle.dates.specs.Calendar.{is_date, days_between}
use Rattle.dates.proofs.Anniversaries.{within-year, anniversary-grows}
use Rattle.holding.specs.Holding.{row_of, InRange}
use Rattle.holding.specs.declared.Account.{Account}
use Rattle.holding.specs.declared.Kind.{Kind}
use Rattle.holding.specs.declared.Kind.TheVariants.{Bond, Coupon, Residual}
use Rattle.holding.specs.declared.Holding.{Holding}
use Rattle.rates.specs.Rate.{longer_than, at_least, period_of, percents, flat_rate, bond_rate, strip_rate, kind_rate, class_of, rate_at, rate_of}
use Rattle.rates.proofs.FlatRates.{government_flat, first-high}
use Rattle.rates.proofs.Periods.{end, period_1, period_5}
use Rattle.rates.proofs.Terms.{of-corporation, below_twenty, from_twenty}
use Rattle.rates.proofs.RateTable.{strip}

-- n times a whole number
abbrev Times : ℕ → ℕ → Type 0
Times n x = (k : ℕ) × (x ≡ n * k)

module _ (a : Account) (m : ℕ) where
  bond-times : (class : ℕ) → Times 4 (bond_rate class a m)
  unfolding bond_rate flat_rate
  bond-times class =
      let percent = get_or (get_or percents class []) (period_of a m - 1) 0 in
      by-test (Times 4) (eqb class 2 || longer_than a m 1) (λ _. (percent * 365, omega arith)) (λ _. (percent * days_between a.date m, omega arith))

  strip_even : (bond : ℕ) → Times 4 bond → Times 2 (strip_rate bond a m)
  unfolding strip_rate
  strip_even bond (k, e) = by-test (Times 2) (at_least a m 20) (λ _. (6 * k, omega arith)) (λ _. (3 * k, omega arith))

  kind_even : (kind : Kind) (bond : ℕ) → Times 4 bond → Times 2 (kind_rate kind bond a m)
  unfolding kind_rate
  kind_even Bond bond (k, e) = (2 * k, omega arith)
  kind_even Coupon bond t = strip_even bond t
  kind_even Residual bond t = strip_even bond t

  -- between two dates a year has at most 366 days, and up to a year no bond of a government is above 2 percent
  government-bond : (class : ℕ) → class < 2 → is_date a.date ≡ true → is_date m ≡ true → bond_rate class a m ≤ 7300
  unfolding bond_rate longer_than
  government-bond class g d e =
      by-test (◌≤ 7300) (eqb class 2 || longer_than a m 1) (λ _. government_flat class (period_of a m) g)
      (λ t.
      let up-to-1 = ltb-false _ m (neither (eqb class 2) _ t).1 in
      let flat : flat_rate class (period_of a m) ≤ 2920 = rw (period_1 a m up-to-1) (first-high class g) in
      omega (arith, mul-le-mul flat (within-year a.date m d e up-to-1)))

  strip-high : (bond : ℕ) → bond ≤ 7300 → strip_rate bond a m ≤ 21900
  unfolding strip_rate
  strip-high bond h = by-test (◌≤ 21900) (at_least a m 20) (λ _. omega arith) (λ _. omega arith)

  kind-high : (kind : Kind) (bond : ℕ) → bond ≤ 7300 → kind_rate kind bond a m ≤ 21900
  unfolding kind_rate
  kind-high Bond bond h = omega arith
  kind-high Coupon bond h = strip-high bond h
  kind-high Residual bond h = strip-high bond h

  bond_flat : (p : ℕ) → Times 4 (flat_rate 2 p)
  unfolding flat_rate
  bond_flat p = (get_or (get_or percents 2 []) (p - 1) 0 * 365, omega arith)

  halved : {x : ℕ} → Times 4 x → 2 * (x * 3 / 2) ≡ 3 * x
  halved (k, e) = rw e (omega arith)

  -- a corporation's strip has one and a half times the rate of its bond, or from 20 years, in the fifth period, three times
  corporate-strip : (2 * strip_rate (flat_rate 2 (period_of a m)) a m ≡ 3 * flat_rate 2 (period_of a m)) ⊎ ((period_of a m ≡ 5) × (strip_rate (flat_rate 2 (period_of a m)) a m ≡ 43800))
  corporate-strip =
      either_way (leb (end a 20) m)
      (λ t.
      let from : end a 20 ≤ m = leb-true (end a 20) m t in
      let fifth = period_5 a m (omega (arith, anniversary-grows a.date 11 20 (omega arith))) in
      inr (fifth, rw fifth (from_twenty (flat_rate 2 5) a m from ∙ (unfold flat_rate percents in refl))))
      (λ f. inl (rw (below_twenty (flat_rate 2 (period_of a m)) a m (leb-false (end a 20) m f)) (halved (bond_flat (period_of a m)))))

module _ (a : Account) (h : Holding) where
  -- each rate is even
  pub rate_even : (k : ℕ) × (rate_of a h ≡ 2 * k)
  unfolding rate_of rate_at
  rate_even = kind_even a h.maturity h.kind _ (bond-times a h.maturity (class_of h.issuer))

  -- no rate of a government's record within the ranges is above 21,900
  pub government-high : class_of h.issuer < 2 → InRange a h → rate_of a h ≤ 21900
  unfolding rate_of rate_at row_of
  government-high g r =
      kind-high a h.maturity h.kind _ (government-bond a h.maturity (class_of h.issuer) g r.valued r.ranges.maturity.date)

  -- a corporation's bond has the flat rate of its period, and its strip a multiple of that
  pub corporate-bond : class_of h.issuer ≡ 2 → h.kind ≡ Bond → rate_of a h ≡ flat_rate 2 (period_of a h.maturity)
  unfolding rate_of rate_at kind_rate
  corporate-bond c k = rw (k, c) (of-corporation 2 a h.maturity refl)

  pub corporate_multiple : class_of h.issuer ≡ 2 → (h.kind ≡ Bond → ⊥)
      → (2 * rate_of a h ≡ 3 * flat_rate 2 (period_of a h.maturity)) ⊎ ((period_of a h.maturity ≡ 5) × (rate_of a h ≡ 43800))
  unfolding rate_of rate_at
  corporate_multiple c k =
      let same = strip h.kind (bond_rate (class_of h.issuer) a h.maturity) a h.maturity k in
      rw (same, c, of-corporation 2 a h.maturity refl) (corporate-strip a h.maturity)
