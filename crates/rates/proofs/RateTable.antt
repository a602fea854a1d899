-- Document 01's table of rates follows from the article's terms. Assumes nothing.
use mathlib.Core.Path.{◌≡◌, refl, ap, ◌∙◌}
use Prim.Native.Nat.{ℕ, ◌*◌, ◌/◌, ◌≤◌, ◌<◌}
use native.Mathlib.Omega.{arith}
use Rattle.dates.specs.Calendar.{days_between}
use Rattle.dates.proofs.Anniversaries.{anniversary-grows}
use Rattle.holding.specs.declared.Account.{Account}
use Rattle.holding.specs.declared.Kind.{Kind}
use Rattle.holding.specs.declared.Kind.TheVariants.{Bond, Coupon, Residual}
use Rattle.holding.specs.declared.Issuer.{Issuer}
use Rattle.holding.specs.declared.Holding.{Holding}
use Rattle.rates.specs.Rate.{period_of, percents, flat_rate, bond_rate, strip_rate, kind_rate, class_of, rate_at, rate_of}
use Rattle.rates.specs.RateTable.{Rates, RateTable}
use Rattle.rates.proofs.Periods.{end, over_fewer, below_more, over, up_to, period_1, period_2, period_3, period_4, period_5}
use Rattle.rates.proofs.Terms.{within-one, over-one, of-corporation, below_twenty, from_twenty}

-- what is no bond has a strip's rate
pub strip : (k : Kind) (bond : ℕ) (a : Account) (m : ℕ) → (k ≡ Bond → ⊥) → kind_rate k bond a m ≡ strip_rate bond a m
unfolding kind_rate
strip Bond bond a m f = absurd (f refl)
strip Coupon bond a m f = refl
strip Residual bond a m f = refl

module _ (a : Account) (h : Holding) where
  abbrev m : ℕ
  m = h.maturity

  -- a bond's rate up to a year, and in a period over a year
  fraction : m ≤ end a 1 → (class : ℕ) → (class ≡ 2 → ⊥) → bond_rate class a m ≡ flat_rate class 1 * days_between a.date m / 365
  fraction l class g =
      within-one class a m g (up_to a m 1 l)
      ∙ ap (λ (p : ℕ). flat_rate class p * days_between a.date m / 365) (period_1 a m l)

  flat : (p : ℕ) → end a 1 < m → period_of a m ≡ p → (class : ℕ) → bond_rate class a m ≡ flat_rate class p
  flat p l e class = over-one class a m (over a m 1 l) ∙ ap (flat_rate class) e

  of-bond : {i : Issuer} {x : ℕ} → bond_rate (class_of i) a m ≡ x → h.issuer ≡ i → h.kind ≡ Bond → rate_of a h ≡ x
  unfolding rate_of rate_at kind_rate
  of-bond p e k = rw (e, k) p

  of-strip : {i : Issuer} {x y : ℕ} → bond_rate (class_of i) a m ≡ x → strip_rate x a m ≡ y → h.issuer ≡ i → (h.kind ≡ Bond → ⊥) → rate_of a h ≡ y
  unfolding rate_of rate_at
  of-strip p q e k = strip h.kind _ a m k ∙ rw (e, p) q

  -- a row from the rates of the bonds
  rates : {x y z w u v : ℕ} → bond_rate 0 a m ≡ x → strip_rate x a m ≡ y → bond_rate 1 a m ≡ z → strip_rate z a m ≡ w → bond_rate 2 a m ≡ u → strip_rate u a m ≡ v
      → Rates a h x y z w u v
  rates p q r s t c = record {
    of_canada_bond = of-bond p;
    of_canada_strip = of-strip p q;
    of_province_bond = λ _. of-bond r;
    of_province_strip = λ _. of-strip r s;
    of_us_bond = of-bond p;
    of_us_strip = of-strip p q;
    of_gb_bond = of-bond p;
    of_gb_strip = of-strip p q;
    of_corporation_bond = λ _. of-bond t;
    of_corporation_strip = λ _. of-strip t c;
  }

  -- a row over a year and below 20 years
  short : (p : ℕ) → end a 1 < m → m < end a 20 → period_of a m ≡ p
      → Rates a h (flat_rate 0 p) (flat_rate 0 p * 3 / 2) (flat_rate 1 p) (flat_rate 1 p * 3 / 2) (flat_rate 2 p) (flat_rate 2 p * 3 / 2)
  short p l b e = rates (flat p l e 0) (below_twenty _ a m b) (flat p l e 1) (below_twenty _ a m b) (flat p l e 2) (below_twenty _ a m b)

  pub rate-table : RateTable a h
  unfolding flat_rate percents
  rate-table =
      record {
        row_1 = λ b.
            let low = below_more a m 1 20 (omega arith) b in
            let whole = of-corporation 2 a m refl ∙ ap (flat_rate 2) (period_1 a m b) in
            rates (fraction b 0 (λ z. omega arith) ∙ omega arith) (below_twenty _ a m low ∙ omega arith) (fraction b 1 (λ z. omega arith) ∙ omega arith)
            (below_twenty _ a m low ∙ omega arith) whole (below_twenty _ a m low);
        row_2 = λ l b. short 2 l (below_more a m 3 20 (omega arith) b) (period_2 a m l b);
        row_3 = λ l b. short 3 (over_fewer a m 1 3 (omega arith) l) (below_more a m 7 20 (omega arith) b) (period_3 a m l b);
        row_4 = λ l b. short 4 (over_fewer a m 1 7 (omega arith) l) (below_more a m 11 20 (omega arith) b) (period_4 a m l b);
        row_5_below = λ l b. short 5 (over_fewer a m 1 11 (omega arith) l) b (period_5 a m l);
        row_5_from = λ b.
            let l : end a 11 < m = omega (arith, anniversary-grows a.date 11 20 (omega arith)) in
            let over-11 = flat 5 (over_fewer a m 1 11 (omega arith) l) (period_5 a m l) in
            rates (over-11 0) (from_twenty _ a m b) (over-11 1) (from_twenty _ a m b) (over-11 2) (from_twenty _ a m b);
      }
