-- The rate of a leg by the law of its issuer's class. Assumes nothing.
use mathlib.Core.Path.{◌≡◌, refl, sym, ap, ◌∙◌}
use mathlib.Core.Logic.{◌⊎◌, inl, inr, ⊎_elim}
use mathlib.Core.Bool.{true, false, false≢true}
use Prim.Native.Nat.{◌≤◌, ◌<◌}
use native.Mathlib.Omega.{arith}
use lib.Dec.{eqb}
use Rattle.lists.proofs.Tests.{within_true, either_way}
use Rattle.holding.proofs.Ranges.{province_range, corporation_range}
use Rattle.holding.proofs.Issuers.{no_corporation_lem}
use Rattle.holding.specs.Holding.{Government, Corporate, is_corporation, issuer_number, kind_number, row_of, InRange}
use Rattle.holding.specs.declared.Issuer.{Issuer}
use Rattle.holding.specs.declared.Issuer.TheVariants.{Canada, Province, UnitedStates, UnitedKingdom, Corporation}
use Rattle.holding.specs.declared.Kind.{Kind}
use Rattle.holding.specs.declared.Holding.{Holding}
use Rattle.holding.specs.declared.Account.{Account}
use Rattle.rates.specs.Rate.{period_of, class_of, rate_of}
use Rattle.rates.proofs.FlatRates.{flat_high}
use Rattle.rates.proofs.Rates.{government-high, corporate-bond, corporate_multiple}
use Rattle.article.proofs.ByKind.{bond-of, strip-of}
use Rattle.article.specs.Pair.{leg_of, is_corporate, is_bond, is_strip, rate_limit, RateInRange}

-- a known issuer is a government, of Group I or II, or a corporation, of Group V
by-class : (i : Issuer) → Government (issuer_number i) ⊎ Corporate (issuer_number i)
    → ((class_of i < 2) × (is_corporation (issuer_number i) ≡ false)) ⊎ ((class_of i ≡ 2) × (is_corporation (issuer_number i) ≡ true))
by-class Canada h = inl (omega arith, no_corporation_lem 0 (omega arith))
by-class (Province p) h =
    let w = province_range p h in
    inl (omega arith, rw w (no_corporation_lem p (omega (arith, (within_true 1 10 p w).1))))
by-class UnitedStates h = inl (omega arith, no_corporation_lem 11 (omega arith))
by-class UnitedKingdom h = inl (omega arith, no_corporation_lem 12 (omega arith))
by-class (Corporation c) h = let w = corporation_range c h in inr (refl, rw w w)

module _ (a : Account) (h : Holding) (g : InRange a h) where
  -- a corporation's rate is at most 43,800
  corporate-high : class_of h.issuer ≡ 2 → rate_of a h ≤ rate_limit
  corporate-high c =
      either_way (eqb (kind_number h.kind) 0)
      (λ e. omega (arith, corporate-bond a h c (bond-of h.kind e), flat_high 2 (period_of a h.maturity)))
      (λ e.
      ⊎_elim (λ x. omega (arith, x, flat_high 2 (period_of a h.maturity))) (λ x. omega (arith, x.1))
      (corporate_multiple a h c (λ k. false≢true (sym e ∙ ap (λ (x : Kind). eqb (kind_number x) 0) k))))

  pub leg-rates : RateInRange (leg_of a h)
  unfolding leg_of row_of is_corporate is_bond is_strip
  leg-rates =
      ⊎_elim
      (λ c.
      let high = government-high a h c.0 g in
      record {
        high = omega (arith, high);
        government = λ _. high;
        bond = λ t _. absurd (false≢true (sym c.1 ∙ t));
        strip = λ t _. absurd (false≢true (sym c.1 ∙ t));
      })
      (λ c. record {
        high = corporate-high c.0;
        government = λ t. absurd (false≢true (sym t ∙ c.1));
        bond = λ _ k. corporate-bond a h c.0 (bond-of h.kind k);
        strip = λ _ k. corporate_multiple a h c.0 (strip-of h.kind k);
      })
      (by-class h.issuer g.ranges.identity.issuer)
