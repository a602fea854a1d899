-- What two legs save as a pair is at most 43,800, by the rule that they have. Assumes nothing.
use mathlib.Core.Path.{◌≡◌, sym}
use mathlib.Core.Logic.{◌⊎◌, inl, inr, ⊎_elim}
use mathlib.Core.Bool.{Bool, true, false, ◌&&◌, and-eq-true_iff, false≢true}
use Prim.Native.Nat.{◌+◌, ◌-◌, ◌≤◌}
use native.Mathlib.Omega.{arith}
use borrow.Author.Tests.{eqb-true}
use Rattle.lists.proofs.Tests.{within_true, one_of, either_way}
use Rattle.holding.proofs.Issuers.{no_corporation_lem}
use Rattle.rates.proofs.FlatRates.{flat_high}
use Rattle.article.proofs.Legs.{Permitted, one_class, two_classes, one_corporation, one_government, permitted}
use Rattle.article.specs.Pair.{is_bond, is_strip, is_canada, is_province, is_us, is_gb, is_corporate, same_class, mixed_class, same_corporation, same_government, one_bond}
use Rattle.article.specs.Pair.{rule_of, permits, rule_rate, pair_rate_of, saving_rate_of, saving_limit, RateInRange}
use Rattle.article.specs.declared.pair.Rule.{Rule}
use Rattle.article.specs.declared.pair.Rule.TheVariants.{Difference, HalfSum, Capped, NotAllowed}
use Rattle.article.specs.declared.pair.Leg.{Leg}

-- what is no corporation's
module _ (l : Leg) where
  of-government : l.issuer ≤ 12 → is_corporate l ≡ false
  unfolding is_corporate
  of-government h = no_corporation_lem l.issuer h

  canada : is_canada l ≡ true → is_corporate l ≡ false
  unfolding is_canada
  canada e = of-government (omega (arith, eqb-true l.issuer 0 e))

  province : is_province l ≡ true → is_corporate l ≡ false
  unfolding is_province
  province e = of-government (omega (arith, (within_true 1 10 l.issuer e).1))

  us : is_us l ≡ true → is_corporate l ≡ false
  unfolding is_us
  us e = of-government (omega (arith, eqb-true l.issuer 11 e))

  gb : is_gb l ≡ true → is_corporate l ≡ false
  unfolding is_gb
  gb e = of-government (omega (arith, eqb-true l.issuer 12 e))

-- two tests that hold, each with what follows from it
both : {A B : Type 0} (t u : Bool) → (t ≡ true → A) → (u ≡ true → B) → (t && u) ≡ true → A × B
both t u f g e = let (x, y) = (and-eq-true_iff t u).0 e in (f x, g y)

module _ (l s : Leg) where
  abbrev pub Governments : Type 0
  Governments = (is_corporate l ≡ false) × (is_corporate s ≡ false)

  pub of-one_class : same_class l s ≡ true → Governments
  unfolding same_class
  of-one_class e = ⊎_elim (both _ _ (canada l) (canada s)) (both _ _ (province l) (province s)) (one_of _ _ e)

  pub of-two-classes : mixed_class l s ≡ true → Governments
  unfolding mixed_class
  of-two-classes e = ⊎_elim (both _ _ (canada l) (province s)) (both _ _ (province l) (canada s)) (one_of _ _ e)

  pub of-one-government : same_government l s ≡ true → Governments
  unfolding same_government
  of-one-government e = ⊎_elim (λ o. ⊎_elim (both _ _ (canada l) (canada s)) (both _ _ (us l) (us s)) (one_of _ _ o)) (both _ _ (gb l) (gb s)) (one_of _ _ e)

-- the bond of two legs: the long, with a strip as the short, or the other way round
pub one_bond-of : (l s : Leg) → one_bond l s ≡ true → ((is_bond l ≡ true) × (is_strip s ≡ true)) ⊎ ((is_strip l ≡ true) × (is_bond s ≡ true))
unfolding one_bond
one_bond-of l s e = ⊎_elim (λ x. inl ((and-eq-true_iff _ _).0 x)) (λ x. inr ((and-eq-true_iff _ _).0 x)) (one_of _ _ e)

-- two legs of one corporation
pub corporate-legs : (l s : Leg) → same_corporation l s ≡ true → (is_corporate l ≡ true) × ((is_corporate s ≡ true) × (l.issuer ≡ s.issuer))
unfolding same_corporation is_corporate
corporate-legs l s e =
    let (n, i) = (and-eq-true_iff _ _).0 e in
    let same = eqb-true l.issuer s.issuer i in
    (n, (rw same at n, same))

module _ (l s : Leg) (f : RateInRange l) (g : RateInRange s) where
  -- of a corporation the bond has at most 14,600
  bond-high : is_corporate l ≡ true → is_corporate s ≡ true → one_bond l s ≡ true → (l.rate ≤ 14600) ⊎ (s.rate ≤ 14600)
  bond-high c d e =
      ⊎_elim
      (λ x. inl (omega (arith, f.bond c x.0, flat_high 2 l.period)))
      (λ x. inr (omega (arith, g.bond d x.1, flat_high 2 s.period)))
      (one_bond-of l s e)

  saved : {r : Rule} → Permitted l s r → l.rate + s.rate - rule_rate r l.rate s.rate ≤ saving_limit
  unfolding rule_rate
  saved (one_class c k e _) = let (x, y) = of-one_class l s e in omega (arith, f.government x, g.government y)
  saved (two_classes c k e) = let (x, y) = of-two-classes l s e in omega (arith, f.government x, g.government y)
  saved (one_government c p k e) = let (x, y) = of-one-government l s e in omega (arith, f.government x, g.government y)
  saved (one_corporation c p k n rated) =
      let (first, (second, _)) = corporate-legs l s n in
      ⊎_elim (λ x. omega (arith, x, g.high)) (λ x. omega (arith, x, f.high)) (bond-high first second k)

  -- the saving rate lies between 0 and 43,800
  pub saving-high : saving_rate_of l s ≤ saving_limit
  unfolding saving_rate_of pair_rate_of rule_rate
  saving-high = either_way (permits (rule_of l s)) (λ e. saved (permitted l s e)) (λ e. by (rule_of l s) e)
    where
      by : (r : Rule) → permits r ≡ false → l.rate + s.rate - rule_rate r l.rate s.rate ≤ saving_limit
      by Difference e = absurd (false≢true (sym e))
      by HalfSum e = absurd (false≢true (sym e))
      by Capped e = absurd (false≢true (sym e))
      by NotAllowed e = omega arith
