-- What a pair saves at most, by the marks and the rates of its legs: the law of the scan's estimate. Assumes nothing.
use mathlib.Core.Path.{◌≡◌, refl, sym, ap, ◌∙◌}
use mathlib.Core.Logic.{◌⊎◌, inl, inr, ⊎_elim}
use mathlib.Core.Bool.{Bool, true, false, cond, not, ◌&&◌, ◌||◌, and-eq-true_iff, and-false}
use Prim.Native.Nat.{ℕ, ◌+◌, ◌-◌, ◌*◌, ◌/◌, ◌%◌, ◌≤◌, min, max}
use native.Mathlib.Omega.{arith}
use native.Mathlib.Nat.{le_trans}
use lib.Dec.{eqb}
use borrow.Author.Tests.{ne_eqb, eqb-true, eq-eqb, not-true}
use Rattle.lists.specs.Choice.{within}
use Rattle.lists.proofs.Tests.{within_true, by-test, one_of, neither, either_way}
use Rattle.holding.proofs.Issuers.{corporation-is, above_range}
use Rattle.rates.specs.Rate.{flat_rate, percents}
use Rattle.rates.proofs.FlatRates.{flat_high}
use Rattle.article.proofs.Saved.{of-one_class, of-two-classes, of-one-government, one_bond-of, corporate-legs}
use Rattle.article.specs.Pair.{is_participant, are_participants, is_bond, is_strip, is_canada, is_province, is_us, is_gb, in_cad, in_usd, in_gbp}
use Rattle.article.specs.Pair.{same_class, mixed_class, provinces_pair, one_bond, same_government, both_cad, same_foreign, is_corporate, bond_rating, RateInRange}
use Rattle.article.specs.Pair.{permits, allowed, rule_rate, pair_rate_of, saving_rate_of}
use Rattle.article.proofs.Legs.{allowed_meets, bonds_no_rule, no_rule, Permitted, one_class, two_classes, one_corporation, one_government, permitted}
use Rattle.article.specs.declared.pair.Rule.{Rule}
use Rattle.article.specs.declared.pair.Leg.{Leg}
use Rattle.savings.specs.Savings.{saving_of}
use Rattle.marks.specs.Marks.{is_domestic, is_offered, is_government, has_partner, key_of, mark_of, open_mark, across_mark, short_mark, sought_mark}
use Rattle.marks.specs.Marks.{scan_rate, scan_limit, OtherClass, Asks}

-- two bonds save nothing
pub two-bonds : (l s : Leg) → l.kind ≡ 0 → s.kind ≡ 0 → saving_of l s ≡ 0
unfolding saving_of
two-bonds l s f g = rw (no_rule l s (ap permits (bonds_no_rule l s f g)))

-- a number from 1 on is not 0
positive : (high n : ℕ) → within 1 high n ≡ true → eqb n 0 ≡ false
positive high n e = ne_eqb n 0 (λ z. omega (arith, (within_true 1 high n e).0))

-- two numbers that are both n, of which something holds
both : (P : ℕ → Type 0) (x y n : ℕ) → P n → (eqb x n && eqb y n) ≡ true → (x ≡ y) × P y
both P x y n h e =
    let (a, b) = (and-eq-true_iff _ _).0 e in
    (eqb-true x n a ∙ sym (eqb-true y n b), rw (eqb-true y n b) h)

-- of two pairs of tests one holds
one-pair : {P : Type 0} (a b c d : Bool) → ((a && b) || (c && d)) ≡ true → (a ≡ true → b ≡ true → P) → (c ≡ true → d ≡ true → P) → P
one-pair a b c d e p q =
    ⊎_elim (λ f. let (t, u) = (and-eq-true_iff a b).0 f in p t u) (λ f. let (t, u) = (and-eq-true_iff c d).0 f in q t u) (one_of (a && b) (c && d) e)

-- the mark of a leg in CAD, of Canada or of a province, whichever kind is asked
module _ (bond : Bool) (l : Leg) (cad : in_cad l ≡ true) where
  canada_mark : is_canada l ≡ true → mark_of bond l ≡ key_of l + 0
  unfolding mark_of is_domestic
  canada_mark e = rw (cad, e)

  province-mark : is_province l ≡ true → mark_of bond l ≡ key_of l + 1
  unfolding mark_of is_domestic is_canada is_province
  province-mark e = rw (cad, e, positive 10 l.issuer e)

-- of any issuer it is the period and the class
class_open : (l : Leg) (class : ℕ) {mark : ℕ} → class ≤ 1 → mark ≡ key_of l + class → open_mark mark ≡ 4 * (l.period % 8) + class
unfolding key_of
class_open l class h e = omega (arith, e)

-- the marks of the two classes of a period
classes : (a c d : ℕ) {x other : ℕ} → c + d ≡ 1 → open_mark x ≡ 4 * a + c → other ≡ 4 * a + d → OtherClass x other
classes a c d h e f = record { period = rw (e, f) (omega arith); class = rw f (omega (arith, e)) }

-- the mark of a leg that is not domestic and may have a pair
outside_mark : (bond : Bool) (l : Leg) → is_domestic l ≡ false → has_partner l ≡ true → mark_of bond l ≡ key_of l + cond bond 2 34
unfolding mark_of
outside_mark bond l d h = rw (d, h)

-- a short's own mark; the one that it has for a long is this, or that of any issuer
abbrev own_mark : Leg → ℕ
own_mark s = mark_of (is_bond s) s

own_or_open : (bond : Bool) (s : Leg) → (short_mark bond s ≡ own_mark s) ⊎ (short_mark bond s ≡ open_mark (own_mark s))
unfolding short_mark across_mark
own_or_open bond s =
    let Is : ℕ → Type 0 = λ x. (x ≡ own_mark s) ⊎ (x ≡ open_mark (own_mark s)) in
    by-test Is bond (λ _. inl refl) (λ _. by-test Is (not (eqb s.kind 0) && eqb (own_mark s % 4) 1) (λ _. inr refl) (λ _. inl refl))

-- a short's mark suits a long: it is the one that the long seeks, or that of any issuer
abbrev Suits : ℕ → ℕ → Type 0
Suits long short = (short ≡ long) ⊎ (short ≡ open_mark long)

-- it is not of the other class
not-other : {long short : ℕ} → Suits long short → OtherClass long (open_mark short) → ⊥
not-other e o = ⊎_elim (λ f. omega (arith, o.class, f)) (λ f. omega (arith, o.class, f)) e

-- a corporation's leg is not domestic; a participant's in CAD may have a pair if paragraph 3 can have it
no_domestic : (l : Leg) → is_corporate l ≡ true → is_domestic l ≡ false
unfolding is_domestic is_corporate is_canada is_province
no_domestic l n =
    let (low, _) = corporation-is l.issuer n in
    rw (ne_eqb l.issuer 0 (λ z. omega arith), above_range 1 10 l.issuer (omega arith)) (and-false (in_cad l))

partner : (l : Leg) → is_participant l ≡ true → in_cad l ≡ true → is_offered l ≡ true → has_partner l ≡ true
unfolding has_partner
partner l p c o = rw (p, c, o)

participants : (l s : Leg) → are_participants l s ≡ true → (is_participant l ≡ true) × (is_participant s ≡ true)
unfolding are_participants
participants l s e = (and-eq-true_iff (is_participant l) (is_participant s)).0 e

-- of a bond and a strip of a corporation, the bond rated, paragraph 3 can have both
offered : (l s : Leg) → is_corporate l ≡ true → is_corporate s ≡ true → one_bond l s ≡ true → eqb (bond_rating l s) 0 ≡ true → (is_offered l ≡ true) × (is_offered s ≡ true)
unfolding is_offered bond_rating is_bond is_strip
offered l s n m k e =
    ⊎_elim
    (λ w. let (bond, strip) = w in (rw (n, bond, rw bond at e), rw (m, positive 2 s.kind strip)))
    (λ w.
    let (strip, bond) = w in
    let other = positive 2 l.kind strip in
    (rw (n, other), rw (m, bond, rw other at e)))
    (one_bond-of l s k)

-- the rate that a leg is scanned by: of a government its own, of a corporation's bond too, of its strip a third
pub own_rate : (l : Leg) → is_corporate l ≡ false → scan_rate l ≡ l.rate
unfolding scan_rate
own_rate l n = rw n (by-test (λ (x : ℕ). x ≡ l.rate) (is_bond l) (λ _. refl) (λ _. refl))

pub bond_rate_lem : (l : Leg) → is_bond l ≡ true → scan_rate l ≡ l.rate
unfolding scan_rate
bond_rate_lem l b = rw b

strip_rate_lem : (l : Leg) → is_corporate l ≡ true → is_strip l ≡ true → scan_rate l ≡ l.rate / 3
unfolding scan_rate is_strip is_bond
strip_rate_lem l n k = rw (positive 2 l.kind k, n)

-- a bond's is at most 21,900
pub bond_low : (l : Leg) → RateInRange l → l.kind ≡ 0 → l.rate ≤ scan_limit
unfolding is_bond
bond_low l f e =
    either_way (is_corporate l)
    (λ n. omega (arith, f.bond n (eq-eqb l.kind 0 e), flat_high 2 l.period))
    f.government

-- what a bond and a strip of one corporation and one period save: twice the lesser of the bond's rate and a third of the strip's
capped-saving : {b s : ℕ} (period : ℕ) → b ≡ flat_rate 2 period → (2 * s ≡ 3 * flat_rate 2 period) ⊎ ((period ≡ 5) × (s ≡ 43800))
    → (b + s - min 29200 (max b s) ≤ 2 * min b (s / 3)) × (s + b - min 29200 (max s b) ≤ 2 * min (s / 3) b)
capped-saving {b} {s} period e (inl f) =
    thirds (s - b) (omega (arith, e, f)) (omega (arith, e, f)) (omega (arith, flat_high 2 period, e))
  where
    thirds : {b s : ℕ} (k : ℕ) → b ≡ 2 * k → s ≡ 3 * k → b ≤ 14600
        → (b + s - min 29200 (max b s) ≤ 2 * min b (s / 3)) × (s + b - min 29200 (max s b) ≤ 2 * min (s / 3) b)
    thirds k e f h = rw (e, f) (omega (arith, e), omega (arith, e))
capped-saving {b} {s} period e (inr (five, f)) =
    let flat : b ≡ 14600 = e ∙ ap (flat_rate 2) five ∙ (unfold flat_rate percents in refl) in
    (omega (arith, flat, f), omega (arith, flat, f))

-- the marks of two legs of one period
module _ (l s : Leg) (p : l.period ≡ s.period) where
  -- the mark of a short suits where its own is sought
  own_suits : own_mark s ≡ sought_mark l → Suits (sought_mark l) (short_mark (is_bond l) s)
  own_suits e = ⊎_elim (λ f. inl (f ∙ e)) (λ f. inr (f ∙ ap open_mark e)) (own_or_open (is_bond l) s)

  -- legs in CAD of one issuer have one key
  one_key : both_cad l s ≡ true → l.issuer ≡ s.issuer → key_of s ≡ key_of l
  unfolding both_cad in_cad key_of
  one_key c i =
      let (f, g) = (and-eq-true_iff (in_cad l) (in_cad s)).0 c in
      rw (eqb-true l.currency 0 f, eqb-true s.currency 0 g, p, i)

  -- marks of one key and class, and of two classes
  alike : {x y : ℕ} (c : ℕ) → x ≡ key_of l + c → y ≡ key_of s + c → key_of s ≡ key_of l → y ≡ x
  alike c e f k = f ∙ rw k (sym e)

  crossed : {x y : ℕ} (c d : ℕ) → x ≡ key_of l + c → y ≡ key_of s + d → c + d ≡ 1 → OtherClass x (open_mark y)
  crossed c d e f h = classes (s.period % 8) c d h (rw (← p) (class_open l c (omega (arith, h)) e)) (class_open s d (omega (arith, h)) f)

  -- strips of two provinces: the short's mark is that of any
  strips_mark : in_cad l ≡ true → in_cad s ≡ true → is_province l ≡ true → is_province s ≡ true → is_bond l ≡ false → is_bond s ≡ false
      → short_mark (is_bond l) s ≡ open_mark (sought_mark l)
  unfolding short_mark across_mark sought_mark is_bond
  strips_mark c d a b k n =
      let any = class_open s 1 (omega arith) (province-mark false s d b) in
      rw (k, n, eq-eqb (mark_of false s % 4) 1 (omega (arith, any))) (any ∙ rw (← p) (sym (class_open l 1 (omega arith) (province-mark true l c a))))

  -- in CAD, of one class
  one-mark : both_cad l s ≡ true → same_class l s ≡ true → provinces_pair l s ≡ true → Suits (sought_mark l) (short_mark (is_bond l) s)
  unfolding both_cad same_class provinces_pair sought_mark is_canada
  one-mark c e o =
      let (f, g) = (and-eq-true_iff (in_cad l) (in_cad s)).0 c in
      one-pair (is_canada l) (is_canada s) (is_province l) (is_province s) e
      (λ a b. own_suits (alike 0 (canada_mark _ l f a) (canada_mark _ s g b) (one_key c (eqb-true l.issuer 0 a ∙ sym (eqb-true s.issuer 0 b)))))
      (λ a b. ⊎_elim
      (λ n. let (k, m) = neither _ _ (not-true _ n) in inr (strips_mark f g a b k m))
      (λ i. own_suits (alike 1 (province-mark _ l f a) (province-mark _ s g b) (one_key c (eqb-true _ _ i))))
      (one_of _ _ o))

  -- in CAD, of two classes
  two_marks : both_cad l s ≡ true → mixed_class l s ≡ true → OtherClass (sought_mark l) (open_mark (short_mark (is_bond l) s))
  unfolding both_cad mixed_class sought_mark
  two_marks c e =
      let (f, g) = (and-eq-true_iff (in_cad l) (in_cad s)).0 c in
      let same : open_mark (short_mark (is_bond l) s) ≡ open_mark (own_mark s) = ⊎_elim (λ x. ap open_mark x) (λ x. omega (arith, x)) (own_or_open (is_bond l) s) in
      rw same (one-pair (is_canada l) (is_province s) (is_province l) (is_canada s) e
      (λ a b. crossed 0 1 (canada_mark _ l f a) (province-mark _ s g b) refl)
      (λ a b. crossed 1 0 (province-mark _ l f a) (canada_mark _ s g b) refl))

  -- just one is a bond: the short is what the long seeks
  sought : one_bond l s ≡ true → is_bond s ≡ not (is_bond l)
  unfolding one_bond is_bond is_strip
  sought e =
      one-pair (is_bond l) (is_strip s) (is_strip l) (is_bond s) e (λ a b. rw (a, positive 2 s.kind b)) (λ a b. rw (b, positive 2 l.kind a))

  -- paragraph 4 has two legs of one currency, not CAD, and of one issuer, no province
  currency : same_foreign l s ≡ true → (l.currency ≡ s.currency) × (in_cad s ≡ false)
  unfolding same_foreign in_cad in_usd in_gbp
  currency e =
      let Other : ℕ → Type 0 = λ n. eqb n 0 ≡ false in
      ⊎_elim (both Other _ _ 1 refl) (both Other _ _ 2 refl) (one_of _ _ e)

  issuer : same_government l s ≡ true → (l.issuer ≡ s.issuer) × (is_government s ≡ true)
  unfolding same_government is_government is_canada is_us is_gb
  issuer e =
      let Has : ℕ → Type 0 = λ n. (eqb n 0 || eqb n 11 || eqb n 12) ≡ true in
      ⊎_elim (λ f. ⊎_elim (both Has _ _ 0 refl) (both Has _ _ 11 refl) (one_of _ _ f)) (both Has _ _ 12 refl) (one_of _ _ e)

  -- in the same foreign currency, of one government
  foreign-mark : same_foreign l s ≡ true → are_participants l s ≡ true → one_bond l s ≡ true → same_government l s ≡ true → own_mark s ≡ sought_mark l
  unfolding sought_mark mark_of key_of is_domestic has_partner is_government in_cad is_canada is_us is_gb is_bond
  foreign-mark c a k e =
      let (first, second) = participants l s a in
      let (x, foreign) = currency c in
      let (y, government) = issuer e in
      rw (first, second, p, x, y, sought k, foreign, government)

  -- in CAD, of one corporation, the bond rated
  corporate-mark : both_cad l s ≡ true → are_participants l s ≡ true → one_bond l s ≡ true → is_corporate l ≡ true → is_corporate s ≡ true → l.issuer ≡ s.issuer
      → eqb (bond_rating l s) 0 ≡ true → own_mark s ≡ sought_mark l
  unfolding sought_mark both_cad
  corporate-mark c a k n m i rated =
      let (x, y) = participants l s a in
      let (f, g) = (and-eq-true_iff (in_cad l) (in_cad s)).0 c in
      let (first, second) = offered l s n m k rated in
      outside_mark (is_bond s) s (no_domestic s m) (partner s y g second)
      ∙ (λ t. one_key c i t + cond (sought k t) 2 34)
      ∙ sym (outside_mark (not (is_bond l)) l (no_domestic l n) (partner l x f first))

  -- what a rule saves of two rates, by the marks and the rates that the legs are scanned by
  module _ (f : RateInRange l) (g : RateInRange s) where
    by_marks : {x : ℕ} {r : Rule} → (Suits (sought_mark l) (short_mark (is_bond l) s) → 2 * min (scan_rate l) (scan_rate s) ≤ x)
        → (OtherClass (sought_mark l) (open_mark (short_mark (is_bond l) s)) → (scan_rate l + scan_rate s + 1) / 2 ≤ x) → Permitted l s r
        → l.rate + s.rate - rule_rate r l.rate s.rate ≤ x
    unfolding rule_rate
    by_marks d h (one_class c k e o) =
        let (a, b) = of-one_class l s e in
        omega (arith, d (one-mark c e o), own_rate l a, own_rate s b)
    by_marks d h (two_classes c k e) =
        let (a, b) = of-two-classes l s e in
        omega (arith, h (two_marks c e), own_rate l a, own_rate s b)
    by_marks d h (one_government c x k e) =
        let (a, b) = of-one-government l s e in
        omega (arith, d (own_suits (foreign-mark c x k e)), own_rate l a, own_rate s b)
    by_marks d h (one_corporation c x k e rated) =
        let (n, (m, issuer)) = corporate-legs l s e in
        let enough = d (own_suits (corporate-mark c x k n m issuer rated)) in
        ⊎_elim
        (λ w.
        le_trans (capped-saving l.period (f.bond n w.0) (rw (← p) at (g.strip m w.1))).0
        (rw (bond_rate_lem l w.0, strip_rate_lem s m w.1) at enough))
        (λ w.
        le_trans (capped-saving l.period (rw (← p) at (g.bond m w.1)) (f.strip n w.0)).1
        (rw (strip_rate_lem l n w.0, bond_rate_lem s w.1) at enough))
        (one_bond-of l s k)

module _ {long a short b : ℕ} where
  -- what is asked is enough where it is for a mark that suits, and for one of the other class
  asks : {x : ℕ} → (Suits long short → 2 * min a b ≤ x) → (OtherClass long (open_mark short) → (a + b + 1) / 2 ≤ x) → Asks long a short b x
  unfolding saving_of saving_rate_of pair_rate_of
  asks {x} d h = record {
    enough = λ l s ml ms. by-test (λ (y : ℕ). y ≤ x) (allowed l s)
        (λ e. let m = allowed_meets l s e in
        by_marks l s m.period ml.in_range ms.in_range (rw (ml.marked, ms.marked, ml.rated, ms.rated) at d)
        (rw (ml.marked, ms.marked, ml.rated, ms.rated) at h) (permitted l s m.rule))
        (λ _. omega arith);
  }

  -- by any other mark nothing is asked
  pub neither-mark : {cross : ℕ} → OtherClass long cross → (open_mark short ≡ cross → ⊥) → (Suits long short → ⊥) → Asks long a short b 0
  neither-mark {cross} o f g = asks (λ e. absurd (g e)) (λ q. absurd (f (omega (arith, o.period, o.class, q.period, q.class))))

  -- by one that suits, twice the lesser rate
  pub suited_mark : Suits long short → Asks long a short b (2 * min a b)
  suited_mark e = asks (λ _. omega arith) (λ o. absurd (not-other e o))

  -- by one of the other class, half the sum
  pub other-mark : OtherClass long (open_mark short) → Asks long a short b ((a + b + 1) / 2)
  other-mark o = asks (λ e. absurd (not-other e o)) (λ _. omega arith)
