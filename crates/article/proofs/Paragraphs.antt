-- What the tests on two legs say of their records, and back: the paragraphs of the page. Assumes nothing.
use mathlib.Core.Path.{◌≡◌, refl, sym, ap, ◌∙◌}
use mathlib.Core.Logic.{◌⊎◌, inl, inr, ⊎_elim}
use mathlib.Core.Bool.{Bool, true, false, ◌&&◌, and-eq-true_iff, false≢true}
use Prim.Native.Nat.{ℕ, suc, ◌≤◌}
use native.Mathlib.Omega.{arith}
use lib.Dec.{eqb}
use borrow.Author.Tests.{eq-eqb, ne_eqb, eqb-true}
use Rattle.lists.specs.Choice.{within, first_of}
use Rattle.lists.proofs.Tests.{within_true, one_of, either_way, by-test}
use Rattle.holding.proofs.Heads.{letter-back}
use Rattle.holding.proofs.Ranges.{issuer-back, currency-back, rating-back, province_range, corporation_range}
use Rattle.holding.proofs.Issuers.{above_range, no_corporation_lem, corporation-is}
use Rattle.holding.specs.Holding.{Government, Corporate, is_corporation, no_issuer, letter_number, kind_number, issuer_number, currency_number, rating_number}
use Rattle.holding.specs.Holding.{letter_of, issuer_of, currency_of, rating_of, row_of, InRange}
use Rattle.article.proofs.ByKind.{bond-of, strip-of}
use Rattle.article.proofs.Legs.{two_strips, one-issuer, with_bond, Permitted, one_class, two_classes, one_corporation, one_government}
use Rattle.article.specs.Article.{OneClass, both_canada, both_provincial, TwoClasses, canada_long, canada_short, SameForeign, both_usd, both_gbp}
use Rattle.article.specs.Article.{SameGovernment, of_canada, of-us, of-gb, OneBond, SameCorporation, of-corporation, Paragraph2, Paragraph3, Paragraph4, ByParagraph, by_2, by_3, by_4}
use Rattle.article.specs.Pair.{leg_of, is_bond, is_strip, is_canada, is_province, is_us, is_gb, in_cad, in_usd, in_gbp, kinds_pair, same_class, mixed_class, provinces_pair, class_rule, domestic_rule}
use Rattle.article.specs.Pair.{is_participant, are_participants, is_corporate, bond_rating, same_corporation, corporate_rule, cad_rule}
use Rattle.article.specs.Pair.{one_bond, same_government, foreign_rule, both_cad, same_foreign, rule_of}
use Rattle.holding.specs.declared.AccountKind.TheVariants.{Participant}
use Rattle.holding.specs.declared.Kind.{Kind}
use Rattle.holding.specs.declared.Kind.TheVariants.{Bond, Coupon, Residual}
use Rattle.holding.specs.declared.Issuer.{Issuer}
use Rattle.holding.specs.declared.Issuer.TheVariants.{Canada, Province, UnitedStates, UnitedKingdom, Corporation}
use Rattle.holding.specs.declared.Currency.{Currency}
use Rattle.holding.specs.declared.Currency.TheVariants.{Cad}
use Rattle.holding.specs.declared.Rating.{Rating}
use Rattle.holding.specs.declared.Rating.TheVariants.{SingleA}
use Rattle.holding.specs.declared.Holding.{Holding}
use Rattle.holding.specs.declared.Account.{Account}
use Rattle.article.specs.declared.pair.Rule.{Rule}
use Rattle.article.specs.declared.pair.Rule.TheVariants.{Difference, HalfSum, Capped}
use Rattle.article.specs.declared.pair.Leg.{Leg}

-- the case that a number is of
currency_of_lem : (c : Currency) (n : ℕ) → eqb (currency_number c) n ≡ true → c ≡ currency_of n
currency_of_lem c n e = sym (currency-back c) ∙ ap currency_of (eqb-true _ _ e)

issuer_of_lem : (i : Issuer) (n : ℕ) → n ≤ 12 → eqb (issuer_number i) n ≡ true → i ≡ issuer_of n
issuer_of_lem i n h e =
    let number : issuer_number i ≡ n = eqb-true _ _ e in
    sym (issuer-back i (inl (rw number h))) ∙ ap issuer_of number

canada_of : (i : Issuer) → eqb (issuer_number i) 0 ≡ true → i ≡ Canada
unfolding issuer_of first_of
canada_of i e = issuer_of_lem i 0 (omega arith) e

us-of : (i : Issuer) → eqb (issuer_number i) 11 ≡ true → i ≡ UnitedStates
unfolding issuer_of first_of
us-of i e = issuer_of_lem i 11 (omega arith) e

gb-of : (i : Issuer) → eqb (issuer_number i) 12 ≡ true → i ≡ UnitedKingdom
unfolding issuer_of first_of
gb-of i e = issuer_of_lem i 12 (omega arith) e

province-of : (i : Issuer) → within 1 10 (issuer_number i) ≡ true → i ≡ Province (issuer_number i)
unfolding issuer_of first_of
province-of i e =
    let (low, high) = within_true 1 10 (issuer_number i) e in
    sym (issuer-back i (inl (omega arith)))
    ∙ rw (
      ne_eqb (issuer_number i) 0 (λ z. omega arith),
      ne_eqb (issuer_number i) 11 (λ z. omega arith),
      ne_eqb (issuer_number i) 12 (λ z. omega arith),
      no_corporation_lem (issuer_number i) (omega arith),
    )

-- the number of a record's province
abbrev province_in : Issuer → ℕ
province_in Canada = 0
province_in (Province p) = suc p
province_in UnitedStates = 0
province_in UnitedKingdom = 0
province_in (Corporation c) = 0

province-number : {i : Issuer} {p : ℕ} → i ≡ Province p → within 1 10 (issuer_number i) ≡ true → p ≡ issuer_number i
province-number {i} e w = let same = ap province_in (sym e ∙ province-of i w) in omega (arith, same)

no_canada : {i : Issuer} {p : ℕ} → i ≡ Province p → eqb (issuer_number i) 0 ≡ true → ⊥
no_canada {i} e c = let never = ap province_in (sym e ∙ canada_of i c) in omega (arith, never)

corporation-of : (i : Issuer) → is_corporation (issuer_number i) ≡ true → i ≡ Corporation (issuer_number i)
unfolding issuer_of first_of
corporation-of i e =
    let (low, high) = corporation-is (issuer_number i) e in
    sym (issuer-back i (inr (low, high)))
    ∙ rw (ne_eqb (issuer_number i) 0 (λ z. omega arith), ne_eqb (issuer_number i) 11 (λ z. omega arith), ne_eqb (issuer_number i) 12 (λ z. omega arith), e)

single-a-of : (r : Rating) → eqb (rating_number r) 0 ≡ true → r ≡ SingleA
unfolding rating_of
single-a-of r e = sym (rating-back r) ∙ ap rating_of (eqb-true (rating_number r) 0 e)

-- what follows where two tests hold
both : {A : Type 0} (t u : Bool) → (t ≡ true → u ≡ true → A) → (t && u) ≡ true → A
both t u f e = let (a, b) = (and-eq-true_iff t u).0 e in f a b

-- what the tests say of two records
module _ (a : Account) (l s : Holding) where
  participant : are_participants (leg_of a l) (leg_of a s) ≡ true → a.letter ≡ Participant
  unfolding are_participants is_participant leg_of letter_of
  participant e =
      let number = eqb-true (letter_number a.letter) 0 ((and-eq-true_iff _ _).0 e).0 in
      sym (letter-back a.letter) ∙ ap letter_of number

  both_cad_lem : both_cad (leg_of a l) (leg_of a s) ≡ true → (l.currency ≡ Cad) × (s.currency ≡ Cad)
  unfolding both_cad in_cad leg_of row_of currency_of
  both_cad_lem e = let (x, y) = (and-eq-true_iff _ _).0 e in (currency_of_lem l.currency 0 x, currency_of_lem s.currency 0 y)

  same_foreign_lem : same_foreign (leg_of a l) (leg_of a s) ≡ true → SameForeign l.currency s.currency
  unfolding same_foreign in_usd in_gbp leg_of row_of currency_of
  same_foreign_lem e =
      ⊎_elim
      (both _ _ (λ x y. rw (currency_of_lem l.currency 1 x, currency_of_lem s.currency 1 y) both_usd))
      (both _ _ (λ x y. rw (currency_of_lem l.currency 2 x, currency_of_lem s.currency 2 y) both_gbp))
      (one_of _ _ e)

  same_class_lem : same_class (leg_of a l) (leg_of a s) ≡ true → OneClass l.issuer s.issuer
  unfolding same_class is_canada is_province leg_of row_of
  same_class_lem e =
      ⊎_elim
      (both _ _ (λ x y. rw (canada_of l.issuer x, canada_of s.issuer y) both_canada))
      (both _ _ (λ x y. rw (province-of l.issuer x, province-of s.issuer y) (both_provincial _ _)))
      (one_of _ _ e)

  -- a bond and a strip of provinces are of one
  one-province : same_class (leg_of a l) (leg_of a s) ≡ true → provinces_pair (leg_of a l) (leg_of a s) ≡ true
      → (p q : ℕ) → l.issuer ≡ Province p → s.issuer ≡ Province q → (l.kind ≡ Bond) ⊎ (s.kind ≡ Bond) → p ≡ q
  unfolding same_class is_canada is_province leg_of row_of
  one-province e f p q first second bond =
      let kinds : (kind_number l.kind ≡ 0) ⊎ (kind_number s.kind ≡ 0) = ⊎_elim (λ k. inl (ap kind_number k)) (λ k. inr (ap kind_number k)) bond in
      let issuers = eqb-true (issuer_number l.issuer) (issuer_number s.issuer) (sym (with_bond (leg_of a l) (leg_of a s) kinds) ∙ f) in
      ⊎_elim
      (both _ _ (λ x _. absurd (no_canada first x)))
      (both _ _ (λ x y. province-number first x ∙ issuers ∙ sym (province-number second y)))
      (one_of _ _ e)

  -- Canada with a province is not of two provinces
  two_provinces_lem : mixed_class (leg_of a l) (leg_of a s) ≡ true → (p q : ℕ) → l.issuer ≡ Province p → s.issuer ≡ Province q → ⊥
  unfolding mixed_class is_canada is_province leg_of row_of
  two_provinces_lem e p q first second = ⊎_elim (both _ _ (λ x _. no_canada first x)) (both (is_province (leg_of a l)) _ (λ _ y. no_canada second y)) (one_of _ _ e)

  mixed_class_lem : mixed_class (leg_of a l) (leg_of a s) ≡ true → TwoClasses l.issuer s.issuer
  unfolding mixed_class is_canada is_province leg_of row_of
  mixed_class_lem e =
      ⊎_elim
      (both _ _ (λ x y. rw (canada_of l.issuer x, province-of s.issuer y) (canada_long _)))
      (both _ _ (λ x y. rw (province-of l.issuer x, canada_of s.issuer y) (canada_short _)))
      (one_of _ _ e)

  same_government_lem : same_government (leg_of a l) (leg_of a s) ≡ true → SameGovernment l.issuer s.issuer
  unfolding same_government is_canada is_us is_gb leg_of row_of
  same_government_lem e =
      ⊎_elim
      (λ o. ⊎_elim
      (both _ _ (λ x y. rw (canada_of l.issuer x, canada_of s.issuer y) of_canada))
      (both _ _ (λ x y. rw (us-of l.issuer x, us-of s.issuer y) of-us))
      (one_of _ _ o))
      (both _ _ (λ x y. rw (gb-of l.issuer x, gb-of s.issuer y) of-gb))
      (one_of _ _ e)

  one_bond_lem : one_bond (leg_of a l) (leg_of a s) ≡ true → OneBond l.kind s.kind
  unfolding one_bond is_bond is_strip leg_of row_of
  one_bond_lem e =
      ⊎_elim
      (both _ _ (λ x y. record { some = inl (bond-of l.kind x); not_both = λ _ n. strip-of s.kind y n }))
      (both _ _ (λ x y. record { some = inr (bond-of s.kind y); not_both = λ m _. strip-of l.kind x m }))
      (one_of _ _ e)

  not-bonds : kinds_pair (leg_of a l) (leg_of a s) ≡ true → l.kind ≡ Bond → s.kind ≡ Bond → ⊥
  unfolding kinds_pair one_bond is_bond is_strip leg_of row_of
  not-bonds e m n = ⊎_elim (λ f. (one_bond_lem f).not_both m n) (λ f. strip-of l.kind ((and-eq-true_iff _ _).0 f).0 m) (one_of _ _ e)

  same_corporation_lem : same_corporation (leg_of a l) (leg_of a s) ≡ true → SameCorporation l.issuer s.issuer
  unfolding same_corporation is_corporate leg_of row_of
  same_corporation_lem e =
      let (n, i) = (and-eq-true_iff (is_corporation (issuer_number l.issuer)) (eqb (issuer_number l.issuer) (issuer_number s.issuer))).0 e in
      let same = eqb-true (issuer_number l.issuer) (issuer_number s.issuer) i in
      let first = corporation-of l.issuer n in
      let second = corporation-of s.issuer (rw same at n) in
      rw (first, second, same) (of-corporation (issuer_number s.issuer))

  -- the bond's rating is that of the long where it is the bond, and else that of the short
  long-rated : eqb (bond_rating (leg_of a l) (leg_of a s)) 0 ≡ true → l.kind ≡ Bond → l.rating ≡ SingleA
  unfolding bond_rating is_bond leg_of row_of
  long-rated e k = single-a-of l.rating (rw k at e)

  short-rated : eqb (bond_rating (leg_of a l) (leg_of a s)) 0 ≡ true → (l.kind ≡ Bond → ⊥) → s.rating ≡ SingleA
  unfolding bond_rating is_bond leg_of row_of
  short-rated e k = either_way (eqb (kind_number l.kind) 0) (λ b. absurd (k (bond-of l.kind b))) (λ b. single-a-of s.rating (rw b at e))

  -- one of the paragraphs has a pair that is permitted
  pub by-paragraph : {r : Rule} → Permitted (leg_of a l) (leg_of a s) r → ByParagraph a l s
  by-paragraph (one_corporation c p k e rated) =
      let bond = one_bond_lem k in
      by_3 (participant p) (record {
        first_cad = (both_cad_lem c).0;
        second_cad = (both_cad_lem c).1;
        corporation = same_corporation_lem e;
        one_bond_lem = bond;
        long-rated = long-rated rated;
        short-rated = λ n. short-rated rated (λ m. bond.not_both m n);
      })
  by-paragraph (one_class c k e f) = by_2 (record {
    first_cad = (both_cad_lem c).0;
    second_cad = (both_cad_lem c).1;
    classes = inl (same_class_lem e);
    not-bonds = not-bonds k;
    one-province = one-province e f;
  })
  by-paragraph (two_classes c k e) = by_2 (record {
    first_cad = (both_cad_lem c).0;
    second_cad = (both_cad_lem c).1;
    classes = inr (mixed_class_lem e);
    not-bonds = not-bonds k;
    one-province = λ p q first second _. absurd (two_provinces_lem e p q first second);
  })
  by-paragraph (one_government c p k e) = by_4 (participant p) (record { currency = same_foreign_lem c; government = same_government_lem e; one_bond_lem = one_bond_lem k })

-- and what two records say of the tests
module _ (l s : Leg) where
  kinds : (k m : Kind) → l.kind ≡ kind_number k → s.kind ≡ kind_number m → (k ≡ Bond → m ≡ Bond → ⊥)
      → (kinds_pair l s ≡ true) × ((k ≡ Bond) ⊎ (m ≡ Bond) → one_bond l s ≡ true)
  unfolding kinds_pair one_bond is_bond is_strip within
  kinds Bond Bond a b f = absurd (f refl refl)
  kinds Bond Coupon a b f = (rw (a, b), λ _. rw (a, b))
  kinds Bond Residual a b f = (rw (a, b), λ _. rw (a, b))
  kinds Coupon Bond a b f = (rw (a, b), λ _. rw (a, b))
  kinds Coupon Coupon a b f = (rw (a, b), λ o. absurd (⊎_elim (strip-of Coupon refl) (strip-of Coupon refl) o))
  kinds Coupon Residual a b f = (rw (a, b), λ o. absurd (⊎_elim (strip-of Coupon refl) (strip-of Residual refl) o))
  kinds Residual Bond a b f = (rw (a, b), λ _. rw (a, b))
  kinds Residual Coupon a b f = (rw (a, b), λ o. absurd (⊎_elim (strip-of Residual refl) (strip-of Coupon refl) o))
  kinds Residual Residual a b f = (rw (a, b), λ o. absurd (⊎_elim (strip-of Residual refl) (strip-of Residual refl) o))

  foreigners : {c d : Currency} → SameForeign c d → l.currency ≡ currency_number c → s.currency ≡ currency_number d → (both_cad l s ≡ false) × (same_foreign l s ≡ true)
  unfolding both_cad same_foreign in_cad in_usd in_gbp
  foreigners both_usd a b = (rw a, rw (a, b))
  foreigners both_gbp a b = (rw a, rw (a, b))

  governments : {i j : Issuer} → SameGovernment i j → l.issuer ≡ issuer_number i → s.issuer ≡ issuer_number j → same_government l s ≡ true
  unfolding same_government is_canada is_us is_gb
  governments of_canada a b = rw (a, b)
  governments of-us a b = rw (a, b)
  governments of-gb a b = rw (a, b)

canada_leg : (l : Leg) → l.issuer ≡ 0 → (is_canada l ≡ true) × (is_province l ≡ false)
unfolding is_canada is_province within
canada_leg l e = (rw e, rw e)

province-leg : (l : Leg) (p : ℕ) → l.issuer ≡ issuer_number (Province p) → Government (issuer_number (Province p)) ⊎ Corporate (issuer_number (Province p))
    → (is_canada l ≡ false) × (is_province l ≡ true)
unfolding is_canada is_province
province-leg l p e h =
    let w = province_range p h in
    let number : l.issuer ≡ p = rw w at e in
    let (low, _) = within_true 1 10 p w in
    (ne_eqb l.issuer 0 (λ z. omega arith), ap (within 1 10) number ∙ w)

-- Canada and a province, of any number, are no corporation's
of-province : (p : ℕ) → is_corporation (issuer_number (Province p)) ≡ false
unfolding is_corporation
of-province p =
    by-test (λ n. within 100 355 n ≡ false) (within 1 10 p)
    (λ w. unfold is_corporation in no_corporation_lem p (omega (arith, (within_true 1 10 p w).1)))
    (λ _. above_range 100 355 no_issuer (omega arith))

of-classes : {i j : Issuer} → OneClass i j ⊎ TwoClasses i j → is_corporation (issuer_number i) ≡ false
of-classes (inl both_canada) = no_corporation_lem 0 (omega arith)
of-classes (inl (both_provincial p q)) = of-province p
of-classes (inr (canada_long p)) = no_corporation_lem 0 (omega arith)
of-classes (inr (canada_short p)) = of-province p

-- both Canada or both provincial: the difference; one Canada, one provincial: half the sum
one_class-rule : (l s : Leg) {i j : Issuer} → OneClass i j → provinces_pair l s ≡ true → l.issuer ≡ issuer_number i → s.issuer ≡ issuer_number j
    → Government (issuer_number i) ⊎ Corporate (issuer_number i) → Government (issuer_number j) ⊎ Corporate (issuer_number j) → class_rule l s ≡ Difference
unfolding class_rule same_class first_of
one_class-rule l s both_canada pair a b f g = rw ((canada_leg l a).0, (canada_leg s b).0, pair)
one_class-rule l s (both_provincial p q) pair a b f g = let (c, n) = province-leg l p a f in rw (c, n, (province-leg s q b g).1, pair)

two-class_rule : (l s : Leg) {i j : Issuer} → TwoClasses i j → l.issuer ≡ issuer_number i → s.issuer ≡ issuer_number j
    → Government (issuer_number i) ⊎ Corporate (issuer_number i) → Government (issuer_number j) ⊎ Corporate (issuer_number j) → class_rule l s ≡ HalfSum
unfolding class_rule same_class mixed_class first_of
two-class_rule l s (canada_long p) a b f g =
    let (c, n) = canada_leg l a in
    let (d, m) = province-leg s p b g in
    rw (c, n, d, m)
two-class_rule l s (canada_short p) a b f g =
    let (c, n) = province-leg l p a f in
    let (d, m) = canada_leg s b in
    rw (c, n, d, m)

-- the rule of two records by their paragraph
module _ (a : Account) (l s : Holding) where
  participants : a.letter ≡ Participant → are_participants (leg_of a l) (leg_of a s) ≡ true
  unfolding are_participants is_participant leg_of
  participants e = rw e

  cads : Paragraph2 l s → both_cad (leg_of a l) (leg_of a s) ≡ true
  unfolding both_cad in_cad leg_of row_of
  cads p = rw (p.first_cad, p.second_cad)

  pairs : (l.kind ≡ Bond → s.kind ≡ Bond → ⊥) → (kinds_pair (leg_of a l) (leg_of a s) ≡ true) × ((l.kind ≡ Bond) ⊎ (s.kind ≡ Bond) → one_bond (leg_of a l) (leg_of a s) ≡ true)
  unfolding leg_of row_of
  pairs f = kinds (leg_of a l) (leg_of a s) l.kind s.kind refl refl f

  cads3 : Paragraph3 l s → both_cad (leg_of a l) (leg_of a s) ≡ true
  unfolding both_cad in_cad leg_of row_of
  cads3 p = rw (p.first_cad, p.second_cad)

  bond : Paragraph3 l s → one_bond (leg_of a l) (leg_of a s) ≡ true
  bond p = (pairs p.one_bond_lem.not_both).1 p.one_bond_lem.some

  rated : Paragraph3 l s → eqb (bond_rating (leg_of a l) (leg_of a s)) 0 ≡ true
  unfolding bond_rating is_bond leg_of row_of
  rated p =
      either_way (eqb (kind_number l.kind) 0)
      (λ b. rw (b, p.long-rated (bond-of l.kind b)))
      (λ b.
      let short : s.kind ≡ Bond = ⊎_elim (λ k. absurd (false≢true (sym b ∙ ap (λ (x : Kind). eqb (kind_number x) 0) k))) (λ k. k) p.one_bond_lem.some in
      rw (b, p.short-rated short))

  -- paragraph 2 has no corporation's long, and asks for no letter
  pub in_cad_lem : Paragraph2 l s → rule_of (leg_of a l) (leg_of a s) ≡ domestic_rule (leg_of a l) (leg_of a s)
  unfolding rule_of cad_rule is_corporate leg_of row_of
  in_cad_lem p = rw (cads p, of-classes p.classes)

  by-classes : Paragraph2 l s → {r : Rule} → class_rule (leg_of a l) (leg_of a s) ≡ r → rule_of (leg_of a l) (leg_of a s) ≡ r
  unfolding domestic_rule
  by-classes p e = in_cad_lem p ∙ rw (pairs p.not-bonds).0 e

  -- of one class a bond and a strip are of one issuer
  provinces : Paragraph2 l s → OneClass l.issuer s.issuer → provinces_pair (leg_of a l) (leg_of a s) ≡ true
  unfolding leg_of row_of
  provinces p e =
      let same : (l.kind ≡ Bond) ⊎ (s.kind ≡ Bond) → provinces_pair (leg_of a l) (leg_of a s) ≡ true = λ k. one-issuer (leg_of a l) (leg_of a s) (issuers e p.one-province k) in
      either_way (eqb (kind_number l.kind) 0)
      (λ x. same (inl (bond-of l.kind x)))
      (λ x. either_way (eqb (kind_number s.kind) 0)
      (λ y. same (inr (bond-of s.kind y)))
      (λ y. two_strips (leg_of a l) (leg_of a s) (λ k. false≢true (sym x ∙ eq-eqb _ _ k)) (λ k. false≢true (sym y ∙ eq-eqb _ _ k))))
    where
      issuers : {i j : Issuer} {B : Type 0} → OneClass i j → ((p q : ℕ) → i ≡ Province p → j ≡ Province q → B → p ≡ q) → B → issuer_number i ≡ issuer_number j
      issuers both_canada f b = refl
      issuers (both_provincial p q) f b = ap (λ (n : ℕ). issuer_number (Province n)) (f p q refl refl b)

  pub abroad : a.letter ≡ Participant → Paragraph4 l s → rule_of (leg_of a l) (leg_of a s) ≡ Difference
  unfolding rule_of foreign_rule leg_of row_of
  abroad e p =
      let (foreign, same) = foreigners (leg_of a l) (leg_of a s) p.currency refl refl in
      rw (foreign, same, participants e, (pairs p.one_bond_lem.not_both).1 p.one_bond_lem.some, governments (leg_of a l) (leg_of a s) p.government refl refl)

  module _ (f : InRange a l) (g : InRange a s) where
    pub class-one : Paragraph2 l s → OneClass l.issuer s.issuer → rule_of (leg_of a l) (leg_of a s) ≡ Difference
    unfolding leg_of row_of
    class-one p e = by-classes p (one_class-rule (leg_of a l) (leg_of a s) e (provinces p e) refl refl f.ranges.identity.issuer g.ranges.identity.issuer)

    pub class-two : Paragraph2 l s → TwoClasses l.issuer s.issuer → rule_of (leg_of a l) (leg_of a s) ≡ HalfSum
    unfolding leg_of row_of
    class-two p e = by-classes p (two-class_rule (leg_of a l) (leg_of a s) e refl refl f.ranges.identity.issuer g.ranges.identity.issuer)

    corporates : SameCorporation l.issuer s.issuer → (is_corporate (leg_of a l) ≡ true) × (same_corporation (leg_of a l) (leg_of a s) ≡ true)
    unfolding leg_of row_of is_corporate same_corporation
    corporates c = by c f.ranges.identity.issuer
      where
        by : {i j : Issuer} → SameCorporation i j → Government (issuer_number i) ⊎ Corporate (issuer_number i)
            → (is_corporation (issuer_number i) ≡ true) × ((is_corporation (issuer_number i) && eqb (issuer_number i) (issuer_number j)) ≡ true)
        by (of-corporation c) h =
            let w = corporation_range c h in
            let n : is_corporation (issuer_number (Corporation c)) ≡ true = rw w w in
            (n, rw (n, eq-eqb (issuer_number (Corporation c)) (issuer_number (Corporation c)) refl))

    -- of one corporation
    pub capped : a.letter ≡ Participant → Paragraph3 l s → rule_of (leg_of a l) (leg_of a s) ≡ Capped
    unfolding rule_of cad_rule corporate_rule
    capped k p =
        let (n, e) = corporates p.corporation in
        rw (cads3 p, n, participants k, bond p, e, rated p)
