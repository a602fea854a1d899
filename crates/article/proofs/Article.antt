-- The page specs/Article.antt, proved. Assumes nothing.
use mathlib.Core.Path.{◌≡◌, refl, ap, sym, ◌∙◌}
use mathlib.Core.Logic.{◌⊎◌, inl, inr, ⊎_elim}
use mathlib.Core.Bool.{Bool, true, false, and-false, false≢true}
use Prim.Native.Nat.{ℕ, ◌+◌, min, max}
use native.Mathlib.Omega.{arith}
use Rattle.lists.specs.Choice.{within}
use Rattle.lists.proofs.Tests.{either_way}
use Rattle.holding.proofs.Heads.{head_kept_lem}
use Rattle.holding.proofs.Ranges.{fault-none, none_fault, row-refused, row_kept, holding-kept, side-back}
use Rattle.holding.proofs.Numbers.{numbers}
use Rattle.rates.proofs.RateTable.{rate-table}
use Rattle.rates.proofs.Periods.{periods}
use Rattle.article.proofs.Clients.{clients}
use Rattle.article.proofs.PairRates.{difference_excess, half_exact, rate-and-saving}
use Rattle.article.proofs.Saved.{corporate-legs, saving-high}
use Rattle.article.proofs.LegRates.{leg-rates}
use Rattle.article.proofs.Legs.{allowed_meets, meets_allowed, Permitted, one_class, two_classes, one_corporation, one_government, permitted}
use Rattle.article.proofs.Paragraphs.{by-paragraph, abroad, class-one, class-two, capped}
use Rattle.article.specs.Article.{MayPair, OneClass, both_canada, both_provincial, TwoClasses, canada_long, canada_short, SameForeign, both_usd, both_gbp}
use Rattle.article.specs.Article.{SameGovernment, of_canada, of-us, of-gb, SameCorporation, of-corporation, Paragraph2, Paragraph3, Paragraph4, ByParagraph, by_2, by_3, by_4}
use Rattle.article.specs.Article.{Pairing, Unpaired, UnknownIssuer, StayUnpaired, Article}
use Rattle.holding.specs.Holding.{InRange, Government, Corporate, is_corporation, side_number, side_of, no_issuer, issuer_number, row_of}
use Rattle.rates.specs.Rate.{rate_of}
use Rattle.article.specs.Pair.{leg_of, is_canada, is_province, is_us, is_gb, is_corporate, same_class, mixed_class, same_government, rule_of, rule_rate, permits, allowed, pair_rate_of}
use Rattle.holding.specs.declared.Issuer.{Issuer}
use Rattle.holding.specs.declared.Issuer.TheVariants.{Canada, Province, UnitedStates, UnitedKingdom, Corporation}
use Rattle.holding.specs.declared.Currency.{Currency}
use Rattle.holding.specs.declared.Currency.TheVariants.{Cad, Usd, Gbp}
use Rattle.holding.specs.declared.AccountKind.TheVariants.{Participant}
use Rattle.holding.specs.declared.Kind.TheVariants.{Bond}
use Rattle.holding.specs.declared.Rating.TheVariants.{SingleA}
use Rattle.holding.specs.declared.Holding.{Holding}
use Rattle.holding.specs.declared.Account.{Account}
use Rattle.article.specs.declared.pair.Rule.{Rule}
use Rattle.article.specs.declared.pair.Rule.TheVariants.{Difference, HalfSum, Capped}
use Rattle.article.specs.declared.pair.Leg.{Leg}

-- paragraph 2 has Canada and the provinces alone, paragraph 3 corporations alone, both in CAD, paragraph 4 Canada, US and GB, in USD and GBP alone
abbrev domestic : Issuer → Bool
domestic Canada = true
domestic (Province p) = true
domestic UnitedStates = false
domestic UnitedKingdom = false
domestic (Corporation c) = false

abbrev corporate : Issuer → Bool
corporate Canada = false
corporate (Province p) = false
corporate UnitedStates = false
corporate UnitedKingdom = false
corporate (Corporation c) = true

abbrev government : Issuer → Bool
government Canada = true
government (Province p) = false
government UnitedStates = true
government UnitedKingdom = true
government (Corporation c) = false

abbrev foreign : Currency → Bool
foreign Cad = false
foreign Usd = true
foreign Gbp = true

domestics : {i j : Issuer} → OneClass i j ⊎ TwoClasses i j → (domestic i ≡ true) × (domestic j ≡ true)
domestics (inl both_canada) = (refl, refl)
domestics (inl (both_provincial p q)) = (refl, refl)
domestics (inr (canada_long p)) = (refl, refl)
domestics (inr (canada_short p)) = (refl, refl)

governments : {i j : Issuer} → SameGovernment i j → (government i ≡ true) × (government j ≡ true)
governments of_canada = (refl, refl)
governments of-us = (refl, refl)
governments of-gb = (refl, refl)

corporations : {i j : Issuer} → SameCorporation i j → (corporate i ≡ true) × (corporate j ≡ true)
corporations (of-corporation c) = (refl, refl)

foreigners : {c d : Currency} → SameForeign c d → (foreign c ≡ true) × (foreign d ≡ true)
foreigners both_usd = (refl, refl)
foreigners both_gbp = (refl, refl)

never_both : {i j : Issuer} → TwoClasses i j → SameGovernment i j → ⊥
never_both (canada_long p) e = false≢true (governments e).1
never_both (canada_short p) e = false≢true (governments e).0

-- nor are two classes one corporation's, nor one class
no_corporation_lem : {i j : Issuer} → OneClass i j ⊎ TwoClasses i j → SameCorporation i j → ⊥
no_corporation_lem (inl both_canada) e = false≢true (corporations e).0
no_corporation_lem (inl (both_provincial p q)) e = false≢true (corporations e).0
no_corporation_lem (inr (canada_long p)) e = false≢true (corporations e).0
no_corporation_lem (inr (canada_short p)) e = false≢true (corporations e).0

-- what follows from each of the paragraphs
by-each : {A : Type 0} {a : Account} {l s : Holding} → (Paragraph2 l s → A) → (a.letter ≡ Participant → Paragraph3 l s → A) → (a.letter ≡ Participant → Paragraph4 l s → A)
    → ByParagraph a l s → A
by-each f g h (by_2 p) = f p
by-each f g h (by_3 e p) = g e p
by-each f g h (by_4 e p) = h e p

-- an allowed pair is one of the paragraphs'
allowed-may : (a : Account) (l s : Holding) → allowed (leg_of a l) (leg_of a s) ≡ true → MayPair a l s
unfolding leg_of row_of side_of
allowed-may a l s e =
    let m = allowed_meets _ _ e in
    record {
      first-long = sym (side-back l.side) ∙ ap side_of m.long;
      second_short = sym (side-back s.side) ∙ ap side_of m.short;
      period = m.period;
      paragraph = by-paragraph a l s (permitted (leg_of a l) (leg_of a s) m.rule);
    }

module _ (a : Account) (l s : Holding) (f : InRange a l) (g : InRange a s) where
  -- paragraphs 3 and 4 have no pair of paragraph 2, so that only a participant has one of theirs
  of-participant_3 : MayPair a l s → Paragraph3 l s → a.letter ≡ Participant
  of-participant_3 m p = by-each (λ q. absurd (no_corporation_lem q.classes p.corporation)) (λ e _. e) (λ e _. e) m.paragraph

  of-participant_4 : MayPair a l s → Paragraph4 l s → a.letter ≡ Participant
  of-participant_4 m p =
      by-each
      (λ q. absurd (false≢true (sym (ap foreign q.first_cad) ∙ (foreigners p.currency).0)))
      (λ e _. e)
      (λ e _. e)
      m.paragraph

  -- the rule that two holdings have if they may be paired
  difference-rule : MayPair a l s → OneClass l.issuer s.issuer → rule_of (leg_of a l) (leg_of a s) ≡ Difference
  difference-rule m e = by-each (λ p. class-one a l s f g p e) (λ _ p. absurd (no_corporation_lem (inl e) p.corporation)) (abroad a l s) m.paragraph

  half_rule : MayPair a l s → TwoClasses l.issuer s.issuer → rule_of (leg_of a l) (leg_of a s) ≡ HalfSum
  half_rule m e =
      by-each (λ p. class-two a l s f g p e) (λ _ p. absurd (no_corporation_lem (inr e) p.corporation)) (λ _ p. absurd (never_both e p.government)) m.paragraph

  may_permit : MayPair a l s → permits (rule_of (leg_of a l) (leg_of a s)) ≡ true
  may_permit m =
      by-each
      (λ p. ⊎_elim (λ e. ap permits (difference-rule m e)) (λ e. ap permits (half_rule m e)) p.classes)
      (λ e p. ap permits (capped a l s f g e p))
      (λ e p. ap permits (abroad a l s e p))
      m.paragraph

  may-allowed : MayPair a l s → allowed (leg_of a l) (leg_of a s) ≡ true
  unfolding leg_of row_of
  may-allowed m = meets_allowed _ _ (record {
    long = ap side_number m.first-long;
    short = ap side_number m.second_short;
    period = m.period;
    rule = may_permit m;
  })

  -- the pair's rate by that rule
  rate-by : (r : Rule) → rule_of (leg_of a l) (leg_of a s) ≡ r → pair_rate_of (leg_of a l) (leg_of a s) ≡ rule_rate r (rate_of a l) (rate_of a s)
  unfolding pair_rate_of
  rate-by r e = rw e (unfold leg_of in refl)

  excess : rule_of (leg_of a l) (leg_of a s) ≡ Difference → min (rate_of a l) (rate_of a s) + pair_rate_of (leg_of a l) (leg_of a s) ≡ max (rate_of a l) (rate_of a s)
  excess e = rw (rate-by Difference e) (difference_excess (rate_of a l) (rate_of a s))

  pairing : Pairing a l s
  pairing = record {
    permitted = (allowed-may a l s, may-allowed);
    difference = λ m e. excess (difference-rule m e);
    half_sum = λ m e. rw (rate-by HalfSum (half_rule m e)) (half_exact a l s);
    foreign = λ m p. excess (abroad a l s (of-participant_4 m p) p);
    corporate = λ m p. rate-by Capped (capped a l s f g (of-participant_3 m p) p) ∙ (unfold rule_rate in refl);
    saving = unfold leg_of in rate-and-saving (leg_of a l) (leg_of a s);
    saving_range = saving-high (leg_of a l) (leg_of a s) (leg-rates a l f) (leg-rates a s g);
  }

-- what may be in no pair is in none
never_paired : (h : Holding) → ((a : Account) (s : Holding) → MayPair a h s → ⊥) → ((a : Account) (l : Holding) → MayPair a l h → ⊥) → Unpaired h
never_paired h f g = record {
  as_long = λ a s. either_way (allowed (leg_of a h) (leg_of a s)) (λ e. absurd (f a s (allowed-may a h s e))) (λ e. e);
  as_short = λ a l. either_way (allowed (leg_of a l) (leg_of a h)) (λ e. absurd (g a l (allowed-may a l h e))) (λ e. e);
}

-- an issuer of no number is in none either
module _ (l : Leg) (e : l.issuer ≡ no_issuer) (s : Leg) where
  not-long : {r : Rule} → Permitted l s r → ⊥
  unfolding same_class mixed_class same_government is_canada is_province is_us is_gb is_corporate is_corporation within
  not-long (one_corporation _ _ _ n _) = false≢true (rw e at (corporate-legs l s n).0)
  not-long (one_class _ _ f _) = false≢true (rw e at f)
  not-long (two_classes _ _ f) = false≢true (rw e at f)
  not-long (one_government _ _ _ f) = false≢true (rw e at f)

  not_short : {r : Rule} → Permitted s l r → ⊥
  unfolding same_class mixed_class same_government is_canada is_province is_us is_gb is_corporate is_corporation within
  not_short (one_corporation _ _ _ n _) = false≢true (rw e at (corporate-legs s l n).1.0)
  not_short (one_class _ _ f _) = false≢true (rw (e, and-false (is_canada s), and-false (is_province s)) at f)
  not_short (two_classes _ _ f) = false≢true (rw (e, and-false (is_canada s), and-false (is_province s)) at f)
  not_short (one_government _ _ _ f) = false≢true (rw (e, and-false (is_canada s), and-false (is_us s), and-false (is_gb s)) at f)

no_pair : (l s : Leg) → (Permitted l s (rule_of l s) → ⊥) → allowed l s ≡ false
no_pair l s f = either_way (allowed l s) (λ e. absurd (f (permitted l s (allowed_meets l s e).rule))) (λ e. e)

no_number : {n : ℕ} → n ≡ no_issuer → Government n ⊎ Corporate n → ⊥
no_number e (inl h) = omega (arith, e, h)
no_number e (inr h) = omega (arith, e, h.1)

module _ (i : Issuer) (stray : issuer_number i ≡ no_issuer) where
  unknown_issuer : UnknownIssuer i
  unfolding leg_of row_of
  unknown_issuer = record {
    out_of_range = λ a h e g. no_number (ap issuer_number e ∙ stray) g.ranges.identity.issuer;
    unpaired = λ h e.
        let number = ap issuer_number e ∙ stray in
        record {
          as_long = λ a s. no_pair (leg_of a h) (leg_of a s) (not-long (leg_of a h) number (leg_of a s));
          as_short = λ a l. no_pair (leg_of a l) (leg_of a h) (not_short (leg_of a h) number (leg_of a l));
        };
  }

module _ (h : Holding) where
  -- what paragraph 3 has of one of its two
  record Corporate3 : Type 0 where
    issuer : corporate h.issuer ≡ true
    cad : h.currency ≡ Cad
    rated : h.kind ≡ Bond → h.rating ≡ SingleA

  -- a holding that no paragraph has
  in_none : (domestic h.issuer ≡ true → h.currency ≡ Cad → ⊥) → (Corporate3 → ⊥) → (government h.issuer ≡ true → foreign h.currency ≡ true → ⊥) → Unpaired h
  in_none f c g =
      never_paired h
      (λ _ s m.
      by-each
      (λ p. f (domestics p.classes).0 p.first_cad)
      (λ _ p. c (record { issuer = (corporations p.corporation).0; cad = p.first_cad; rated = p.long-rated }))
      (λ _ p. g (governments p.government).0 (foreigners p.currency).0)
      m.paragraph)
      (λ _ l m.
      by-each
      (λ p. f (domestics p.classes).1 p.second_cad)
      (λ _ p. c (record { issuer = (corporations p.corporation).1; cad = p.second_cad; rated = p.short-rated }))
      (λ _ p. g (governments p.government).1 (foreigners p.currency).1)
      m.paragraph)

  in_cad_lem : h.currency ≡ Cad → domestic h.issuer ≡ false → corporate h.issuer ≡ false → Unpaired h
  in_cad_lem c f n = in_none (λ d _. false≢true (sym f ∙ d)) (λ p. false≢true (sym n ∙ p.issuer)) (λ _ e. false≢true (sym (ap foreign c) ∙ e))

  stay_unpaired : StayUnpaired h
  stay_unpaired = record {
    province = λ p e c. in_none (λ _ d. c d) (λ q. false≢true (sym (ap corporate e) ∙ q.issuer)) (λ g _. false≢true (sym (ap government e) ∙ g));
    corporation = λ n e c. in_none (λ d _. false≢true (sym (ap domestic e) ∙ d)) (λ q. c q.cad) (λ g _. false≢true (sym (ap government e) ∙ g));
    unrated = λ n e k r. in_none (λ d _. false≢true (sym (ap domestic e) ∙ d)) (λ q. r (q.rated k)) (λ g _. false≢true (sym (ap government e) ∙ g));
    us = λ e c. in_cad_lem c (ap domestic e) (ap corporate e);
    gb = λ e c. in_cad_lem c (ap domestic e) (ap corporate e);
  }

pub article : Article
article = record {
  each_head = head_kept_lem;
  each_row = λ a r. record { no_fault = (fault-none a r, none_fault a r); kept = row_kept a r };
  refusals = row-refused;
  records = holding-kept;
  numbered = numbers;
  unknown_provinces = λ p w. unknown_issuer (Province p) (rw w);
  unknown_corporations = λ c w. unknown_issuer (Corporation c) (unfold is_corporation in rw w);
  ends = periods;
  rates = rate-table;
  pairs = pairing;
  no_pairs = stay_unpaired;
  clients = clients;
}
