-- A client may pair what a participant may pair by paragraph 2, at the same rate. Assumes nothing.
use mathlib.Core.Path.{◌≡◌, refl, ap, sym, subst, ◌∙◌}
use Prim.Native.Nat.{ℕ}
use native.Mathlib.Omega.{arith}
use Rattle.rates.specs.Rate.{longer_than, at_least, period_of, class_of, bond_rate, strip_rate, kind_rate, rate_at, rate_of}
use Rattle.article.proofs.Paragraphs.{in_cad_lem}
use Rattle.article.specs.Article.{Paragraph2, ByParagraph, by_2, by_3, by_4, ClientPairs}
use Rattle.article.specs.Pair.{leg_of, is_bond, is_strip, is_canada, is_province, kinds_pair, same_class, mixed_class, provinces_pair, class_rule, domestic_rule, rule_of, pair_rate_of}
use Rattle.holding.specs.Holding.{letter_number}
use Rattle.holding.specs.declared.Account.{Account}
use Rattle.holding.specs.declared.AccountKind.TheVariants.{Participant, Client}
use Rattle.holding.specs.declared.Kind.{Kind}
use Rattle.holding.specs.declared.Kind.TheVariants.{Bond, Coupon, Residual}
use Rattle.holding.specs.declared.Holding.{Holding}

-- a client's account and a participant's, valued on one date
abbrev client_on : ℕ → Account
client_on date = record { date = date; letter = Client }

abbrev participant_on : ℕ → Account
participant_on date = record { date = date; letter = Participant }

-- a client is no participant
no_participant : Client ≡ Participant → ⊥
no_participant e = let never = ap letter_number e in omega (arith, never)

module _ (date : ℕ) where
  -- the term and the rate of a holding rest on the date alone
  same-period : (maturity : ℕ) → period_of (client_on date) maturity ≡ period_of (participant_on date) maturity
  unfolding period_of longer_than
  same-period maturity = refl

  by_kind : (k : Kind) (class maturity : ℕ)
      → kind_rate k (bond_rate class (client_on date) maturity) (client_on date) maturity ≡ kind_rate k (bond_rate class (participant_on date) maturity) (participant_on date) maturity
  unfolding kind_rate strip_rate bond_rate at_least longer_than period_of
  by_kind Bond class maturity = refl
  by_kind Coupon class maturity = refl
  by_kind Residual class maturity = refl

  same-alone : (h : Holding) → rate_of (client_on date) h ≡ rate_of (participant_on date) h
  unfolding rate_of rate_at
  same-alone h = by_kind h.kind (class_of h.issuer) h.maturity

  module _ (l s : Holding) where
    -- a client's pair is one of paragraph 2
    by_two : ByParagraph (client_on date) l s → Paragraph2 l s
    by_two (by_2 p) = p
    by_two (by_3 e p) = absurd (no_participant e)
    by_two (by_4 e p) = absurd (no_participant e)

    -- whose rule asks for no letter
    same-rule : Paragraph2 l s → rule_of (leg_of (client_on date) l) (leg_of (client_on date) s) ≡ rule_of (leg_of (participant_on date) l) (leg_of (participant_on date) s)
    unfolding domestic_rule kinds_pair class_rule same_class mixed_class provinces_pair is_bond is_strip is_canada is_province leg_of
    same-rule p = in_cad_lem (client_on date) l s p ∙ sym (in_cad_lem (participant_on date) l s p)

    same-rate : Paragraph2 l s → pair_rate_of (leg_of (client_on date) l) (leg_of (client_on date) s) ≡ pair_rate_of (leg_of (participant_on date) l) (leg_of (participant_on date) s)
    unfolding pair_rate_of leg_of
    same-rate p = rw (same-rule p, same-alone l, same-alone s)

    client-pairs : ClientPairs (client_on date) (participant_on date) l s
    client-pairs = record {
      may = (
        λ m.
            let p = by_two m.paragraph in
            (record { first-long = m.first-long; second_short = m.second_short; period = rw (same-period l.maturity, same-period s.maturity) at m.period; paragraph = by_2 p }, p),
        λ m.
            let (n, p) = m in
            record { first-long = n.first-long; second_short = n.second_short; period = rw (same-period l.maturity, same-period s.maturity) n.period; paragraph = by_2 p },
      );
      same-rate = λ m. same-rate (by_two m.paragraph);
      alone = same-alone l;
    }

-- every client's account is one of these, and every participant's
pub clients : (c p : Account) → c.letter ≡ Client → p.letter ≡ Participant → c.date ≡ p.date → (l s : Holding) → ClientPairs c p l s
clients c p e f d l s =
    let ours : client_on p.date ≡ c = λ t. record { date = sym d t; letter = sym e t } in
    let theirs : participant_on p.date ≡ p = λ t. record { date = p.date; letter = sym f t } in
    subst (λ (a : Account). ClientPairs a p l s) ours
    (subst (λ (a : Account). ClientPairs (client_on p.date) a l s) theirs (client-pairs p.date l s))
