-- What the priced book of a submission has at a holding's number, and that its terms are the article's, which are fair. Assumes nothing.
use mathlib.Core.Path.{◌≡◌, refl}
use Prim.Native.Nat.{ℕ, ◌<◌}
use lib.ListN.{length, get_or, get_or-map}
use Rattle.lists.proofs.Tables.{get_or-map_in}
use Rattle.holding.specs.Holding.{account_of, InRange, holding_of}
use Rattle.holding.specs.declared.Row.{Row}
use Rattle.holding.proofs.Ranges.{none_fault, in_range}
use Rattle.article.specs.Pair.{leg_of, rule_of, pair_rate_of, RateInRange}
use Rattle.article.proofs.PairRates.{rule_rate_le}
use Rattle.article.proofs.LegRates.{leg-rates}
use Rattle.article.specs.Pair as article
use Rattle.pairing.specs.Pairing.{saving_rate, Fair}
use Rattle.pairing.specs.declared.Line.{Line}
use Rattle.proposal.specs.Demands.{Limits}
use Rattle.proposal.specs.Submission.{Submission, account_in, PricedBook, line_numbers, line_by, book_of, terms_of, priced, no_row, no_leg, holding_at}

module _ (s : Submission) where
  -- the book has as many holdings as there are rows
  pub in_book : (k : ℕ) → k < (priced s).count → k < length s.rows
  unfolding priced book_of
  in_book k h = h

  pub book_in : (k : ℕ) → k < length s.rows → k < (priced s).count
  unfolding priced book_of
  book_in k h = h

  pub holding_in_range : Limits s → (k : ℕ) → k < length s.rows → InRange (account_in s) (holding_at s k)
  unfolding holding_at
  holding_in_range l k h = record { valued = unfold account_of in l.valued; ranges = in_range _ _ (none_fault _ _ (l.each_row k h)) }

  pub leg_at_lem : (k : ℕ) → k < length s.rows → (priced s).leg k ≡ leg_of (account_in s) (holding_at s k)
  unfolding priced book_of holding_at
  leg_at_lem k h = get_or-map_in (λ (r : Row). leg_of (account_in s) (holding_of r)) s.rows k no_row no_leg h

  pub value-at : (k : ℕ) → (priced s).value k ≡ (get_or s.rows k no_row).value
  unfolding priced book_of
  value-at k = get_or-map (λ (r : Row). r.value) s.rows k no_row

  pub rate_at_lem : Limits s → (k : ℕ) → k < length s.rows → RateInRange ((priced s).leg k)
  rate_at_lem l k h = rw (leg_at_lem k h) (leg-rates (account_in s) (holding_at s k) (holding_in_range l k h))

-- a pair's rate is no more than its two rates
pub fair : (b : PricedBook) → Fair (terms_of b)
unfolding terms_of pair_rate_of
fair b i j = rule_rate_le (rule_of (b.leg i) (b.leg j)) (b.leg i).rate (b.leg j).rate

-- the saving rate of two holdings is that of their legs
pub saving_rate_lem : (b : PricedBook) (i j : ℕ) → saving_rate (terms_of b) i j ≡ article.saving_rate_of (b.leg i) (b.leg j)
unfolding saving_rate article.saving_rate_of terms_of
saving_rate_lem b i j = refl

-- a line back from the list of its numbers
pub line-back : (l : Line) → line_by (line_numbers l) ≡ l
unfolding line_numbers
line-back l = refl
