-- The figures of an accepted proposal fit in 64 bits. Assumes nothing.
use Prim.Native.Nat.{ℕ, ◌*◌, ◌≤◌, ◌<◌}
use native.Mathlib.Omega.{arith}
use Rattle.holding.specs.Holding.{value_limit}
use Rattle.article.specs.Pair.{rate_limit}
use Rattle.pairing.specs.Pairing.{priced_total}
use Rattle.pairing.proofs.Least.{units-high, priced-high}
use Rattle.proposal.specs.Submission.{Submission, book_of, terms_of, priced, price_limit, margin_limit, saved_limit, units_of}
use Rattle.proposal.specs.Demands.{Limits, Acceptable}
use Rattle.proposal.proofs.PricedBooks.{fair, rate_at_lem, value-at, in_book}
use Rattle.proposal.proofs.Figures.{units-sum}
use Rattle.proposal.proofs.Demands.{lines-pair}

module _ (s : Submission) where
  value-high : Limits s → (k : ℕ) → k < (priced s).count → (priced s).value k ≤ value_limit
  value-high l k h = rw (value-at s k) (l.each_row k (in_book s k h)).value.high

  few : Limits s → (priced s).count ≤ 256
  unfolding priced book_of
  few l = l.holdings

  -- units are at most 256 times 10^11 times 43,800
  pub units-fit : Acceptable s → units_of (priced s) s.lines ≤ 256 * margin_limit
  unfolding terms_of
  units-fit a =
      omega (
        arith,
        units-sum (priced s) s.lines,
        units-high (terms_of (priced s)) s.lines rate_limit value_limit (fair (priced s)) (lines-pair s a)
            (λ k h. (rate_at_lem s a.in_limits k (in_book s k h)).high) (value-high a.in_limits),
        few a.in_limits,
      )

  -- and so is the priced total
  pub priced-fits : Limits s → priced_total (terms_of (priced s)) (priced s).price ≤ 256 * saved_limit
  unfolding terms_of
  priced-fits l =
      omega (arith, priced-high (terms_of (priced s)) (priced s).price price_limit value_limit (λ k h. unfold priced book_of in l.prices k h) (value-high l), few l)
