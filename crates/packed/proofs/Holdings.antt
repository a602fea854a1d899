-- The leg of a record within the ranges has a code. Assumes nothing.
use mathlib.Core.Logic.{◌⊎◌, inl, inr}
use Prim.Native.Nat.{ℕ, ◌≤◌}
use native.Mathlib.Omega.{arith}
use Rattle.holding.specs.Holding.{Government, Corporate, letter_number, rating_number, row_of, InRange}
use Rattle.holding.specs.declared.AccountKind.{AccountKind}
use Rattle.holding.specs.declared.AccountKind.TheVariants.{Participant, Client}
use Rattle.holding.specs.declared.Rating.{Rating}
use Rattle.holding.specs.declared.Rating.TheVariants.{SingleA, Lower, NotGiven}
use Rattle.holding.specs.declared.Holding.{Holding}
use Rattle.holding.specs.declared.Account.{Account}
use Rattle.article.specs.Pair.{leg_of}
use Rattle.rates.proofs.Periods.{period-low}
use Rattle.article.proofs.LegRates.{leg-rates}
use Rattle.packed.specs.Packed.{Small}

-- a known issuer's number is at most 355, a rating's at most 2, and a letter's at most 1
issuer-few : (n : ℕ) → Government n ⊎ Corporate n → n ≤ 355
issuer-few n (inl g) = omega arith
issuer-few n (inr c) = c.1

rating-few : (r : Rating) → rating_number r ≤ 2
rating-few SingleA = omega arith
rating-few Lower = omega arith
rating-few NotGiven = omega arith

pub letter-few : (k : AccountKind) → letter_number k ≤ 1
letter-few Participant = omega arith
letter-few Client = omega arith

pub small : (a : Account) (h : Holding) → InRange a h → Small (leg_of a h)
unfolding leg_of row_of
small a h g = record {
  letter = omega (arith, letter-few a.letter);
  side = omega (arith, g.ranges.identity.side);
  kind = omega (arith, g.ranges.identity.kind);
  issuer = omega (arith, issuer-few _ g.ranges.identity.issuer);
  currency = omega (arith, g.ranges.currency);
  rating = omega (arith, rating-few h.rating);
  period = omega (arith, period-low a h.maturity);
  rate = omega (arith, (leg-rates a h g).high);
}
