-- A record has the numbers of its cases. Assumes nothing.
use mathlib.Core.Path.{refl, ap, ◌∙◌}
use Rattle.holding.specs.Holding.{side_number, kind_number, issuer_number, currency_number, rating_number, is_corporation, row_of, Numbers}
use Rattle.holding.specs.declared.Holding.{Holding}

pub numbers : (h : Holding) → Numbers h
unfolding row_of is_corporation
numbers h = record {
  of_long = ap side_number;
  of_short = ap side_number;
  of-bond = ap kind_number;
  of_coupon = ap kind_number;
  of_residual = ap kind_number;
  of_canada = ap issuer_number;
  of-province = λ p w e. ap issuer_number e ∙ rw w;
  of-us = ap issuer_number;
  of-gb = ap issuer_number;
  of-corporation = λ c w e. ap issuer_number e ∙ rw w;
  of_cad = ap currency_number;
  of_usd = ap currency_number;
  of_gbp = ap currency_number;
  of_single_a = ap rating_number;
  of_lower = ap rating_number;
  of_no_rating = ap rating_number;
  maturity = refl;
  value = refl;
}
