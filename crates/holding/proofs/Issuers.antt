-- Which numbers are issuers, and which rating an issuer has, from the tests to the facts and back. Assumes nothing.
use mathlib.Core.Path.{◌≡◌}
use mathlib.Core.Logic.{◌⊎◌, inl, inr}
use mathlib.Core.Bool.{true, false, and-false, or-true}
use Prim.Native.Nat.{ℕ, ◌<◌}
use native.Mathlib.Omega.{arith}
use lib.Dec.{leb}
use borrow.Author.Tests.{eq-eqb, eqb-true, lt-leb}
use Rattle.lists.specs.Choice.{within}
use Rattle.lists.proofs.Tests.{within_true, true_within, one_of, either_way}
use Rattle.holding.specs.Holding.{is_corporation, is_issuer, is_rated, Government, Corporate, Rated}
use Rattle.holding.specs.declared.Row.{Row}

-- a number below a range, and one above it
pub below_range : (low high x : ℕ) → x < low → within low high x ≡ false
unfolding within
below_range low high x h = rw (lt-leb low x h)

pub above_range : (low high x : ℕ) → high < x → within low high x ≡ false
unfolding within
above_range low high x h = rw (lt-leb x high h) (and-false (leb low x))

module _ (n : ℕ) where
  pub is_corporation_lem : Corporate n → is_corporation n ≡ true
  unfolding is_corporation
  is_corporation_lem h = true_within 100 355 n h.0 h.1

  pub corporation-is : is_corporation n ≡ true → Corporate n
  unfolding is_corporation
  corporation-is e = within_true 100 355 n e

  pub no_corporation_lem : Government n → is_corporation n ≡ false
  unfolding is_corporation
  no_corporation_lem h = below_range 100 355 n (omega arith)

  pub issuer-is : is_issuer n ≡ true → Government n ⊎ Corporate n
  unfolding is_issuer
  issuer-is e = by (one_of (within 0 12 n) (is_corporation n) e)
    where
      by : (within 0 12 n ≡ true) ⊎ (is_corporation n ≡ true) → Government n ⊎ Corporate n
      by (inl g) = inl (within_true 0 12 n g).1
      by (inr c) = inr (corporation-is c)

  pub is_issuer_lem : Government n ⊎ Corporate n → is_issuer n ≡ true
  unfolding is_issuer
  is_issuer_lem (inl h) = rw (true_within 0 12 n (omega arith) h)
  is_issuer_lem (inr h) = rw (is_corporation_lem h) (or-true (within 0 12 n))

  pub no_issuer_lem : (Government n ⊎ Corporate n → ⊥) → is_issuer n ≡ false
  no_issuer_lem h = either_way (is_issuer n) (λ t. absurd (h (issuer-is t))) (λ f. f)

-- the rating of a known issuer
module _ (r : Row) (known : Government r.issuer ⊎ Corporate r.issuer) where
  pub rated-is : is_rated r.issuer r.rating ≡ true → Rated r
  unfolding is_rated
  rated-is e = record {
    government = λ g. eqb-true r.rating 2 (rw (no_corporation_lem r.issuer g) at e);
    corporation = λ c. (within_true 0 1 r.rating (rw (is_corporation_lem r.issuer c) at e)).1;
  }

  pub is_rated_lem : Rated r → is_rated r.issuer r.rating ≡ true
  unfolding is_rated
  is_rated_lem h = by known
    where
      by : Government r.issuer ⊎ Corporate r.issuer → is_rated r.issuer r.rating ≡ true
      by (inl g) = rw (no_corporation_lem r.issuer g, eq-eqb r.rating 2 (h.government g))
      by (inr c) = rw (is_corporation_lem r.issuer c, true_within 0 1 r.rating (omega arith) (h.corporation c))

  pub not-rated : (Rated r → ⊥) → is_rated r.issuer r.rating ≡ false
  not-rated h = either_way (is_rated r.issuer r.rating) (λ t. absurd (h (rated-is t))) (λ f. f)
