-- Rows are equal exactly when they have one description; and a row is its description and its value. Assumes nothing.
use mathlib.Core.Path.{◌≡◌, refl, sym, ap, ◌∙◌}
use mathlib.Core.Bool.{true, false}
use mathlib.Core.List.{List}
use Prim.Native.Nat.{ℕ}
use lib.ListN.{get_or}
use Rattle.lists.proofs.Tests.{either_way}
use Rattle.lists.proofs.Entries.{same_true, eq_same}
use Rattle.holding.specs.declared.Row.{Row}
use Rattle.daybook.specs.Book.{description_of, alike, valued}
use Rattle.daybook.specs.Bookings.{Equal, OneDescription}

module _ (r t : Row) where
  from-description : description_of r ≡ description_of t → Equal r t
  unfolding description_of
  from-description e = record {
    side = ap (λ (xs : List ℕ). get_or xs 0 0) e;
    kind = ap (λ (xs : List ℕ). get_or xs 1 0) e;
    issuer = ap (λ (xs : List ℕ). get_or xs 2 0) e;
    maturity = ap (λ (xs : List ℕ). get_or xs 3 0) e;
    currency = ap (λ (xs : List ℕ). get_or xs 4 0) e;
    rating = ap (λ (xs : List ℕ). get_or xs 5 0) e;
  }

  to-description : Equal r t → description_of r ≡ description_of t
  unfolding description_of
  to-description e = rw (e.side, e.kind, e.issuer, e.maturity, e.currency, e.rating)

  pub equal-alike : Equal r t → alike r t ≡ true
  unfolding alike
  equal-alike e = eq_same (description_of r) (description_of t) (to-description e)

  pub alike-equal : alike r t ≡ true → Equal r t
  unfolding alike
  alike-equal e = from-description (same_true (description_of r) (description_of t) e)

  pub not_alike : (Equal r t → ⊥) → alike r t ≡ false
  not_alike n = either_way (alike r t) (λ e. absurd (n (alike-equal e))) (λ e. e)

  pub one-description : OneDescription r t
  one-description = record { description = (from-description, to-description); found = (alike-equal, equal-alike) }

  -- the row of a description and a value
  pub valued_row : (s : Row) → Equal s t → Equal r t → (v : ℕ) → r.value ≡ v → valued s v ≡ r
  unfolding valued
  valued_row s f e v w = λ i. record {
    side = (f.side ∙ sym e.side) i;
    kind = (f.kind ∙ sym e.kind) i;
    issuer = (f.issuer ∙ sym e.issuer) i;
    maturity = (f.maturity ∙ sym e.maturity) i;
    value = sym w i;
    currency = (f.currency ∙ sym e.currency) i;
    rating = (f.rating ∙ sym e.rating) i;
  }

-- a row with another value is equal to it
pub valued_equal : (t : Row) (v : ℕ) → Equal (valued t v) t
unfolding valued
valued_equal t v = record { side = refl; kind = refl; issuer = refl; maturity = refl; currency = refl; rating = refl }

pub value_of : (t : Row) (v : ℕ) → (valued t v).value ≡ v
unfolding valued
value_of t v = refl
