-- That n priced legs are so in one way only, so that a book can keep the fact. Assumes nothing.
use mathlib.Core.Path.{◌≡◌, refl, ap, ◌∙◌}
use mathlib.Core.Logic.{◌⊎◌, inl, inr}
use mathlib.Core.List.{List}
use Prim.Native.Nat.{ℕ, ◌*◌}
use native.Mathlib.Omega.{arith}
use Rattle.std.proofs.Props.{props}
use Rattle.rates.specs.Rate.{flat_rate, percents}
use Rattle.cover.specs.Cover.{Priced}

module _ (rate period : ℕ) where
  -- a strip's rate is half more than the bond's, or the highest, and of the highest's period the first is lower
  apart : 2 * rate ≡ 3 * flat_rate 2 period → period ≡ 5 → rate ≡ 43800 → ⊥
  apart a five b =
      let flat : flat_rate 2 period ≡ 14600 = ap (flat_rate 2) five ∙ (unfold flat_rate percents in refl) in
      omega (arith, a, b, flat)

  same_number : {x y : ℕ} → IsProp (x ≡ y)
  same_number = hlevel props

  highest : IsProp ((period ≡ 5) × (rate ≡ 43800))
  highest = hlevel props

  pub strip_prop : IsProp ((2 * rate ≡ 3 * flat_rate 2 period) ⊎ ((period ≡ 5) × (rate ≡ 43800)))
  strip_prop (inl a) (inl b) = ap inl (same_number a b)
  strip_prop (inl a) (inr b) = absurd (apart a b.0 b.1)
  strip_prop (inr a) (inl b) = absurd (apart b a.0 a.1)
  strip_prop (inr a) (inr b) = ap inr (highest a b)

pub priced_prop : (n : ℕ) (legs price : List ℕ) → IsProp (Priced n legs price)
priced_prop n legs price = hlevel (props, strip_prop)
