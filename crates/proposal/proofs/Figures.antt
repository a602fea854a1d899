-- The units are the sum of the lines as a pairing at 1, and the cents are those units rounded up once. Assumes nothing.
use mathlib.Core.Path.{◌≡◌, ap}
use mathlib.Core.List.{List}
use Prim.Native.Nat.{ℕ, ◌-◌, ◌*◌}
use native.Mathlib.Omega.{arith}
use Rattle.lists.proofs.Sums.{sum_to_eq}
use Rattle.pairing.specs.Pairing.{used, rest_units, sum_at}
use Rattle.pairing.specs.declared.Line.{Line}
use Rattle.proposal.specs.Submission.{PricedBook, terms_of, remainder, margin, units_of, cents_of, RoundedUp}

pub units-sum : (b : PricedBook) (lines : List Line) → sum_at (terms_of b) 1 lines ≡ units_of b lines
unfolding sum_at rest_units units_of margin remainder terms_of
units-sum b lines =
    omega (
      arith,
      sum_to_eq b.count (λ k. (b.leg k).rate * (1 * b.value k - used lines k)) (λ k. (b.leg k).rate * (b.value k - used lines k))
          (λ k _. ap (λ (v : ℕ). (b.leg k).rate * (v - used lines k)) (omega arith)),
    )

-- only one number is the smallest
pub rounded_once : (units a b : ℕ) → RoundedUp units a → RoundedUp units b → a ≡ b
rounded_once units a b f g = omega (arith, f.smallest b g.enough, g.smallest a f.enough)

pub rounded : (units : ℕ) → RoundedUp units (cents_of units)
unfolding cents_of
rounded units = record { enough = omega arith; smallest = λ other h. omega arith }
