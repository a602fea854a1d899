-- A row and the list of its numbers give each other back; and what a row made, by the promise of its builder: the record of a row without fault, or its fault. Assumes nothing.
use mathlib.Core.Path.{◌≡◌, refl, sym, ap, ◌∙◌}
use mathlib.Core.List.{List}
use Prim.Native.Nat.{ℕ, ◌<◌}
use native.Mathlib.Omega.{arith}
use lib.ListN.{length}
use Rattle.lists.specs.Tables.{list_to}
use Rattle.lists.proofs.Tables.{to_back}
use borrow.Author.Tests.{eq-eqb, ne_eqb}
use Rattle.holding.specs.Holding.{numbers_of, row_by, row_of, fault_of, holding_of, built_of, Ranges, Builds}
use Rattle.dates.proofs.Tested.{date-high}
use Rattle.holding.proofs.Ranges.{fault-none, in_range}
use Rattle.holding.specs.declared.Row.{Row}
use Rattle.holding.specs.declared.Account.{Account}
use Rattle.holding.specs.declared.Holding.{Holding}
use Rattle.std.specs.Prelude.{Result, Ok, Err}
use Rattle.refusals.specs.Refusals.{number_of, refused_by, numbered}
use Rattle.refusals.specs.declared.Refusal.{Refusal}
use Rattle.refusals.proofs.Refusals.{number-from_1, refused, handed_on}

pub row_back : (r : Row) → row_by (numbers_of r) ≡ r
unfolding numbers_of
row_back r = refl

pub numbers-back : (xs : List ℕ) → length xs ≡ 7 → numbers_of (row_by xs) ≡ xs
unfolding numbers_of list_to
numbers-back xs h = to_back 7 xs 0 h

module _ (a : Account) (r : Row) where
  pub builds_made : fault_of a r ≡ 0 → Builds a r (Ok (holding_of r))
  unfolding built_of
  builds_made none = record { number = sym none; built = rw (eq-eqb (fault_of a r) 0 none) }

  pub builds_refused : (x : Refusal) → number_of x ≡ fault_of a r → Builds a r (Err x)
  unfolding built_of
  builds_refused x e = record { number = e; built = rw (← e, ne_eqb (number_of x) 0 (λ z. omega (arith, number-from_1 x))) }

module _ {a : Account} {r : Row} {b : Result Holding Refusal} (p : Builds a r b) where
  -- its record: it has no fault
  pub made_row : {h : Holding} → b ≡ Ok h → Ranges a (row_of h) × (fault_of a r ≡ 0) × (h ≡ holding_of r)
  unfolding built_of
  made_row {h} e =
      let none : fault_of a r ≡ 0 = sym p.number ∙ ap refused_by e in
      let made : numbered b ≡ Ok (holding_of r) = p.built ∙ rw (eq-eqb (fault_of a r) 0 none) in
      let own : numbered b ≡ Ok h = ap numbered e in
      let same : h ≡ holding_of r = cc in
      (rw same (in_range a r none), none, same)

  -- its refusal is its fault
  pub refused-row : {x : Refusal} → b ≡ Err x → (number_of x ≡ fault_of a r) × (fault_of a r ≡ 0 → ⊥)
  refused-row e = (ap refused_by (sym e) ∙ p.number, λ z. refused e (p.number ∙ z))

-- what builds a record: its maturity is a date, and so small
pub due : (a : Account) (r : Row) → fault_of a r ≡ 0 → r.maturity < 23000000
due a r e = omega (arith, date-high r.maturity (fault-none a r e).maturity.date)

pub ruleset building = (builds_made, builds_refused, handed_on, due)
