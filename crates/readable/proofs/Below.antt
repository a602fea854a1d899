-- Every value of a field has at most twelve digits. Assumes nothing.
use mathlib.Core.Logic.{⊎_elim}
use mathlib.Core.List.{List}
use Prim.Native.Nat.{ℕ, ◌^◌, ◌<◌}
use native.Mathlib.Omega.{arith}
use Rattle.lists.specs.Tables.{Each}
use Rattle.numerals.proofs.Exactly.{numeral_exactly, numeral_below}
use Rattle.layout.specs.Layout.{IsValue, AreValues, no_values, value_and}
use Rattle.layout.specs.declared.Sort.{Sort}
use Rattle.layout.specs.declared.Sort.TheVariants.{Account, Side, Kind, Issuer, Currency, Rating, Date, Six, Twelve, Empty}

value_below : (s : Sort) (t : List ℕ) (v : ℕ) → IsValue s t v → v < 10 ^ 12
value_below Account t v h = omega (arith, h.inside)
value_below Side t v h = omega (arith, h.inside)
value_below Kind t v h = omega (arith, h.inside)
value_below Issuer t v h = ⊎_elim (λ named. omega (arith, named.inside)) (λ lei. omega (arith, lei.1)) h
value_below Currency t v h = omega (arith, h.inside)
value_below Rating t v h = omega (arith, h.inside)
value_below Date t v h = omega (arith, h.1)
value_below Six t v h = omega (arith, numeral_below 6 t v ((numeral_exactly 6 t v).1 h))
value_below Twelve t v h = numeral_below 12 t v ((numeral_exactly 12 t v).1 h)
value_below Empty t v h = omega (arith, h.1)

pub values_below : {ss : List Sort} {ts : List (List ℕ)} {vs : List ℕ} → AreValues ss ts vs → Each (λ v. v < 10 ^ 12) vs
values_below no_values = tt
values_below (value_and {s} {t} {v} is rest) = (value_below s t v is, values_below rest)
