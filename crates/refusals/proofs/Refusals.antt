-- A refusal has a number from 1, so that 0 is what is not refused, and no two have the same; and what the exit of a `?` hands on. Assumes nothing.
use Rattle.std.proofs.Common.{◌≡◌, ℕ, ◌-◌, ◌≤◌, List, [], ◌∷◌, get_or, Result, Ok, Err, sym, ap, ◌∙◌, arith, rules}
use Rattle.std.specs.Result.{IsErrAnd}
use Rattle.std.proofs.lemmas.Result.{err_from_is_err_and}
use Rattle.refusals.specs.Refusals.{number_of, refused_by}
use Rattle.refusals.specs.declared.Refusal.{Refusal}
use Rattle.refusals.specs.declared.Refusal.TheVariants.{Lengths, NoRoom}
use Rattle.refusals.specs.declared.Refusal.TheVariants.{TooManyHoldings, Side, Kind, Issuer, Term, Value}
use Rattle.refusals.specs.declared.Refusal.TheVariants.{TooManyLines, Price, NotInBook, Sides, NotAllowed, NoAmount, AmountTooHigh, NotCovered, Totals}
use Rattle.refusals.specs.declared.Refusal.TheVariants.{FileTooLong, Grammar, FieldCount, Field, Sequence}
use Rattle.refusals.specs.declared.Refusal.TheVariants.{Currency, Date, Rating, Letter, Booking}

pub number-from_1 : (r : Refusal) → 1 ≤ number_of r
number-from_1 r = search rules

pub refused : {A : Type 0} {r : Result A Refusal} {x : Refusal} → r ≡ Err x → refused_by r ≡ 0 → ⊥
refused {A} {r} {x} e z = omega (arith, number-from_1 x, ap refused_by (sym e) ∙ z)

pub not_refused : {A : Type 0} {r : Result A Refusal} {x : A} → r ≡ Ok x → refused_by r ≡ 0
not_refused e = ap refused_by e

-- the refusals in the order of their numbers
refusals : List Refusal
refusals =
    Lengths ∷ NoRoom ∷ TooManyHoldings ∷ Side ∷ Kind ∷ Issuer ∷ Term ∷ Value ∷ TooManyLines ∷ Price ∷ NotInBook ∷ Sides ∷ NotAllowed ∷ NoAmount
    ∷ AmountTooHigh ∷ NotCovered ∷ Totals ∷ FileTooLong ∷ Grammar ∷ FieldCount ∷ Field ∷ Sequence ∷ Currency ∷ Date ∷ Rating ∷ Letter ∷ Booking ∷ []

at_its_number : (r : Refusal) → get_or refusals (number_of r - 1) Lengths ≡ r
unfolding refusals
at_its_number r = search rules

pub told_apart : (a b : Refusal) → number_of a ≡ number_of b → a ≡ b
told_apart a b e = sym (at_its_number a) ∙ ap (λ (n : ℕ). get_or refusals (n - 1) Lengths) e ∙ at_its_number b

-- the refusal that a `?` meets is the one that it returns
pub handed_on : {A : Type 0} (r : Result A Refusal) (x : Refusal) → IsErrAnd r (λ (y : Refusal). y ≡ x) → r ≡ Err x
handed_on r x h =
    let p = err_from_is_err_and r h in
    p.1 ∙ ap (λ (y : Refusal). Err y) p.2
