-- A refusal has a number that is not 0, and the exit of a `?` hands it on. Assumes nothing.
use Rattle.std.proofs.Common.{◌≡◌, Result, Err, ap, ◌∙◌, arith}
use Rattle.std.specs.Result.{IsErrAnd}
use Rattle.std.proofs.lemmas.Result.{err_from_is_err_and}
use Rattle.refusals.specs.Refusals.{number_of}
use Rattle.refusals.specs.declared.Refusal.{Refusal}
use Rattle.refusals.proofs.Refusals.{number-from_1}

pub has_number : (x : Refusal) → number_of x ≡ 0 → ⊥
has_number x z = omega (arith, number-from_1 x, z)

pub handed_on : {A E : Type 0} (r : Result A E) (x : E) → IsErrAnd r (λ (y : E). y ≡ x) → r ≡ Err x
handed_on {A} {E} r x h =
    let p = err_from_is_err_and r h in
    p.1 ∙ ap (λ (y : E). Err y) p.2
