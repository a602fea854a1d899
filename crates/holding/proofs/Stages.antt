-- Of two lists of refusals in turn: what the first refuses, or, where it refuses nothing, what the second does. Assumes nothing.
use mathlib.Core.Path.{◌≡◌, refl}
use mathlib.Core.Bool.{Bool}
use mathlib.Core.List.{List, ◌++◌}
use Prim.Native.Nat.{ℕ}
use native.Mathlib.Omega.{arith}
use Rattle.lists.specs.Choice.{first_of}
use Rattle.lists.proofs.Firsts.{Listed, found_first, found-second}
use Rattle.refusals.specs.Refusals.{number_of}
use Rattle.refusals.specs.declared.Refusal.{Refusal}
use Rattle.refusals.proofs.Refusals.{number-from_1}

module _ (xs ys : List (Bool × ℕ)) where
  pub refused_first : (x : Refusal) → number_of x ≡ first_of xs 0 → number_of x ≡ first_of (xs ++ ys) 0
  refused_first x e = found_first (number_of x) xs ys e (λ z. omega (arith, number-from_1 x))

  pub refused_second : {n : ℕ} → Listed xs → 0 ≡ first_of xs 0 → n ≡ first_of ys 0 → n ≡ first_of (xs ++ ys) 0
  refused_second {n} l e f = found-second n 0 xs ys l e refl f
