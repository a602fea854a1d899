-- Laws of what the lines use of a holding. Assumes nothing.
use mathlib.Core.Path.{◌≡◌, ap, sym}
use mathlib.Core.List.{List, [], ◌∷◌, ◌++◌}
use Prim.Native.Nat.{ℕ, ◌+◌, ◌≤◌}
use native.Mathlib.Omega.{arith}
use lib.ListN.{take, drop, take-append-drop}
use Rattle.lists.specs.Tables.{sum_of}
use Rattle.lists.proofs.Sums.{only_same, only-other, sum_of-append}
use Rattle.pairing.specs.Pairing.{used}
use Rattle.pairing.specs.declared.Line.{Line}

pub used-append : (xs ys : List Line) (k : ℕ) → used (xs ++ ys) k ≡ used xs k + used ys k
unfolding used
used-append xs ys k = sum_of-append xs ys _

pub used-take_le : (n : ℕ) (lines : List Line) (k : ℕ) → used (take n lines) k ≤ used lines k
used-take_le n lines k =
    omega (arith, used-append (take n lines) (drop n lines) k, ap (λ (ls : List Line). used ls k) (take-append-drop n lines))

-- one line uses its amount of its long and of its short, and nothing of any other
pub used-one-long : (l : Line) → (l.long ≡ l.short → ⊥) → used (l ∷ []) l.long ≡ l.amount
unfolding used sum_of
used-one-long l apart =
    omega (arith, only_same l.long l.amount, only-other l.short l.amount l.long (λ e. apart (sym e)))

pub used-one-short : (l : Line) → (l.long ≡ l.short → ⊥) → used (l ∷ []) l.short ≡ l.amount
unfolding used sum_of
used-one-short l apart =
    omega (arith, only_same l.short l.amount, only-other l.long l.amount l.short apart)

pub used-one-other : (l : Line) (k : ℕ) → (l.long ≡ k → ⊥) → (l.short ≡ k → ⊥) → used (l ∷ []) k ≡ 0
unfolding used sum_of
used-one-other l k h j = omega (arith, only-other l.long l.amount k h, only-other l.short l.amount k j)
