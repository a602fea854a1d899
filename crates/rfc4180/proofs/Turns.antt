-- A definition by turns with a bound on their number: where each turn goes on further along, the bound does not show. Assumes nothing.
use mathlib.Core.Path.{◌≡◌, sym, ◌∙◌}
use Prim.Native.Nat.{ℕ, zero, suc, ◌+◌, ◌≤◌, ◌<◌}
use native.Mathlib.Omega.{arith}

module _ {R : Type 0} (n : ℕ) (f : ℕ → ℕ → R) (turn : (ℕ → R) → ℕ → R)
    (turns : (k i : ℕ) → f (suc k) i ≡ turn (f k) i)
    (onward : (g h : ℕ → R) (i : ℕ) → ((j : ℕ) → i < j → j ≤ n → g j ≡ h j) → turn g i ≡ turn h i) where
  -- two bounds that reach the end from i say the same of every place past i
  alike : (k m i : ℕ) → n ≤ i + k → n ≤ i + m → (j : ℕ) → i < j → j ≤ n → f k j ≡ f m j
  alike zero m i a b j l h = absurd (omega arith)
  alike (suc k) zero i a b j l h = absurd (omega arith)
  alike (suc k) (suc m) i a b j l h =
      turns k j ∙ onward (f k) (f m) j (alike k m j (omega arith) (omega arith)) ∙ sym (turns m j)

  pub unbounded : (i : ℕ) → f (suc n) i ≡ turn (f (suc n)) i
  unbounded i = turns n i ∙ onward (f n) (f (suc n)) i (alike n (suc n) i (omega arith) (omega arith))
