-- Laws of sums over the numbers below n and over a list. Assumes nothing.
use mathlib.Core.Path.{◌≡◌, refl, ap}
use mathlib.Core.List.{List, [], ◌∷◌, ◌++◌}
use Prim.Native.Nat.{ℕ, zero, suc, ◌+◌, ◌*◌, ◌≤◌, ◌<◌}
use native.Mathlib.Nat.{le_refl, mul-le-mul}
use native.Mathlib.Numerals.{add-one}
use native.Mathlib.Omega.{arith}
use borrow.Author.Tests.{eq-eqb, ne_eqb}
use Rattle.lists.specs.Tables.{sum_to, sum_of, only}
use Rattle.lists.proofs.Tests.{same_or_not}

pub only_same : (i x : ℕ) → only i x i ≡ x
unfolding only
only_same i x = rw (eq-eqb i i refl)

pub only-other : (i x k : ℕ) → (i ≡ k → ⊥) → only i x k ≡ 0
unfolding only
only-other i x k h = rw (ne_eqb i k h)

pub sum_to_le : (n : ℕ) (f g : ℕ → ℕ) → ((k : ℕ) → k < n → f k ≤ g k) → sum_to n f ≤ sum_to n g
unfolding sum_to
sum_to_le zero f g h = le_refl 0
sum_to_le (suc n) f g h = omega (arith, sum_to_le n f g (λ k q. h k (omega arith)), h n (le_refl _))

pub sum_to_eq : (n : ℕ) (f g : ℕ → ℕ) → ((k : ℕ) → k < n → f k ≡ g k) → sum_to n f ≡ sum_to n g
unfolding sum_to
sum_to_eq zero f g h = refl
sum_to_eq (suc n) f g h = omega (arith, sum_to_eq n f g (λ k q. h k (omega arith)), h n (le_refl _))

pub sum_to-add : (n : ℕ) (f g : ℕ → ℕ) → sum_to n (λ k. f k + g k) ≡ sum_to n f + sum_to n g
unfolding sum_to
sum_to-add zero f g = refl
sum_to-add (suc n) f g = omega (arith, sum_to-add n f g)

pub sum_to-times : (n c : ℕ) (f : ℕ → ℕ) → sum_to n (λ k. c * f k) ≡ c * sum_to n f
unfolding sum_to
sum_to-times zero c f = omega arith
sum_to-times (suc n) c f = omega (arith, sum_to-times n c f)

-- n numbers, none above m
pub sum_to_bound : (n m : ℕ) (f : ℕ → ℕ) → ((k : ℕ) → k < n → f k ≤ m) → sum_to n f ≤ n * m
unfolding sum_to
sum_to_bound zero m f h = omega arith
sum_to_bound (suc n) m f h = omega (arith, sum_to_bound n m f (λ k q. h k (omega arith)), h n (le_refl _))

-- n products, their factors none above a and none above b
pub sum_to_product_bound : (n a b : ℕ) (f g : ℕ → ℕ) → ((k : ℕ) → k < n → f k ≤ a) → ((k : ℕ) → k < n → g k ≤ b)
    → sum_to n (λ k. f k * g k) ≤ n * (a * b)
sum_to_product_bound n a b f g h j = sum_to_bound n (a * b) _ (λ k q. mul-le-mul (h k q) (j k q))

pub sum_to-none : (n : ℕ) (f : ℕ → ℕ) → ((k : ℕ) → k < n → f k ≡ 0) → sum_to n f ≡ 0
sum_to-none n f h = omega (arith, sum_to_bound n 0 f (λ k q. omega (arith, h k q)))

-- a weighted sum of what stands at one place
pub sum_to-only : (n : ℕ) (w : ℕ → ℕ) (i x : ℕ) → i < n → sum_to n (λ k. w k * only i x k) ≡ w i * x
unfolding sum_to
sum_to-only zero w i x h = absurd (omega arith)
sum_to-only (suc n) w i x h =
    same_or_not i n
    (λ e.
    let here : w n * only i x n ≡ w i * x = rw (← e, only_same) in
    omega (arith, sum_to-none n (λ k. w k * only i x k) (λ k q. rw (only-other i x k (λ r. omega arith)) (omega arith))))
    (λ o. omega (arith, sum_to-only n w i x (omega arith), ap (λ (v : ℕ). w n * v) (only-other i x n (λ r. omega arith))))

pub sum_of-append : {A : Type 0} (xs ys : List A) (f : A → ℕ) → sum_of (xs ++ ys) f ≡ sum_of xs f + sum_of ys f
unfolding sum_of
sum_of-append [] ys f = omega arith
sum_of-append (x ∷ xs) ys f = omega (arith, sum_of-append xs ys f)

-- one number more in a running sum
pub sum_to-more : (f : ℕ → ℕ) (n sum : ℕ) → sum ≡ sum_to n f → sum + f n ≡ sum_to (n + 1) f
unfolding sum_to
sum_to-more f n sum e = rw (add-one, e)

pub sum_of-more : {A : Type 0} (xs : List A) (x : A) (f : A → ℕ) → sum_of xs f + f x ≡ sum_of (xs ++ (x ∷ [])) f
unfolding sum_of
sum_of-more xs x f = omega (arith, sum_of-append xs (x ∷ []) f)
