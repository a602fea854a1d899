-- The value of a test in a definition from what code found on its way, `search tests`; and back from its value to the fact. Assumes nothing.
use mathlib.Core.Path.{◌≡◌, refl, sym, ◌∙◌}
use mathlib.Core.Logic.{◌≢◌, ◌⊎◌, inl, inr}
use mathlib.Core.Bool.{Bool, true, false, cond, ◌&&◌, ◌||◌, and-eq-true_iff, and-false, false≢true}
use Prim.Native.Nat.{ℕ, suc, ◌≤◌, ◌<◌}
use native.Mathlib.Omega.{arith}
use lib.Dec.{leb, ltb, eqb, leb-zero}
use borrow.Author.Tests.{le-leb, lt-leb, lt-ltb, le-ltb, eq-eqb, ne_eqb, leb-true, ltb-true, ltb-false, eqb-true, eqb-false}
use Rattle.lists.specs.Choice.{within}

-- the end of a range in a `match`, as `..=10`, is tested as below 11
pub below_leb : (a b : ℕ) → a < suc b → leb a b ≡ true
below_leb a b h = le-leb a b (omega arith)

pub ruleset tests = (leb-zero, le-leb, below_leb, lt-leb, lt-ltb, le-ltb, eq-eqb, ne_eqb)

-- a number within its ends
pub within_true : (low high x : ℕ) → within low high x ≡ true → (low ≤ x) × (x ≤ high)
unfolding within
within_true low high x e =
    let (a, b) = (and-eq-true_iff (leb low x) (leb x high)).0 e in
    (leb-true low x a, leb-true x high b)

pub true_within : (low high x : ℕ) → low ≤ x → x ≤ high → within low high x ≡ true
unfolding within
true_within low high x a b = rw (le-leb low x a, le-leb x high b)

-- the arms of a `match` on 0, on 1 to high, and on the rest: `search arms`
pub zero_out : (high n : ℕ) → n ≡ 0 → within 1 high n ≡ false
unfolding within
zero_out high n e = rw (lt-leb 1 n (omega arith))

pub range_in : (high n : ℕ) → (n ≡ 0 → ⊥) → n < suc high → within 1 high n ≡ true
range_in high n z h =
    let k : n ≢ 0 = z in
    true_within 1 high n (omega arith) (omega arith)

-- and of one on 1 to high alone
pub none_out : (high n : ℕ) → n < 1 → within 1 high n ≡ false
none_out high n h = zero_out high n (omega arith)

pub range_from : (high n : ℕ) → 1 ≤ n → n < suc high → within 1 high n ≡ true
range_from high n l h = true_within 1 high n l (omega arith)

pub above-out : (high n : ℕ) → suc high ≤ n → within 1 high n ≡ false
unfolding within
above-out high n h = rw (lt-leb n high h) (and-false (leb 1 n))

pub ruleset arms = (eq-eqb, ne_eqb, zero_out, none_out, range_in, range_from, above-out)

-- what holds of each answer, where the test has the value that picks it, holds of the one that is picked
pub by-test : {A : Type 0} (P : A → Type 0) (t : Bool) {x y : A} → (t ≡ true → P x) → (t ≡ false → P y) → P (cond t x y)
by-test P true p q = p refl
by-test P false p q = q refl

pub either_way : {P : Type 0} (t : Bool) → (t ≡ true → P) → (t ≡ false → P) → P
either_way true p q = p refl
either_way false p q = q refl

-- what holds below n and from n on holds everywhere
pub by_end : (P : ℕ → Type 0) (n : ℕ) → ((k : ℕ) → k < n → P k) → ((k : ℕ) → n ≤ k → P k) → (k : ℕ) → P k
by_end P n p q k = either_way (ltb k n) (λ e. p k (ltb-true k n e)) (λ e. q k (ltb-false k n e))

-- one of two tests holds
pub one_of : (s t : Bool) → (s || t) ≡ true → (s ≡ true) ⊎ (t ≡ true)
one_of true t e = inl refl
one_of false t e = inr e

-- two numbers that differ are not both a third
pub not_both : (a b n : ℕ) → (a ≡ b → ⊥) → (eqb a n && eqb b n) ≡ false
not_both a b n h =
    either_way (eqb a n)
    (λ e. rw (e, ne_eqb b n (λ f. h (eqb-true a n e ∙ sym f))))
    (λ e. rw e)

-- neither of two tests holds
pub neither : (s t : Bool) → (s || t) ≡ false → (s ≡ false) × (t ≡ false)
neither true t e = absurd (false≢true (sym e))
neither false t e = (refl, e)

-- two numbers are one, or not
pub same_or_not : {P : Type 0} (a b : ℕ) → (a ≡ b → P) → (a ≢ b → P) → P
same_or_not a b p q = either_way (eqb a b) (λ e. p (eqb-true a b e)) (λ e. q (eqb-false a b e))
