-- Tests on numbers and on lists of them, and lists of tests. Assumes nothing.
use Rattle.std.specs.Prelude.{ℕ, ◌+◌, leb, eqb}
use mathlib.Core.{Bool.Bool, Bool.true, Bool.false, Bool.cond, Bool.◌&&◌, Bool.◌||◌, List.List, List.[], List.◌∷◌}

-- low to high, both ends inside
unfoldable pub within : ℕ → ℕ → ℕ → Bool
within low high x = leb low x && leb x high

-- two lists of numbers, entry by entry
unfoldable pub same : List ℕ → List ℕ → Bool
same [] [] = true
same [] (y ∷ ys) = false
same (x ∷ xs) [] = false
same (x ∷ xs) (y ∷ ys) = eqb x y && same xs ys

-- the answer beside the first test that holds, or the last answer where none does
unfoldable pub first_of : {A : Type 0} → List (Bool × A) → A → A
first_of [] last = last
first_of (t ∷ ts) last = cond t.0 t.1 (first_of ts last)

-- whether every element of a list passes a test
abbrev pub every : {A : Type 0} → (A → Bool) → List A → Bool
every test [] = true
every test (x ∷ xs) = test x && every test xs

-- whether an element of a list passes a test
unfoldable pub some : {A : Type 0} → (A → Bool) → List A → Bool
some test [] = false
some test (x ∷ xs) = test x || some test xs

-- how many elements of a list pass a test
unfoldable pub count : {A : Type 0} → (A → Bool) → List A → ℕ
count test [] = 0
count test (x ∷ xs) = cond (test x) 1 0 + count test xs
