-- Lists: what holds of each entry, lists by index, one after another, and written into another; sums; a quoted text as its bytes. Assumes nothing.
use mathlib.Core.{List.List, List.[], List.◌∷◌, List.◌++◌, Bool.cond}
use Prim.Native.{Nat.ℕ, Nat.zero, Nat.suc, Nat.◌+◌, Char.code, String.String, String.[] as end, String.◌∷◌ as ◌then◌}
use lib.{ListN.length, ListN.take, ListN.drop, Dec.eqb}

abbrev pub Each : {A : Type 0} → (A → Type 0) → List A → Type 0
Each P [] = Unit {0}
Each P (x ∷ xs) = P x × Each P xs

-- f 0, f 1, .. , f (n - 1)
unfoldable pub list_to : {A : Type 0} → ℕ → (ℕ → A) → List A
list_to zero f = []
list_to (suc n) f = list_to n f ++ (f n ∷ [])

-- the entries of f i, then those of f (i + 1), and so on, k lists in all
unfoldable pub turns : {A : Type 0} → ℕ → ℕ → (ℕ → List A) → List A
turns i zero f = []
turns i (suc k) f = f i ++ turns (suc i) k f

-- each number below n in turn: the entries of f 0, then those of f 1, and so on
unfoldable pub in_turn : {A : Type 0} → ℕ → (ℕ → List A) → List A
in_turn n f = turns 0 n f

-- written over the first entries of what was there, the others kept
unfoldable pub front : {A : Type 0} → List A → List A → List A
front xs old = xs ++ drop (length xs) old

-- written into a list from a place on, the others kept
unfoldable pub overwrite : {A : Type 0} → ℕ → List A → List A → List A
overwrite at xs old = take at old ++ front xs (drop at old)

-- f 0 + f 1 + .. + f (n - 1)
unfoldable pub sum_to : ℕ → (ℕ → ℕ) → ℕ
sum_to zero f = 0
sum_to (suc n) f = sum_to n f + f n

-- f over the entries of a list, added up
unfoldable pub sum_of : {A : Type 0} → List A → (A → ℕ) → ℕ
sum_of [] f = 0
sum_of (x ∷ xs) f = f x + sum_of xs f

-- x at the place i, 0 at every other
unfoldable pub only : ℕ → ℕ → ℕ → ℕ
only i x k = cond (eqb i k) x 0

-- the bytes of a text of ASCII characters
abbrev pub ascii : String → List ℕ
ascii end = []
ascii (c then rest) = code c ∷ ascii rest
