-- Lists in which each entry stands so to every later one. Assumes nothing.
use mathlib.Core.List.{List, [], ◌∷◌, ◌++◌}
use Rattle.lists.specs.Tables.{Each}
use Rattle.lists.proofs.Entries.{each_so, each_append}
use Rattle.ledger.specs.Balance.{Ordered}

pub each_all : {A : Type 0} (P : A → Type 0) → ((x : A) → P x) → (xs : List A) → Each P xs
each_all P f [] = tt
each_all P f (x ∷ xs) = (f x, each_all P f xs)

pub each_both : {A : Type 0} (P Q : A → Type 0) (xs : List A) → Each P xs → Each Q xs → Each (λ x. P x × Q x) xs
each_both P Q [] p q = tt
each_both P Q (x ∷ xs) p q = ((p.0, q.0), each_both P Q xs p.1 q.1)

-- of an order that follows from another for entries of a list, the list is in it too
pub ordered_so : {A : Type 0} (P : A → Type 0) (F G : A → A → Type 0) → ((x y : A) → P x → P y → F x y → G x y)
    → (xs : List A) → Each P xs → Ordered F xs → Ordered G xs
ordered_so P F G f [] p h = tt
ordered_so P F G f (x ∷ xs) p h = (
  each_so (λ y. P y × F x y) (G x) (λ y q. f x y p.0 q.0 q.1) xs (each_both P (F x) xs p.1 h.0),
  ordered_so P F G f xs p.1 h.1,
)

-- an entry at the end
pub ordered-last : {A : Type 0} (F : A → A → Type 0) (xs : List A) (z : A) → Each (λ x. F x z) xs → Ordered F xs → Ordered F (xs ++ (z ∷ []))
ordered-last F [] z p h = (tt, tt)
ordered-last F (x ∷ xs) z p h = (each_append (F x) xs (z ∷ []) h.0 (p.0, tt), ordered-last F xs z p.1 h.1)
