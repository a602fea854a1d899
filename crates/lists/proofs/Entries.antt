-- What holds of every entry of a list: at each place, and from one computed test. Assumes nothing.
use mathlib.Core.Path.{◌≡◌, refl, sym, ◌∙◌}
use mathlib.Core.Logic.{◌↔◌}
use mathlib.Core.Bool.{Bool, true, false, ◌||◌, and-eq-true_iff, false≢true}
use mathlib.Core.List.{List, [], ◌∷◌, ◌++◌, map}
use Prim.Native.Nat.{ℕ, zero, suc, ◌≤◌, ◌<◌}
use native.Mathlib.Omega.{arith}
use lib.Dec.{leb, eqb}
use lib.ListN.{length, get_or}
use borrow.Author.Tests.{leb-true, eq-eqb, eqb-true}
use Rattle.std.specs.List.{list_all}
use Rattle.lists.specs.Choice.{same, every, some}
use Rattle.lists.specs.Tables.{Each}
use Rattle.lists.proofs.Tests.{neither, either_way}

-- a test that passes everywhere gives each entry what it gives one
pub each-by : {A : Type 0} (P : A → Type 0) (test : A → Bool) → ((x : A) → test x ≡ true → P x) → (xs : List A) → every test xs ≡ true → Each P xs
each-by P test f [] e = tt
each-by P test f (x ∷ xs) e =
    let (a, b) = (and-eq-true_iff (test x) (every test xs)).0 e in
    (f x a, each-by P test f xs b)

-- and back
pub each-every : {A : Type 0} (P : A → Type 0) (test : A → Bool) → ((x : A) → P x → test x ≡ true) → (xs : List A) → Each P xs → every test xs ≡ true
each-every P test f [] h = refl
each-every P test f (x ∷ xs) h = rw (f x h.0) (each-every P test f xs h.1)

-- as the library finds it
pub all_every : {A : Type 0} (test : A → Bool) (xs : List A) → list_all test xs ≡ every test xs
all_every test [] = refl
all_every test (x ∷ xs) = rw (all_every test xs)

-- no entry passes a test exactly when each has what failing it gives
pub none-some : {A : Type 0} (P : A → Type 0) (test : A → Bool) → ((x : A) → (test x ≡ false) ↔ P x) → (xs : List A) → (some test xs ≡ false) ↔ Each P xs
unfolding some
none-some P test f [] = ((λ e. tt), (λ h. refl))
none-some P test f (x ∷ xs) = (
  λ e.
      let (a, b) = neither (test x) (some test xs) e in
      ((f x).0 a, (none-some P test f xs).0 b),
  λ h. rw ((f x).1 h.0) ((none-some P test f xs).1 h.1),
)

-- tests one after another: the first, or one of those of a list
abbrev pub one_of : {A : Type 0} → (A → Bool) → Bool → List A → Bool
one_of test b [] = b
one_of test b (x ∷ xs) = one_of test (b || test x) xs

pub one-some : {A : Type 0} (test : A → Bool) (b : Bool) (xs : List A) → (b || some test xs) ≡ one_of test b xs
unfolding some
one-some test true [] = refl
one-some test false [] = refl
one-some test true (x ∷ xs) = one-some test true xs
one-some test false (x ∷ xs) = one-some test (test x) xs

-- what follows for one entry follows for each
pub each_so : {A : Type 0} (P Q : A → Type 0) → ((x : A) → P x → Q x) → (xs : List A) → Each P xs → Each Q xs
each_so P Q f [] h = tt
each_so P Q f (x ∷ xs) h = (f x h.0, each_so P Q f xs h.1)

pub each_append : {A : Type 0} (P : A → Type 0) (xs ys : List A) → Each P xs → Each P ys → Each P (xs ++ ys)
each_append P [] ys g h = h
each_append P (x ∷ xs) ys g h = (g.0, each_append P xs ys g.1 h)

pub each_map : {A B : Type 0} (P : B → Type 0) (f : A → B) (xs : List A) → Each (λ x. P (f x)) xs → Each P (map f xs)
each_map P f [] h = tt
each_map P f (x ∷ xs) h = (h.0, each_map P f xs h.1)

-- and back
pub each-parts : {A : Type 0} (P : A → Type 0) (xs ys : List A) → Each P (xs ++ ys) → Each P xs × Each P ys
each-parts P [] ys h = (tt, h)
each-parts P (x ∷ xs) ys h =
    let (first, second) = each-parts P xs ys h.1 in
    ((h.0, first), second)

pub each_back : {A B : Type 0} (P : B → Type 0) (f : A → B) (xs : List A) → Each P (map f xs) → Each (λ x. P (f x)) xs
each_back P f [] h = tt
each_back P f (x ∷ xs) h = (h.0, each_back P f xs h.1)

-- what holds of every entry holds of the one at a place, and back
module _ {A : Type 0} (P : A → Type 0) (d : A) where
  pub each_at : (xs : List A) → Each P xs → (i : ℕ) → i < length xs → P (get_or xs i d)
  each_at [] h i m = absurd (omega arith)
  each_at (x ∷ xs) h zero m = h.0
  each_at (x ∷ xs) h (suc i) m = each_at xs h.1 i (omega arith)

  pub at_each : (xs : List A) → ((i : ℕ) → i < length xs → P (get_or xs i d)) → Each P xs
  at_each [] h = tt
  at_each (x ∷ xs) h = (h 0 (omega arith), at_each xs (λ i m. h (suc i) (omega arith)))

  -- and of what is read at any place, where it holds of what is read where nothing stands
  pub each_read : P d → (xs : List A) → Each P xs → (i : ℕ) → P (get_or xs i d)
  each_read p [] h i = p
  each_read p (x ∷ xs) h zero = h.0
  each_read p (x ∷ xs) h (suc i) = each_read p xs h.1 i

-- a bound on a list of numbers
pub bounded : (m : ℕ) (l : List ℕ) → every (λ x. leb x m) l ≡ true → (i : ℕ) → get_or l i 0 ≤ m
bounded m l e i = each_read (◌≤ m) 0 (omega arith) l (each-by (◌≤ m) (λ x. leb x m) (λ x. leb-true x m) l e) i

-- two lists of numbers that pass the test are one, and one list passes it
pub same_true : (xs ys : List ℕ) → same xs ys ≡ true → xs ≡ ys
unfolding same
same_true [] [] e = refl
same_true [] (y ∷ ys) e = absurd (false≢true e)
same_true (x ∷ xs) [] e = absurd (false≢true e)
same_true (x ∷ xs) (y ∷ ys) e =
    let (a, b) = (and-eq-true_iff (eqb x y) (same xs ys)).0 e in
    λ i. eqb-true x y a i ∷ same_true xs ys b i

pub same_refl : (xs : List ℕ) → same xs xs ≡ true
unfolding same
same_refl [] = refl
same_refl (x ∷ xs) = rw (eq-eqb x x refl) (same_refl xs)

pub eq_same : (xs ys : List ℕ) → xs ≡ ys → same xs ys ≡ true
eq_same xs ys e = rw e (same_refl ys)

pub ne_same : (xs ys : List ℕ) → (xs ≡ ys → ⊥) → same xs ys ≡ false
ne_same xs ys n = either_way (same xs ys) (λ e. absurd (n (same_true xs ys e))) (λ e. e)

pub same_false : (xs ys : List ℕ) → same xs ys ≡ false → xs ≡ ys → ⊥
same_false xs ys e s = false≢true (sym e ∙ eq_same xs ys s)

-- two lists of numbers are one, or not
pub one-or-not : {P : Type 0} (xs ys : List ℕ) → (xs ≡ ys → P) → ((xs ≡ ys → ⊥) → P) → P
one-or-not xs ys p q = either_way (same xs ys) (λ e. p (same_true xs ys e)) (λ e. q (same_false xs ys e))
