-- What the first of a list of refusals says of all of them. Assumes nothing.
use mathlib.Core.Path.{◌≡◌, refl, sym, ◌∙◌}
use mathlib.Core.Bool.{Bool, true, false}
use mathlib.Core.List.{List, [], ◌∷◌, ◌++◌}
use Prim.Native.Nat.{ℕ, zero, suc, ◌+◌, ◌≤◌, ◌<◌}
use native.Mathlib.Nat.{eq-or-lt_of_le}
use native.Mathlib.Omega.{arith}
use mathlib.Core.Logic.{⊎_elim}
use Rattle.lists.specs.Choice.{first_of}
use Rattle.lists.specs.Tables.{Each, turns, in_turn}
use Rattle.lists.proofs.Entries.{each_append}

-- what holds of each entry of lists in turn holds of each entry of them all
module _ {A : Type 0} (P : A → Type 0) (f : ℕ → List A) where
  each-turns : (i k : ℕ) → ((m : ℕ) → i ≤ m → m < i + k → Each P (f m)) → Each P (turns i k f)
  unfolding turns
  each-turns i zero h = tt
  each-turns i (suc k) h =
      each_append P (f i) (turns (suc i) k f) (h i (omega arith) (omega arith)) (each-turns (suc i) k (λ m a b. h m (omega arith) (omega arith)))

  pub each-in_turn : (n : ℕ) → ((k : ℕ) → k < n → Each P (f k)) → Each P (in_turn n f)
  unfolding in_turn
  each-in_turn n h = each-turns 0 n (λ m a b. h m (omega arith))

-- no test of the list holds
abbrev pub None : {A : Type 0} → List (Bool × A) → Type 0
None {A} fs = Each (λ (f : Bool × A). f.0 ≡ false) fs

module _ {A : Type 0} where
  pub first-append : (xs ys : List (Bool × A)) (z : A) → first_of (xs ++ ys) z ≡ first_of xs (first_of ys z)
  unfolding first_of
  first-append [] ys z = refl
  first-append ((true, a) ∷ xs) ys z = refl
  first-append ((false, a) ∷ xs) ys z = first-append xs ys z

  -- the first test holds, or it does not and those after it decide
  pub first-here : {t : Bool} (a : A) (xs : List (Bool × A)) (z : A) → t ≡ true → a ≡ first_of ((t, a) ∷ xs) z
  unfolding first_of
  first-here a xs z e = rw e

  pub first_next : {t : Bool} {b : A} (a : A) (xs : List (Bool × A)) (z : A) → t ≡ false → b ≡ first_of xs z → b ≡ first_of ((t, a) ∷ xs) z
  unfolding first_of
  first_next a xs z e f = rw e f

  -- where none holds, what follows decides
  pub first_of-none : (xs : List (Bool × A)) (z : A) → None xs → first_of xs z ≡ z
  unfolding first_of
  first_of-none [] z h = refl
  first_of-none (x ∷ xs) z h = rw h.0 (first_of-none xs z h.1)

  pub none-append : (xs ys : List (Bool × A)) → None xs → None ys → None (xs ++ ys)
  none-append xs ys g h = each_append (λ (f : Bool × A). f.0 ≡ false) xs ys g h

  pub append-none : (xs ys : List (Bool × A)) → None (xs ++ ys) → None xs × None ys
  append-none [] ys h = (tt, h)
  append-none (x ∷ xs) ys h =
      let (a, b) = append-none xs ys h.1 in
      ((h.0, a), b)

  pub skip_none : (xs ys : List (Bool × A)) (z : A) → None xs → first_of (xs ++ ys) z ≡ first_of ys z
  skip_none xs ys z h = first-append xs ys z ∙ first_of-none xs (first_of ys z) h

  -- lists in turn
  module _ (f : ℕ → List (Bool × A)) where
    pub turns-none : (i k : ℕ) → None (turns i k f) → (m : ℕ) → i ≤ m → m < i + k → None (f m)
    unfolding turns
    turns-none i zero h m a b = absurd (omega arith)
    turns-none i (suc k) h m a b =
        let (here, later) = append-none (f i) (turns (suc i) k f) h in
        ⊎_elim
        (λ e. rw (← e) here)
        (λ l. turns-none (suc i) k later m l (omega arith))
        (eq-or-lt_of_le a)

    pub none-in_turn : (n : ℕ) → ((k : ℕ) → k < n → None (f k)) → None (in_turn n f)
    none-in_turn n h = each-in_turn (λ (x : Bool × A). x.0 ≡ false) f n h

    pub in_turn-none : (n : ℕ) → None (in_turn n f) → (k : ℕ) → k < n → None (f k)
    unfolding in_turn
    in_turn-none n h k q = turns-none 0 n h k (omega arith) (omega arith)

    -- none before i, and at i the answer a
    pub first-turns : (j k i : ℕ) (a z : A) → j ≤ i → i < j + k → ((m : ℕ) → j ≤ m → m < i → None (f m)) → ((w : A) → first_of (f i) w ≡ a) → first_of (turns j k f) z ≡ a
    unfolding turns
    first-turns j zero i a z p q h e = absurd (omega arith)
    first-turns j (suc k) i a z p q h e =
        ⊎_elim
        (λ (s : j ≡ i). first-append (f j) (turns (suc j) k f) z ∙ rw s (e (first_of (turns (suc i) k f) z)))
        (λ (l : j < i). skip_none (f j) (turns (suc j) k f) z (h j (omega arith) l) ∙ first-turns (suc j) k i a z l (omega arith) (λ m x y. h m (omega arith) y) e)
        (eq-or-lt_of_le p)

    pub first-in_turn : (n i : ℕ) (a z : A) → i < n → ((k : ℕ) → k < i → None (f k)) → ((w : A) → first_of (f i) w ≡ a) → first_of (in_turn n f) z ≡ a
    unfolding in_turn
    first-in_turn n i a z q h e = first-turns 0 n i a z (omega arith) (omega arith) (λ m x y. h m y) e

-- answers that have a number, from 1 for a refusal
module _ {A : Type 0} (number : A → ℕ) where
  abbrev pub Numbered : List (Bool × A) → Type 0
  Numbered fs = Each (λ (f : Bool × A). 1 ≤ number f.1) fs

  pub numbered-append : (xs ys : List (Bool × A)) → Numbered xs → Numbered ys → Numbered (xs ++ ys)
  numbered-append xs ys g h = each_append (λ (f : Bool × A). 1 ≤ number f.1) xs ys g h

  pub numbered-in_turn : (f : ℕ → List (Bool × A)) → ((k : ℕ) → Numbered (f k)) → (n : ℕ) → Numbered (in_turn n f)
  numbered-in_turn f h n = each-in_turn (λ (x : Bool × A). 1 ≤ number x.1) f n (λ k _. h k)

  -- the number 0 is given where none holds
  pub none_first : (fs : List (Bool × A)) (z : A) → Numbered fs → number (first_of fs z) ≡ 0 → None fs × (number z ≡ 0)
  unfolding first_of
  none_first [] z h e = (tt, e)
  none_first ((true, a) ∷ fs) z h e = absurd (omega (arith, h.0, e))
  none_first ((false, a) ∷ fs) z h e =
      let (n, o) = none_first fs z h.1 e in
      ((refl, n), o)

  -- a refusal that was found does not rest on what follows
  pub first-refused : (fs : List (Bool × A)) (z w : A) → number z ≡ 0 → (number (first_of fs z) ≡ 0 → ⊥) → first_of fs w ≡ first_of fs z
  unfolding first_of
  first-refused [] z w e h = absurd (h e)
  first-refused ((true, a) ∷ fs) z w e h = refl
  first-refused ((false, a) ∷ fs) z w e h = first-refused fs z w e h

  -- of two lists in turn: what the first found, or else what the second finds
  pub first_found : (xs ys : List (Bool × A)) (z w : A) → number z ≡ 0 → (number (first_of xs z) ≡ 0 → ⊥) → first_of (xs ++ ys) w ≡ first_of xs z
  first_found xs ys z w e h = first-append xs ys w ∙ first-refused xs z (first_of ys w) e h

  pub first-passed : (xs ys : List (Bool × A)) (z w : A) → Numbered xs → number (first_of xs z) ≡ 0 → first_of (xs ++ ys) w ≡ first_of ys w
  first-passed xs ys z w n e = skip_none xs ys w (none_first xs z n e).0

-- refusals by their numbers alone
abbrev pub Listed : List (Bool × ℕ) → Type 0
Listed fs = Numbered (λ (n : ℕ). n) fs

-- of two lists in turn: the number that the first found, or, where that is 0, the number of the second
pub found_first : (n : ℕ) (xs ys : List (Bool × ℕ)) → n ≡ first_of xs 0 → (n ≡ 0 → ⊥) → n ≡ first_of (xs ++ ys) 0
found_first n xs ys e h = e ∙ sym (first_found (λ (m : ℕ). m) xs ys 0 0 refl (λ z. h (e ∙ z)))

pub found-second : (n m : ℕ) (xs ys : List (Bool × ℕ)) → Listed xs → m ≡ first_of xs 0 → m ≡ 0 → n ≡ first_of ys 0 → n ≡ first_of (xs ++ ys) 0
found-second n m xs ys l e z f = f ∙ sym (first-passed (λ (k : ℕ). k) xs ys 0 0 l (sym e ∙ z))
