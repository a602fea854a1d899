-- Laws of a list given by index, and of a list at the front of another. Assumes nothing.
use mathlib.Core.Path.{◌≡◌, refl, sym, ap, ◌∙◌}
use mathlib.Core.List.{List, [], ◌∷◌, ◌++◌, map}
use Prim.Native.Nat.{ℕ, zero, suc, ◌+◌, ◌-◌, ◌≤◌, ◌<◌}
use native.Mathlib.Omega.{arith}
use lib.ListN.{length, get_or, take, drop, length-append, length-drop, get_or-append}
use lib.Seq.{get_or_at, drop_at, take-append-le, take_all, ext_get_or, get_or-drop, get_or-append-add}
use Rattle.lists.specs.Tables.{list_to, front}
use Rattle.lists.proofs.Tests.{by_end, same_or_not}

module _ {A : Type 0} where
  pub length_to : (n : ℕ) (f : ℕ → A) → length (list_to n f) ≡ n
  unfolding list_to
  length_to zero f = refl
  length_to (suc n) f = length-append (list_to n f) (f n ∷ []) ∙ omega (arith, length_to n f)

  pub get_or-to : (n : ℕ) (f : ℕ → A) (k : ℕ) (d : A) → k < n → get_or (list_to n f) k d ≡ f k
  unfolding list_to
  get_or-to zero f k d h = absurd (omega arith)
  get_or-to (suc n) f k d h =
      same_or_not k n
      (λ e. rw e (get_or_at (list_to n f) (f n) [] d n (length_to n f)))
      (λ o. get_or-append (list_to n f) (f n ∷ []) d k (omega (arith, length_to n f)) ∙ get_or-to n f k d (omega arith))

  pub to_eq : (n : ℕ) (f g : ℕ → A) → ((k : ℕ) → k < n → f k ≡ g k) → list_to n f ≡ list_to n g
  unfolding list_to
  to_eq zero f g h = refl
  to_eq (suc n) f g h =
      rw (to_eq n f g (λ k q. h k (omega arith)), h n (omega arith))

  -- a list of n entries is the list of what is read of it
  pub to_back : (n : ℕ) (xs : List A) (d : A) → length xs ≡ n → list_to n (λ k. get_or xs k d) ≡ xs
  to_back n xs d e =
      ext_get_or d (list_to n _) xs (length_to n _ ∙ sym e) (λ k q. get_or-to n (λ k. get_or xs k d) k d (rw (length_to n (λ k. get_or xs k d)) at q))

  pub take-to : (n i : ℕ) (f : ℕ → A) → i ≤ n → take i (list_to n f) ≡ list_to i f
  unfolding list_to
  take-to zero zero f h = refl
  take-to zero (suc i) f h = absurd (omega arith)
  take-to (suc n) i f h =
      same_or_not i (suc n)
      (λ e. rw e (take_all (suc n) (list_to (suc n) f) (omega (arith, length_to (suc n) f))))
      (λ o. take-append-le i (list_to n f) (f n ∷ []) (omega (arith, length_to n f)) ∙ take-to n i f (omega arith))

  pub map-to : {B : Type 0} (g : A → B) (n : ℕ) (f : ℕ → A) → map g (list_to n f) ≡ list_to n (λ k. g (f k))
  unfolding list_to
  map-to g zero f = refl
  map-to g (suc n) f = map_snoc (list_to n f) (f n) ∙ rw (map-to g n f)
    where
      map_snoc : (xs : List A) (x : A) → map g (xs ++ (x ∷ [])) ≡ map g xs ++ (g x ∷ [])
      map_snoc [] x = refl
      map_snoc (y ∷ ys) x = λ i. g y ∷ map_snoc ys x i

-- an entry of a list that was worked out entry by entry
pub get_or-map_in : {A B : Type 0} (f : A → B) (xs : List A) (k : ℕ) (d : A) (e : B) → k < length xs → get_or (map f xs) k e ≡ f (get_or xs k d)
get_or-map_in f [] k d e h = absurd (omega arith)
get_or-map_in f (x ∷ xs) zero d e h = refl
get_or-map_in f (x ∷ xs) (suc k) d e h = get_or-map_in f xs k d e (omega arith)

-- a list at the front of another
module _ (xs old : List ℕ) where
  pub front_at : (k : ℕ) → k < length xs → get_or (front xs old) k 0 ≡ get_or xs k 0
  unfolding front
  front_at k h = get_or-append xs _ 0 k h

  pub front_past : (k : ℕ) → length xs ≤ k → get_or (front xs old) k 0 ≡ get_or old k 0
  unfolding front
  front_past k h =
      let here : k ≡ length xs + (k - length xs) = omega arith in
      ap (λ (j : ℕ). get_or (front xs old) j 0) here
      ∙ get_or-append-add xs (drop (length xs) old) (k - length xs) 0
      ∙ get_or-drop (length xs) old (k - length xs) 0
      ∙ ap (λ (j : ℕ). get_or old j 0) (sym here)

  pub front_long : length xs ≤ length old → length (front xs old) ≡ length old
  unfolding front
  front_long h = length-append xs (drop (length xs) old) ∙ omega (arith, length-drop (length xs) old)

  -- over what was at the front already
  pub front-again : (ys : List ℕ) → length xs ≡ length ys → front xs (front ys old) ≡ front xs old
  unfolding front
  front-again ys e = ap (xs ++◌) (rw e (drop_at ys (drop (length ys) old) (length ys) refl))

-- a list that reads as f below n, and from n on as it did, is f's first n entries at the front of what it was
module _ (n : ℕ) (f : ℕ → ℕ) (xs old : List ℕ) (room : n ≤ length old) where
  pub in_front : length xs ≡ length old → ((k : ℕ) → k < n → get_or xs k 0 ≡ f k) → ((k : ℕ) → n ≤ k → get_or xs k 0 ≡ get_or old k 0)
      → xs ≡ front (list_to n f) old
  in_front e below past =
      let long = length_to n f in
      ext_get_or 0 xs (front (list_to n f) old) (e ∙ sym (front_long (list_to n f) old (omega (arith, long))))
      (λ k _. by_end (λ (j : ℕ). get_or xs j 0 ≡ get_or (front (list_to n f) old) j 0) n
      (λ j h. below j h ∙ sym (front_at (list_to n f) old j (omega (arith, long)) ∙ get_or-to n f j 0 h))
      (λ j h. past j h ∙ sym (front_past (list_to n f) old j (omega (arith, long)))) k)
