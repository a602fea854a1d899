-- What is done to a list is done to its entries' images. Assumes nothing.
use mathlib.Core.Path.{◌≡◌, refl, ap, ◌∙◌}
use mathlib.Core.List.{List, [], ◌∷◌, map, map-append}
use Prim.Native.Nat.{ℕ, zero, suc, ◌-◌}
use lib.ListN.{length, take, drop, set, length-map}
use Rattle.lists.specs.Tables.{front, overwrite}
use Rattle.booking.specs.Seeing.{moved_up, changed}
use Rattle.booking.specs.declared.Change.{Change, TheVariants.Stay, TheVariants.Put, TheVariants.CloseUp}

module _ {A B : Type 0} (f : A → B) where
  pub map-take : (n : ℕ) (xs : List A) → map f (take n xs) ≡ take n (map f xs)
  map-take zero xs = refl
  map-take (suc n) [] = refl
  map-take (suc n) (x ∷ xs) = ap (λ (l : List B). f x ∷ l) (map-take n xs)

  pub map-drop : (n : ℕ) (xs : List A) → map f (drop n xs) ≡ drop n (map f xs)
  map-drop zero xs = refl
  map-drop (suc n) [] = refl
  map-drop (suc n) (x ∷ xs) = map-drop n xs

  map-set : (xs : List A) (i : ℕ) (x : A) → map f (set xs i x) ≡ set (map f xs) i (f x)
  map-set [] i x = refl
  map-set (y ∷ ys) zero x = refl
  map-set (y ∷ ys) (suc i) x = ap (λ (l : List B). f y ∷ l) (map-set ys i x)

  pub map-front : (xs old : List A) → map f (front xs old) ≡ front (map f xs) (map f old)
  unfolding front
  map-front xs old = rw (map-append f xs (drop (length xs) old), map-drop (length xs) old, length-map xs f)

  map-overwrite : (at : ℕ) (xs old : List A) → map f (overwrite at xs old) ≡ overwrite at (map f xs) (map f old)
  unfolding overwrite
  map-overwrite at xs old = rw (map-append f (take at old) (front xs (drop at old)), map-take at old, map-front xs (drop at old), map-drop at old)

  pub map-changed : (c : Change) (entry : ℕ → A) (xs : List A) → map f (changed c entry xs) ≡ changed c (λ v. f (entry v)) (map f xs)
  unfolding changed moved_up
  map-changed Stay entry xs = refl
  map-changed (Put at value) entry xs = map-set xs at (entry value)
  map-changed (CloseUp first end) entry xs =
      map-overwrite (first - 1) (take (end - first) (drop first xs)) xs
      ∙ ap (λ (l : List B). overwrite (first - 1) l (map f xs)) (map-take (end - first) (drop first xs) ∙ ap (take (end - first)) (map-drop first xs))
