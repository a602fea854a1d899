-- Laws of a list that is written into another from a place on. Assumes nothing.
use mathlib.Core.Path.{◌≡◌, refl, ◌∙◌}
use mathlib.Core.List.{List, [], ◌∷◌, ◌++◌, append_assoc}
use Prim.Native.Nat.{ℕ, ◌+◌, ◌≤◌, ◌<◌}
use native.Mathlib.Numerals.{add-one}
use native.Mathlib.Omega.{arith}
use lib.ListN.{length, take, drop, set, length-append, length-drop, take-append-drop}
use lib.Seq.{take_at, drop_at, drop-drop, length-take-le, set_split}
use Rattle.lists.specs.Tables.{list_to, front, overwrite}
use Rattle.lists.proofs.Tables.{length_to}

module _ {A : Type 0} where
  pub overwrite-front : (xs old : List A) → overwrite 0 xs old ≡ front xs old
  unfolding overwrite
  overwrite-front xs old = refl

  -- nothing written
  pub overwrite-none : (at : ℕ) (old : List A) → overwrite at [] old ≡ old
  unfolding overwrite front
  overwrite-none at old = take-append-drop at old

  -- one entry written
  pub overwrite-one : (at : ℕ) (x : A) (old : List A) → at < length old → set old at x ≡ overwrite at (x ∷ []) old
  unfolding overwrite front
  overwrite-one at x old h = set_split old at x h ∙ rw (drop-drop 1 at old, add-one at)

  -- what stood before, what was written, and what stood after it
  overwrite-parts : (at : ℕ) (xs old : List A) → overwrite at xs old ≡ (take at old ++ xs) ++ drop (at + length xs) old
  unfolding overwrite front
  overwrite-parts at xs old = rw (append_assoc, drop-drop (length xs) at old)

  before : (at : ℕ) (xs old : List A) → at ≤ length old → length (take at old ++ xs) ≡ at + length xs
  before at xs old h = length-append (take at old) xs ∙ rw (length-take-le at old h)

  -- one list written after another
  pub overwrite-overwrite : (at : ℕ) (xs ys old : List A) → at ≤ length old → overwrite (at + length xs) ys (overwrite at xs old) ≡ overwrite at (xs ++ ys) old
  overwrite-overwrite at xs ys old h =
      let n = at + length xs in
      let kept = take at old ++ xs in
      let rest = drop n old in
      let long = before at xs old h in
      let more : at + length (xs ++ ys) ≡ n + length ys = omega (arith, length-append xs ys) in
      rw (overwrite-parts at xs old, overwrite-parts n ys (kept ++ rest), ← drop-drop (length ys) n (kept ++ rest))
      (rw (take_at kept rest n long, drop_at kept rest n long, drop-drop (length ys) n old)
      (rw (overwrite-parts at (xs ++ ys) old, more, ← append_assoc (take at old) xs ys)))

  pub length-overwrite : (at : ℕ) (xs old : List A) → at + length xs ≤ length old → length (overwrite at xs old) ≡ length old
  length-overwrite at xs old h =
      rw (overwrite-parts at xs old) (length-append (take at old ++ xs) (drop (at + length xs) old) ∙ omega (arith, before at xs old (omega arith), length-drop (at + length xs) old))

  -- the first n entries of f stand at the front of a list, and one more is written
  pub front-more : (n : ℕ) (f : ℕ → A) (x : A) (so_far old : List A) → n < length old → x ≡ f n → so_far ≡ front (list_to n f) old
      → set so_far n x ≡ front (list_to (n + 1) f) old
  unfolding overwrite list_to
  front-more n f x so_far old h e g =
      let all : n < length (front (list_to n f) old) = omega (arith, length-overwrite 0 (list_to n f) old (omega (arith, length_to n f))) in
      let at : 0 + length (list_to n f) ≡ n = omega (arith, length_to n f) in
      rw (g, e, add-one) (overwrite-one n (f n) (front (list_to n f) old) all ∙ rw at at (overwrite-overwrite 0 (list_to n f) (f n ∷ []) old (omega arith)))
