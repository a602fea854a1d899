-- A change of a list: an entry put, entries moved up, or none. Assumes nothing.
use mathlib.Core.Path.{◌≡◌, sym, ap, ◌∙◌}
use mathlib.Core.List.{List, ◌++◌, append_assoc}
use Prim.Native.Nat.{ℕ, suc, ◌+◌, ◌-◌, ◌≤◌, ◌<◌}
use native.Mathlib.Omega.{arith}
use lib.ListN.{length, take, drop, length-append, length-drop}
use lib.Seq.{length-take-le, take-take, drop-drop}
use Rattle.std.specs.List.{copy_within}
use Rattle.std.proofs.lemmas.List.{drop-take}
use Rattle.lists.specs.Tables.{front, overwrite}
use Rattle.booking.specs.Seeing.{moved_up, changed, Fits}
use Rattle.booking.specs.declared.Change.{TheVariants.Stay, TheVariants.Put, TheVariants.CloseUp}

module _ {A : Type 0} where
  -- after a refusal
  pub unchanged : (entry : ℕ → A) (xs : List A) → changed Stay entry xs ≡ xs
  unfolding changed
  unchanged entry xs = λ i. xs

  -- entries copied within their list are written over it
  pub copied : (from end at : ℕ) (xs : List A) → from ≤ end → end ≤ length xs → copy_within xs from end at ≡ overwrite at (take (end - from) (drop from xs)) xs
  unfolding overwrite front
  copied from end at xs within high =
      let part = take (end - from) (drop from xs) in
      let long : length part ≡ end - from = length-take-le (end - from) (drop from xs) (omega (arith, length-drop from xs)) in
      append_assoc (take at xs) part (drop (at + (end - from)) xs)
      ∙ ap (λ (l : List A). take at xs ++ (part ++ l)) (ap (λ (m : ℕ). drop (at + m) xs) (sym long) ∙ sym (drop-drop (length part) at xs))

  -- so are entries that move up
  pub moved_within : (first end : ℕ) (xs : List A) → first ≤ end → end ≤ length xs → copy_within xs first end (first - 1) ≡ moved_up first end xs
  unfolding moved_up
  moved_within first end xs within high = copied first end (first - 1) xs within high

  module _ (xs : List A) where
    -- entries after a place move up: the list without it, and the entry behind the new end as it was
    module _ (rows : List A) (k rest : ℕ) (within : k + 1 + rest ≤ length xs) (e : rows ≡ take (k + 1 + rest) xs) where
      abbrev later : List A
      later = take rest (drop (k + 1) xs)

      later-long : length later ≡ rest
      later-long = length-take-le rest (drop (k + 1) xs) (omega (arith, length-drop (k + 1) xs))

      without : take k rows ++ drop (suc k) rows ≡ take k xs ++ later
      without =
          let next : suc k ≡ k + 1 = omega arith in
          rw e
          (ap (λ (l : List A). l ++ drop (suc k) (take (k + 1 + rest) xs)) (take-take k (k + 1 + rest) xs (omega arith))
          ∙ ap (λ (m : ℕ). take k xs ++ drop m (take (k + 1 + rest) xs)) next
          ∙ ap (λ (l : List A). take k xs ++ l) (drop-take (k + 1) rest xs))

      without-long : length (take k xs ++ later) ≡ k + rest
      without-long = length-append (take k xs) later ∙ omega (arith, length-take-le k xs (omega arith), later-long)

      moved : moved_up (k + 1) (k + 1 + rest) xs ≡ front (take k rows ++ drop (suc k) rows) xs
      unfolding moved_up front overwrite
      moved =
          let before : k + 1 - 1 ≡ k = omega arith in
          let left : k + 1 + rest - (k + 1) ≡ rest = omega arith in
          ap (λ (m : ℕ). take m xs ++ (take (k + 1 + rest - (k + 1)) (drop (k + 1) xs) ++ drop (length (take (k + 1 + rest - (k + 1)) (drop (k + 1) xs))) (drop m xs))) before
          ∙ ap (λ (m : ℕ). take k xs ++ (take m (drop (k + 1) xs) ++ drop (length (take m (drop (k + 1) xs))) (drop k xs))) left
          ∙ ap (λ (m : ℕ). take k xs ++ (later ++ drop m (drop k xs))) later-long
          ∙ ap (λ (l : List A). take k xs ++ (later ++ l)) (drop-drop rest k xs)
          ∙ sym (append_assoc (take k xs) later (drop (k + rest) xs))
          ∙ ap (λ (m : ℕ). take k xs ++ later ++ drop m xs) (sym without-long)
          ∙ ap (λ (l : List A). l ++ drop (length l) xs) (sym without)

      pub closes_up : (entry : ℕ → A) → changed (CloseUp (k + 1) (k + 1 + rest)) entry xs ≡ front (take k rows ++ drop (suc k) rows) xs
      unfolding changed
      closes_up entry = moved

-- what a list has room for
pub fits_none : {room : ℕ} → Fits room Stay
fits_none = record {
  put = λ at value e. absurd (cc);
  from = λ first end e. absurd (cc);
  moves = λ first end e. absurd (cc);
  until = λ first end e. absurd (cc);
}

pub fits_put : {room at value : ℕ} → at < room → Fits room (Put at value)
fits_put {room} {at} {value} h = record {
  put = λ x y e. let same : at ≡ x = cc in rw (← same) h;
  from = λ first end e. absurd (cc);
  moves = λ first end e. absurd (cc);
  until = λ first end e. absurd (cc);
}

pub fits_close : {room first end : ℕ} → 1 ≤ first → first ≤ end → end ≤ room → Fits room (CloseUp first end)
fits_close {room} {first} {end} low within high = record {
  put = λ at value e. absurd (cc);
  from = λ x y e. let same : first ≡ x = cc in omega (arith, same);
  moves = λ x y e. let same : first ≡ x = cc in let last : end ≡ y = cc in omega (arith, same, last);
  until = λ x y e. let last : end ≡ y = cc in omega (arith, last);
}
