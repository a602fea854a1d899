-- Entries by their places: of a list that was written into another, and of one whose entries moved up. Assumes nothing.
use mathlib.Core.Path.{◌≡◌, sym, ap, ◌∙◌}
use mathlib.Core.List.{List, ◌++◌}
use Prim.Native.Nat.{ℕ, ◌+◌, ◌-◌, ◌≤◌, ◌<◌}
use native.Mathlib.Omega.{arith}
use lib.ListN.{length, get_or, take, drop, get_or-append}
use lib.Seq.{get_or-take, get_or-drop, get_or-append-add, length-take-le}
use Rattle.lists.specs.Tables.{front, overwrite}
use Rattle.lists.proofs.Overwrite.{length-overwrite}
use Rattle.booking.specs.Seeing.{moved_up}
use Rattle.records.proofs.Bytes.{length_part}

module _ {A : Type 0} (at : ℕ) (xs old : List A) (room : at ≤ length old) (d : A) where
  kept : length (take at old) ≡ at
  kept = length-take-le at old room

  later : (j : ℕ) → get_or (overwrite at xs old) (at + j) d ≡ get_or (front xs (drop at old)) j d
  unfolding overwrite
  later j = ap (λ (n : ℕ). get_or (take at old ++ front xs (drop at old)) (n + j) d) (sym kept) ∙ get_or-append-add (take at old) (front xs (drop at old)) j d

  -- before what was written, in it, and past it
  pub over-before : (k : ℕ) → k < at → get_or (overwrite at xs old) k d ≡ get_or old k d
  unfolding overwrite
  over-before k h = get_or-append (take at old) (front xs (drop at old)) d k (omega (arith, kept)) ∙ get_or-take at old k d h

  pub over_in : (j : ℕ) → j < length xs → get_or (overwrite at xs old) (at + j) d ≡ get_or xs j d
  unfolding front
  over_in j h = later j ∙ get_or-append xs (drop (length xs) (drop at old)) d j h

  pub over_past : (k : ℕ) → at + length xs ≤ k → get_or (overwrite at xs old) k d ≡ get_or old k d
  unfolding front
  over_past k h =
      let j = k - at - length xs in
      let here : k ≡ at + (length xs + j) = omega arith in
      ap (λ (n : ℕ). get_or (overwrite at xs old) n d) here
      ∙ later (length xs + j)
      ∙ get_or-append-add xs (drop (length xs) (drop at old)) j d
      ∙ get_or-drop (length xs) (drop at old) j d
      ∙ get_or-drop at old (length xs + j) d
      ∙ ap (λ (n : ℕ). get_or old n d) (sym here)

-- entries that moved up, from `first` to before `end`
module _ {A : Type 0} (first end : ℕ) (xs : List A) where
  module _ (from : 1 ≤ first) (some : first ≤ end) (room : end ≤ length xs) (d : A) where
    abbrev part : List A
    part = take (end - first) (drop first xs)

    long : length part ≡ end - first
    long = length_part first (end - first) xs (omega arith)

    pub length_moved : length (moved_up first end xs) ≡ length xs
    unfolding moved_up
    length_moved = length-overwrite (first - 1) part xs (omega (arith, long))

    pub moved_in : (k : ℕ) → first ≤ k + 1 → k + 1 < end → get_or (moved_up first end xs) k d ≡ get_or xs (k + 1) d
    unfolding moved_up
    moved_in k l m =
        let j = k + 1 - first in
        let here : k ≡ (first - 1) + j = omega arith in
        let there : first + j ≡ k + 1 = omega arith in
        ap (λ (n : ℕ). get_or (overwrite (first - 1) part xs) n d) here
        ∙ over_in (first - 1) part xs (omega arith) d j (omega (arith, long))
        ∙ get_or-take (end - first) (drop first xs) j d (omega arith)
        ∙ get_or-drop first xs j d
        ∙ ap (λ (n : ℕ). get_or xs n d) there

    pub moved_before : (k : ℕ) → k + 1 < first → get_or (moved_up first end xs) k d ≡ get_or xs k d
    unfolding moved_up
    moved_before k l = over-before (first - 1) part xs (omega arith) d k (omega arith)

    pub moved_past : (k : ℕ) → end ≤ k + 1 → get_or (moved_up first end xs) k d ≡ get_or xs k d
    unfolding moved_up
    moved_past k l = over_past (first - 1) part xs (omega arith) d k (omega (arith, long))
