-- The texts of a table, by place. Assumes nothing.
use mathlib.Core.Path.{◌≡◌, refl, sym, ◌∙◌}
use mathlib.Core.Bool.{true, false, false≢true}
use mathlib.Core.List.{List, []}
use Prim.Native.Nat.{ℕ, zero, suc, ◌+◌, ◌-◌, ◌*◌, ◌≤◌, ◌<◌}
use native.Mathlib.Nat.{zero-mul}
use native.Mathlib.Omega.{arith}
use lib.ListN.{length, get_or, take, drop}
use lib.Seq.{drop-drop}
use Rattle.codes.specs.Codes.{place_of, cells}
use Rattle.std.specs.Prelude.{Option, Some, None, MatchOption}
use Rattle.std.specs.Str.{bytes_eq}
use Rattle.std.proofs.lemmas.Slice.Eq.{bytes_eq-Decides}
use Rattle.codes.proofs.Places.{place-first, place_absent}

pub length-cells : (width count : ℕ) (table : List ℕ) → length (cells width count table) ≡ count
unfolding cells
length-cells width zero table = refl
length-cells width (suc count) table = omega (arith, length-cells width count (drop width table))

pub get_or-cells : (width count : ℕ) (table : List ℕ) (k : ℕ) → k < count → get_or (cells width count table) k [] ≡ take width (drop (k * width) table)
unfolding cells
get_or-cells width zero table k h = absurd (omega arith)
get_or-cells width (suc count) table zero h = rw (zero-mul width)
get_or-cells width (suc count) table (suc k) h =
    let next : suc k * width ≡ width + k * width = omega arith in
    rw (next, ← drop-drop (k * width) width table) (get_or-cells width count (drop width table) k (omega arith))

module _ (text table : List ℕ) (width : ℕ) where
  -- the text at place n of the table is this one, or another
  abbrev pub Here : ℕ → Type 0
  Here n = text ≡ take width (drop (n * width) table)

  abbrev pub Other : ℕ → Type 0
  Other n = Here n → ⊥

  abbrev cell : ℕ → List ℕ
  cell n = take ((n + 1) * width - n * width) (drop (n * width) table)

  cell-here : (n : ℕ) → cell n ≡ take width (drop (n * width) table)
  cell-here n =
      let long : (n + 1) * width - n * width ≡ width = omega arith in
      rw long

  -- as `==` finds it
  pub test_here : (n : ℕ) → true ≡ bytes_eq text (cell n) → Here n
  test_here n e = (bytes_eq-Decides text (cell n)).0 (sym e) ∙ cell-here n

  pub test_other : (n : ℕ) → false ≡ bytes_eq text (cell n) → Other n
  test_other n e h = false≢true (e ∙ (bytes_eq-Decides text (cell n)).1 (h ∙ sym (cell-here n)))

  -- the first place whose text it is, or none, is its place
  pub place_found : (count : ℕ) (found : Option ℕ)
      → MatchOption found ((k : ℕ) → 0 ≤ k → k < count → Other k) (λ n. (0 ≤ n) × (n < count) × Here n × ((k : ℕ) → 0 ≤ k → k < n → Other k))
      → found ≡ place_of text (cells width count table)
  place_found count None h =
      sym (place_absent text (cells width count table) (λ k l e.
      let inside : k < count = omega (arith, length-cells width count table) in
      h k (omega arith) inside (e ∙ get_or-cells width count table k inside)))
  place_found count (Some n) (_, l, here, before) =
      sym (place-first text (cells width count table) n (record {
        named = record { inside = omega (arith, length-cells width count table); here = here ∙ sym (get_or-cells width count table n l) };
        before = λ k m e. before k (omega arith) m (e ∙ get_or-cells width count table k (omega arith));
      }))
