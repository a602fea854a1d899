-- Places that are computed from the definitions, in a table of the letters `B` `C` `R`. Assumes nothing.
use mathlib.Core.Path.{◌≡◌, refl}
use mathlib.Core.Bool.{true}
use mathlib.Core.List.{List, [], ◌∷◌, map}
use Prim.Native.Nat.{ℕ}
use Rattle.lists.specs.Choice.{same}
use Rattle.codes.specs.Codes.{place_from, place_of, cells}
use Rattle.std.specs.Prelude.{Some, None}
use Rattle.codes.proofs.Places.{distinct}

abbrev letters : List (List ℕ)
letters = cells 1 3 (66 ∷ 67 ∷ 82 ∷ [])

pub different : distinct letters ≡ true
unfolding same cells
different = refl

-- `R`, `D`, `BC`, and the empty text
pub places : map (λ text. place_of text letters) ((82 ∷ []) ∷ (68 ∷ []) ∷ (66 ∷ 67 ∷ []) ∷ [] ∷ []) ≡ Some 2 ∷ None ∷ None ∷ None ∷ []
unfolding same cells place_of place_from
places = refl
