-- Numerals that are computed from the definitions: one that is written, those that are taken and those that are refused. Assumes nothing.
use mathlib.Core.Path.{◌≡◌, refl}
use mathlib.Core.List.{[], ◌∷◌, map}
use Rattle.lists.specs.Choice.{same}
use Rattle.numerals.specs.Numerals.{lead, digits, value_from, numeral_of}
use Rattle.std.specs.Prelude.{Some, None}

pub written : digits 3285000000 ≡ 51 ∷ 50 ∷ 56 ∷ 53 ∷ 48 ∷ 48 ∷ 48 ∷ 48 ∷ 48 ∷ 48 ∷ []
unfolding digits lead
written = refl

-- `0`, and 999999999999
pub read : map (numeral_of 12) ((48 ∷ []) ∷ (57 ∷ 57 ∷ 57 ∷ 57 ∷ 57 ∷ 57 ∷ 57 ∷ 57 ∷ 57 ∷ 57 ∷ 57 ∷ 57 ∷ []) ∷ []) ≡ Some 0 ∷ Some 999999999999 ∷ []
unfolding same digits lead value_from numeral_of
read = refl

-- the empty text, `00`, `007`, `+1`, and 13 digits
pub refused : map (numeral_of 12) ([] ∷ (48 ∷ 48 ∷ []) ∷ (48 ∷ 48 ∷ 55 ∷ []) ∷ (43 ∷ 49 ∷ []) ∷ (49 ∷ 48 ∷ 48 ∷ 48 ∷ 48 ∷ 48 ∷ 48 ∷ 48 ∷ 48 ∷ 48 ∷ 48 ∷ 48 ∷ 48 ∷ []) ∷ [])
    ≡ None ∷ None ∷ None ∷ None ∷ None ∷ []
unfolding same digits lead value_from numeral_of
refused = refl
