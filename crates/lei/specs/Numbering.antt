-- Document 02 d), "by first appearance": the place of an LEI among those known, and those known after it. Assumes nothing.
use mathlib.Core.{Bool.Bool, Bool.cond, Bool.◌&&◌, List.List, List.[], List.◌∷◌, List.◌++◌}
use Rattle.std.specs.Prelude.{ℕ, suc, Option, Some, None}
use lib.{Dec.ltb, Dec.eqb, ListN.length}
use Rattle.lei.specs.declared.Lei.{Lei}

-- two LEIs are one
unfoldable pub same_lei : Lei → Lei → Bool
same_lei x y = eqb x.high y.high && eqb x.low y.low

-- the first place of an LEI in a list, or the list's length where it is not there
unfoldable pub first_place : Lei → List Lei → ℕ
first_place x [] = 0
first_place x (y ∷ ys) = cond (same_lei x y) 0 (suc (first_place x ys))

-- that place, where it is there
unfoldable pub place_among : List Lei → Lei → Option ℕ
place_among known x = cond (ltb (first_place x known) (length known)) (Some (first_place x known)) None

-- the LEIs known after one more: one that is not known yet joins at the end
unfoldable pub enter : List Lei → Lei → List Lei
enter known x = cond (ltb (first_place x known) (length known)) known (known ++ (x ∷ []))
