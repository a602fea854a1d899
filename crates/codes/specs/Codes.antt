-- A text among named ones, by its place. Assumes nothing.
use mathlib.Core.{Path.◌≡◌, Bool.cond, List.List, List.[], List.◌∷◌}
use Rattle.std.specs.Prelude.{ℕ, zero, suc, ◌<◌, length, get_or, take, drop, Option, Some, None}
use Rattle.lists.specs.Choice.{same}

-- the first place of a text in a list of texts, whose places go from n on
unfoldable pub place_from : ℕ → List ℕ → List (List ℕ) → Option ℕ
place_from n text [] = None
place_from n text (t ∷ ts) = cond (same text t) (Some n) (place_from (suc n) text ts)

-- the first place of a text in a list of texts, from 0
unfoldable pub place_of : List ℕ → List (List ℕ) → Option ℕ
place_of text ts = place_from 0 text ts

-- the texts of a table that holds them one after another, `count` of them, each in `width` bytes
unfoldable pub cells : ℕ → ℕ → List ℕ → List (List ℕ)
cells width zero table = []
cells width (suc count) table = take width table ∷ cells width count (drop width table)

-- the text is that of place n
pub record Named (text : List ℕ) (ts : List (List ℕ)) (n : ℕ) : Type 0 where
  pub inside : n < length ts
  pub here : text ≡ get_or ts n []
