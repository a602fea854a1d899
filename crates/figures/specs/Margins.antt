-- The margins of what is left of each holding, over packed legs. Assumes nothing.
use mathlib.Core.{Path.◌≡◌, List.List}
use Rattle.std.specs.Prelude.{ℕ, ◌*◌, ◌≤◌, length}
use Rattle.lists.specs.Tables.{sum_to, list_to, front}
use Rattle.holding.specs.Holding.{value_limit}
use Rattle.proposal.specs.Submission.{margin_limit}
use Rattle.packed.specs.Packed.{leg_at, Legs, AtMost, entry}

-- legs and what is left of n holdings, within the limits, and room for their margins
pub record MarginsLent (n : ℕ) (legs left margins : List ℕ) : Type 0 where
  pub bounded : Legs n legs
  pub left_held : n ≤ length left
  pub left_high : AtMost value_limit n (entry left)
  pub margins_held : n ≤ length margins

-- rate times what is left
unfoldable pub left_margin : List ℕ → List ℕ → ℕ → ℕ
left_margin legs left k = (leg_at legs k).rate * entry left k

-- the margins at the front, all other entries kept, and their sum
pub record Margins (n : ℕ) (legs left before after : List ℕ) (r : ℕ) : Type 0 where
  pub each : after ≡ front (list_to n (left_margin legs left)) before
  pub sum : r ≡ sum_to n (left_margin legs left)
  pub sum_high : r ≤ n * margin_limit
