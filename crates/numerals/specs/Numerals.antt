-- Document 01, "numerals are decimal without sign or leading zero, zero is `0`": the numeral of a number, and the number of a numeral. Assumes nothing.
use mathlib.Core.{Path.◌≡◌, Bool.cond, Bool.◌&&◌, List.List, List.[], List.◌∷◌, List.◌++◌}
use Rattle.std.specs.Prelude.{ℕ, zero, suc, ◌+◌, ◌-◌, ◌*◌, ◌/◌, ◌%◌, Option, Some, None}
use lib.{Dec.leb, ListN.length}
use Rattle.lists.specs.{Choice.same, Tables.overwrite}

-- the digits of x as bytes, none for 0; k is a number that is not below x
unfoldable pub lead : ℕ → ℕ → List ℕ
lead zero x = []
lead (suc k) zero = []
lead (suc k) (suc x) = lead k (suc x / 10) ++ ((48 + suc x % 10) ∷ [])

-- the numeral of x: its last digit is always there, after those of the tenth part
unfoldable pub digits : ℕ → List ℕ
digits x = lead x (x / 10) ++ ((48 + x % 10) ∷ [])

-- x with the digits of a text after it
unfoldable pub value_from : ℕ → List ℕ → ℕ
value_from x [] = x
value_from x (c ∷ text) = value_from (10 * x + (c - 48)) text

-- the number that the text is the numeral of, in 1 to `most` digits
unfoldable pub numeral_of : ℕ → List ℕ → Option ℕ
numeral_of most text = cond (leb (length text) most && same text (digits (value_from 0 text))) (Some (value_from 0 text)) None

-- the numeral of x stands in a list from a place on, and the next place is after it
pub record Put (x at next : ℕ) (old now : List ℕ) : Type 0 where
  pub ends : next ≡ at + length (digits x)
  pub bytes : now ≡ overwrite at (digits x) old
