-- Document 02 b), "both as YYYY-MM-DD": the text of a number of eight digits, real date or not, and the number of a text. Assumes nothing.
use mathlib.Core.{Path.◌≡◌, Bool.cond, Bool.◌&&◌, List.List, List.[], List.◌∷◌, List.◌++◌}
use Rattle.std.specs.Prelude.{ℕ, zero, suc, ◌+◌, ◌-◌, ◌*◌, ◌/◌, ◌%◌, ◌≤◌, length, get_or, take, drop, Option, Some, None}
use Rattle.lists.specs.{Choice.same, Choice.within, Tables.Each}
use Rattle.numerals.specs.Numerals.{value_from}
use Rattle.dates.specs.Calendar.{year, month, day, dated}

-- the last k digits of a number, as bytes
unfoldable pub digits_of : ℕ → ℕ → List ℕ
digits_of zero x = []
digits_of (suc k) x = digits_of k (x / 10) ++ (48 + x % 10) ∷ []

-- four digits, a hyphen, two, a hyphen, two
unfoldable pub date_text : ℕ → List ℕ
date_text n = digits_of 4 (year n) ++ 45 ∷ digits_of 2 (month n) ++ 45 ∷ digits_of 2 (day n)

-- the number of a text: what stands before, between and behind its hyphens
unfoldable pub text_number : List ℕ → ℕ
text_number text = dated (value_from 0 (take 4 text)) (value_from 0 (take 2 (drop 5 text))) (value_from 0 (take 2 (drop 8 text)))

-- the number that the text is the text of
unfoldable pub read_date : List ℕ → Option ℕ
read_date text = cond (same text (date_text (text_number text))) (Some (text_number text)) None

-- a text of that form: ten bytes, digits and hyphens at their places
pub record Form (text : List ℕ) : Type 0 where
  pub ten : length text ≡ 10
  pub digits : Each (λ i. (48 ≤ get_or text i 0) × (get_or text i 0 ≤ 57)) (0 ∷ 1 ∷ 2 ∷ 3 ∷ 5 ∷ 6 ∷ 8 ∷ 9 ∷ [])
  pub hyphens : Each (λ i. get_or text i 0 ≡ 45) (4 ∷ 7 ∷ [])

-- the number of two digits at a place, where two digits stand there
unfoldable pub two_at : List ℕ → ℕ → Option ℕ
two_at text i =
    let a = get_or text i 0 in
    let b = get_or text (i + 1) 0 in
    cond (within 48 57 a && within 48 57 b) (Some (10 * (a - 48) + (b - 48))) None
