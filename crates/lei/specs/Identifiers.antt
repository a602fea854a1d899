-- THE PAGE OF LEIS: what ISO 17442, ISO 7064 and document 02 d) say of them, over the definitions beside it; proofs/Identifiers.antt proves it.
-- Assumes nothing.
use mathlib.Core.{Path.◌≡◌, Logic.◌↔◌, Logic.◌≢◌, Bool.true, List.List, List.[], List.◌∷◌, List.◌++◌}
use Rattle.std.specs.Prelude.{ℕ, ◌+◌, ◌*◌, ◌/◌, ◌%◌, ◌^◌, ◌<◌, length, Ok, Err}
use Rattle.lei.specs.Lei.{Form, IsLei, is_character, is_capital, digits_of, number, remainder, remainder_from, make_lei, no_lei, lei_of, lei_text, judged_of}
use Rattle.lei.specs.declared.NotLei.TheVariants.{Form as WrongForm, Remainder as WrongRemainder}

-- ISO 7064 MOD 97-10
pub record CheckDigits : Type 0 where
  -- a digit is itself, and `A` to `Z` are the numbers 10 to 35 in two digits
  pub digit : (k : ℕ) → k < 10 → digits_of ((48 + k) ∷ []) ≡ k ∷ []
  pub capital : (k : ℕ) → k < 26 → digits_of ((65 + k) ∷ []) ≡ ((10 + k) / 10) ∷ ((10 + k) % 10) ∷ []
  -- one text behind another has its digits behind the other's
  pub join : (t u : List ℕ) → digits_of (t ++ u) ≡ digits_of t ++ digits_of u
  -- the remainder is what 97 leaves of the number that the digits write
  pub by_97 : (t : List ℕ) → (number 10 (digits_of t) ≡ 97 * (number 10 (digits_of t) / 97) + remainder t) × (remainder t < 97)
  -- Horner's rule gives the remainder
  pub horner : (t : List ℕ) → remainder_from 0 t ≡ remainder t
  -- a digit for another digit, or a capital for another capital, changes the remainder
  pub damage : (t u : List ℕ) (c d : ℕ) → is_character c ≡ true → is_character d ≡ true → is_capital c ≡ is_capital d → c ≢ d
      → remainder (t ++ c ∷ u) ≢ remainder (t ++ d ∷ u)

-- what a text is judged to be: an LEI, or the first of two refusals
pub record Judging (t : List ℕ) : Type 0 where
  pub lei : (judged_of t ≡ Ok tt) ↔ IsLei t
  pub wrong_form : (judged_of t ≡ Err WrongForm) ↔ (Form t → ⊥)
  pub wrong_remainder : (judged_of t ≡ Err WrongRemainder) ↔ (Form t × (remainder t ≢ 1))

-- an LEI as two numbers: they write its text, so that two texts in form are one exactly when their numbers are; a text that is too short or too long has none
pub record TwoNumbers : Type 0 where
  pub none : (t : List ℕ) → length t ≢ 20 → lei_of t ≡ no_lei
  pub back : (t : List ℕ) → Form t → lei_text (lei_of t) ≡ t
  pub equal : (t u : List ℕ) → Form t → Form u → (lei_of t ≡ lei_of u) ↔ (t ≡ u)
  pub small : (t : List ℕ) → Form t → ((lei_of t).high < 36 ^ 10) × ((lei_of t).low < 36 ^ 10)
  pub again : (high low : ℕ) → high < 36 ^ 10 → low < 36 ^ 10 → lei_of (lei_text (make_lei high low)) ≡ make_lei high low

-- the page
pub record Identifiers : Type 0 where
  pub check_digits : CheckDigits
  pub judging : (t : List ℕ) → Judging t
  pub two-numbers : TwoNumbers
