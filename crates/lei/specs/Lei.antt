-- ISO 17442, an LEI: 18 capitals or digits, then 2 digits, with remainder 1 by ISO 7064 MOD 97-10; and an LEI as two numbers. Assumes nothing.
use mathlib.Core.{Path.◌≡◌, Logic.◌⊎◌, Bool.Bool, Bool.cond, Bool.◌&&◌, Bool.◌||◌, List.List, List.[], List.◌∷◌, List.◌++◌, List.map}
use Rattle.std.specs.Prelude.{ℕ, zero, suc, ◌+◌, ◌-◌, ◌*◌, ◌/◌, ◌%◌, ◌^◌, ◌≤◌, Result, Ok, Err, ⊤}
use lib.{Dec.ltb, Dec.eqb, ListN.length, ListN.take, ListN.drop}
use Rattle.lists.specs.{Choice.within, Choice.every, Tables.Each}
use Rattle.lei.specs.declared.{Lei.Lei, NotLei.NotLei, NotLei.TheVariants.Form as WrongForm, NotLei.TheVariants.Remainder as WrongRemainder}

-- `0` to `9`, and `A` to `Z`
abbrev pub Digit : ℕ → Type 0
Digit c = (48 ≤ c) × (c ≤ 57)

abbrev pub Capital : ℕ → Type 0
Capital c = (65 ≤ c) × (c ≤ 90)

-- the form: 20 bytes, 18 capitals or digits and then 2 digits
pub record Form (t : List ℕ) : Type 0 where
  pub long : length t ≡ 20
  pub first : Each (λ c. Capital c ⊎ Digit c) (take 18 t)
  pub last : Each Digit (drop 18 t)

-- the same as tests: a digit, a capital, either
unfoldable pub is_digit : ℕ → Bool
is_digit c = within 48 57 c

unfoldable pub is_capital : ℕ → Bool
is_capital c = within 65 90 c

unfoldable pub is_character : ℕ → Bool
is_character c = is_capital c || is_digit c

-- the form, as a test
unfoldable pub in_form : List ℕ → Bool
in_form t = eqb (length t) 20 && (every is_character (take 18 t) && every is_digit (drop 18 t))

-- the number of a character: `0` to `9` are 0 to 9, `A` to `Z` are 10 to 35
unfoldable pub value_of : ℕ → ℕ
value_of c = cond (is_capital c) (c - 55) (c - 48)

-- the digits that a text stands for: a digit itself, a capital the two digits of its number
unfoldable pub digits_of : List ℕ → List ℕ
digits_of [] = []
digits_of (c ∷ t) = cond (is_capital c) ((value_of c / 10) ∷ (value_of c % 10) ∷ []) (value_of c ∷ []) ++ digits_of t

-- the number that digits write to a base, the highest first
unfoldable pub number : ℕ → List ℕ → ℕ
number base [] = 0
number base (d ∷ ds) = d * base ^ length ds + number base ds

-- the remainder by 97 of the number that a text's digits write
unfoldable pub remainder : List ℕ → ℕ
remainder t = number 10 (digits_of t) % 97

-- the same by Horner's rule: r is the remainder so far, and a character puts one digit or two behind it
unfoldable pub remainder_next : ℕ → ℕ → ℕ
remainder_next r c = (cond (is_capital c) 100 10 * r + value_of c) % 97

unfoldable pub remainder_from : ℕ → List ℕ → ℕ
remainder_from r [] = r
remainder_from r (c ∷ t) = remainder_from (remainder_next r c) t

-- an LEI: a text in form with remainder 1
pub record IsLei (t : List ℕ) : Type 0 where
  pub form : Form t
  pub remains : remainder t ≡ 1

-- up to ten characters as a number to the base 36
unfoldable pub half_of : List ℕ → ℕ
half_of t = number 36 (map value_of t)

-- an LEI by its two numbers
abbrev pub make_lei : ℕ → ℕ → Lei
make_lei high low = record { high = high; low = low }

-- what stands for no LEI
abbrev pub no_lei : Lei
no_lei = make_lei 0 0

-- of a text of 20 bytes the numbers of its first ten characters and of its last ten, of any other text none
unfoldable pub lei_of : List ℕ → Lei
lei_of t = cond (eqb (length t) 20) (make_lei (half_of (take 10 t)) (half_of (drop 10 t))) no_lei

-- what a text is judged to be: its form comes before its remainder
unfoldable pub judged_of : List ℕ → Result ⊤ NotLei
judged_of t = cond (in_form t) (cond (eqb (remainder t) 1) (Ok tt) (Err WrongRemainder)) (Err WrongForm)

-- the character of a number: 0 to 9 are `0` to `9`, 10 to 35 are `A` to `Z`
unfoldable pub character_of : ℕ → ℕ
character_of v = cond (ltb v 10) (48 + v) (55 + v)

-- the k lowest digits of a number to the base 36, as characters, the highest first
unfoldable pub characters : ℕ → ℕ → List ℕ
characters zero v = []
characters (suc k) v = characters k (v / 36) ++ (character_of (v % 36) ∷ [])

-- the text of an LEI
unfoldable pub lei_text : Lei → List ℕ
lei_text x = characters 10 x.high ++ characters 10 x.low
