-- LEIs that are computed from the definitions: some that are in use, and texts that are refused. Assumes nothing.
use mathlib.Core.Path.{◌≡◌, refl}
use mathlib.Core.List.{List, [], ◌∷◌, map}
use Prim.Native.String.{String}
use lib.ListN.{replicate}
use Rattle.lists.specs.Choice.{within}
use Rattle.lists.specs.Tables.{ascii}
use Rattle.lei.specs.Lei.{is_digit, is_capital, is_character, in_form, value_of, digits_of, number, remainder, half_of, make_lei, lei_of, judged_of, character_of, characters, lei_text}
use Rattle.std.specs.Prelude.{Result, Ok, Err, ⊤}
use Rattle.lei.specs.declared.NotLei.{NotLei}
use Rattle.lei.specs.declared.NotLei.TheVariants.{Form as WrongForm, Remainder as WrongRemainder}

abbrev judged : List String → List (Result ⊤ NotLei)
judged texts = map (λ t. judged_of (ascii t)) texts

pub in_use : judged ("5493001KJTIIGC8Y1R12" ∷ "213800WSGIIZCXF1P572" ∷ "7LTWFZYICNSX8D621K86" ∷ "HWUPKR0MPOU8FGXBT394" ∷ "5493006MHB84DD0ZWV18" ∷ []) ≡ replicate 5 (Ok tt)
unfolding is_digit is_capital is_character within in_form value_of digits_of number remainder judged_of
in_use = refl

-- check digits 00, 01 and 99 are good with remainder 1
pub odd_digits : judged ("AAAAAAAAAAAAAAA07500" ∷ "AAAAAAAAAAAAAAA01001" ∷ "AAAAAAAAAAAAAAA00Z99" ∷ []) ≡ replicate 3 (Ok tt)
unfolding is_digit is_capital is_character within in_form value_of digits_of number remainder judged_of
odd_digits = refl

-- another check digit, and check digits in another order
pub other-remainder : judged ("5493001KJTIIGC8Y1R13" ∷ "5493001KJTIIGC8Y1R21" ∷ []) ≡ replicate 2 (Err WrongRemainder)
unfolding is_digit is_capital is_character within in_form value_of digits_of number remainder judged_of
other-remainder = refl

-- a byte too few, one too many, a small letter, a letter among the check digits, a space, none
pub other-form : judged ("5493001KJTIIGC8Y1R1" ∷ "5493001KJTIIGC8Y1R120" ∷ "5493001kJTIIGC8Y1R12" ∷ "5493001KJTIIGC8Y1R1C" ∷ "5493001 JTIIGC8Y1R12" ∷ "" ∷ []) ≡ replicate 6 (Err WrongForm)
unfolding is_digit is_capital is_character within in_form value_of digits_of number remainder judged_of
other-form = refl

-- a digit for a capital may pass: here `7` for `K`
pub other-kind : judged ("54930017JTIIGC8Y1R12" ∷ []) ≡ Ok tt ∷ []
unfolding is_digit is_capital is_character within in_form value_of digits_of number remainder judged_of
other-kind = refl

-- the two numbers of a text, and the text of two numbers
pub taken : lei_of (ascii "5493001KJTIIGC8Y1R12") ≡ make_lei 519796030869065 1880139687297302
unfolding is_digit is_capital within value_of number half_of lei_of
taken = refl

pub written : lei_text (make_lei 519796030869065 1880139687297302) ≡ ascii "5493001KJTIIGC8Y1R12"
unfolding character_of characters lei_text
written = refl
