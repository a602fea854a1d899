-- The letters of a record, the sorts and the values after each, and the numbers of the refusals. Assumes nothing.
use mathlib.Core.Path.{◌≡◌, refl, ◌∙◌}
use mathlib.Core.List.{List, [], ◌∷◌, ◌++◌}
use Prim.Native.Nat.{ℕ, zero, suc, ◌+◌, ◌-◌, ◌≤◌, ◌<◌}
use native.Mathlib.Omega.{arith}
use lib.Dec.{ltb, eqb}
use lib.ListN.{length, get_or, replicate, length-append, length-replicate}
use borrow.Author.Tests.{ltb-true}
use Rattle.lists.proofs.Entries.{each-by, each_read}
use Rattle.lists.proofs.Tests.{by-test}
use Rattle.rfc4180.specs.Reading.{field_count, Read, formed, broken}
use Rattle.codes.specs.Codes.{place_from, place_of}
use Rattle.lists.specs.Choice.{same}
use mathlib.Core.Bool.{cond, and-true, and-false}
use Rattle.std.proofs.lemmas.Bool.Decides.{nat_tests}
use Rattle.codes.proofs.Places.{place-exactly}
use Rattle.numerals.specs.Numerals.{numeral_of}
use Rattle.dates.specs.Text.{read_date}
use Rattle.lei.specs.Lei.{judged_of}
use Rattle.lei.specs.declared.NotLei.{NotLei, TheVariants.Form, TheVariants.Remainder}
use Rattle.refusals.specs.Refusals.{number_of}
use Rattle.refusals.specs.declared.Refusal.{Refusal}
use Rattle.std.specs.Prelude.{Option, Some, None, Result, Ok, Err, ⊤}
use Rattle.layout.specs.Layout.{accounts, sides, kinds, issuers, currencies, ratings, valued, by_issuer, value_of, padded, layouts, letters, sorts_by}
use Rattle.layout.specs.Layout.{Values, values, wrong, and_value, values_of, Meaning, good, refused, issuer_in, rating_in, misrated, lei_numbers, meant, after_letter, parsed_of, parse}
use Rattle.layout.specs.declared.Sort.{Sort}
use Rattle.layout.specs.declared.Sort.TheVariants.{Account, Side, Kind, Issuer, Currency, Rating, Date, Six, Twelve, Empty}

module _ {A : Type 0} (x : A) where
  -- what pads a list is what is read past its end
  pub padded-read : (xs : List A) (j : ℕ) → get_or (padded x xs) j x ≡ get_or xs j x
  padded-read xs j = from xs j (field_count - suc (length xs))
    where
      from : (xs : List A) (j n : ℕ) → get_or (xs ++ replicate n x) j x ≡ get_or xs j x
      from [] j zero = refl
      from [] zero (suc n) = refl
      from [] (suc j) (suc n) = from [] j n
      from (y ∷ ys) zero n = refl
      from (y ∷ ys) (suc j) n = from ys j n

  pub length-padded : (xs : List A) → length xs < field_count → length (padded x xs) ≡ field_count - 1
  length-padded xs h =
      length-append xs (replicate (field_count - suc (length xs)) x) ∙ omega (arith, length-replicate (field_count - suc (length xs)) x)

-- the sorts that are listed of a letter
abbrev pub listed : ℕ → List Sort
listed k = (get_or layouts k ([], [])).1

-- one sort for each field after the letter
pub length_sorts : (k : ℕ) → length (sorts_by k) ≡ field_count - 1
length_sorts k =
    length-padded Empty (listed k)
    (each_read Fits ([], []) (omega arith) layouts (each-by Fits (λ l. ltb (length l.1) field_count) (λ l e. ltb-true (length l.1) field_count e) layouts refl) k)
  where
    Fits : List ℕ × List Sort → Type 0
    Fits l = length l.1 < field_count

-- a known letter is one of them
pub letter-known : (text : List ℕ) (k : ℕ) → place_of text letters ≡ Some k → k < length letters
letter-known text k e = ((place-exactly text letters k).0 e).named.inside

-- a letter by its byte
module _ (text : List ℕ) where
  abbrev pub byte : ℕ
  byte = get_or text 0 0

  pub one_byte : length text ≡ 1 → place_of text letters ≡ cond (eqb byte 68) (Some 0) (cond (eqb byte 72) (Some 1) (cond (eqb byte 80) (Some 2) None))
  unfolding place_of place_from same
  one_byte h = by text h
    where
      by : (t : List ℕ) → length t ≡ 1 → place_of t letters ≡ cond (eqb (get_or t 0 0) 68) (Some 0) (cond (eqb (get_or t 0 0) 72) (Some 1) (cond (eqb (get_or t 0 0) 80) (Some 2) None))
      by [] h = absurd (omega arith)
      by (c ∷ []) h = simp and-true
      by (c ∷ d ∷ t) h = absurd (omega arith)

  pub other_bytes : (length text ≡ 1 → ⊥) → place_of text letters ≡ None
  unfolding place_of place_from same
  other_bytes n = by text n
    where
      by : (t : List ℕ) → (length t ≡ 1 → ⊥) → place_of t letters ≡ None
      by [] n = refl
      by (c ∷ []) n = absurd (n refl)
      by (c ∷ d ∷ t) n = simp and-false

pub ruleset by_byte = (one_byte, other_bytes, nat_tests)

-- a field is refused with 21 or more
abbrev pub Late : Result ℕ Refusal → Type 0
Late (Ok v) = Unit {0}
Late (Err refusal) = 21 ≤ number_of refusal

valued_late : (o : Option ℕ) → Late (valued o)
valued_late (Some n) = tt
valued_late None = omega arith

issuer_late : (o : Option ℕ) (j : Result ⊤ NotLei) → Late (by_issuer o j)
issuer_late (Some n) j = tt
issuer_late None (Ok _) = tt
issuer_late None (Err Form) = omega arith
issuer_late None (Err Remainder) = omega arith

pub value_late : (s : Sort) (t : List ℕ) → Late (value_of s t)
unfolding value_of
value_late Account t = valued_late (place_of t accounts)
value_late Side t = valued_late (place_of t sides)
value_late Kind t = valued_late (place_of t kinds)
value_late Issuer t = issuer_late (place_of t issuers) (judged_of t)
value_late Currency t = valued_late (place_of t currencies)
value_late Rating t = valued_late (place_of t ratings)
value_late Date t = valued_late (read_date t)
value_late Six t = valued_late (numeral_of 6 t)
value_late Twelve t = valued_late (numeral_of 12 t)
value_late Empty t = by-test Late (eqb (length t) 0) (λ _. tt) (λ _. omega arith)

-- of good values there is one for each sort, and wrong ones are refused with 21 or more
abbrev pub Sized : ℕ → Values → Type 0
Sized n (values vs) = length vs ≡ n
Sized n (wrong number) = 21 ≤ number

and-sized : (v : Result ℕ Refusal) (n : ℕ) (vs : Values) → Late v → Sized n vs → Sized (suc n) (and_value v vs)
and-sized (Ok v) n (values vs) l h = omega (arith, h)
and-sized (Ok v) n (wrong number) l h = h
and-sized (Err first) n (values vs) l h = l
and-sized (Err first) n (wrong number) l h = omega (arith, l, h)

pub values-sized : (ss : List Sort) (ts : List (List ℕ)) → Sized (length ss) (values_of ss ts)
unfolding values_of
values-sized [] [] = refl
values-sized [] (t ∷ ts) = omega arith
values-sized (s ∷ ss) [] = omega arith
values-sized (s ∷ ss) (t ∷ ts) = and-sized (value_of s t) (length ss) (values_of ss ts) (value_late s t) (values-sized ss ts)

-- a good record has a known letter, a value for each field after it, and two for the LEI; a refusal is 19 or more
abbrev Known : Meaning → Type 0
Known (good k vs) = (k < length letters) × (length vs ≡ field_count + 1)
Known (refused number) = 19 ≤ number

meant-known : (k : ℕ) (texts : List (List ℕ)) (vs : Values) → k < length letters → Sized (field_count - 1) vs → Known (meant k texts vs)
meant-known k texts (values vs) h l =
    by-test Known (misrated k (issuer_in vs) (rating_in vs)) (λ _. omega arith) (λ _. (h, omega (arith, l, length-append vs (lei_numbers (get_or texts 2 [])))))
meant-known k texts (wrong number) h l = omega (arith, l)

after-known : (p : Option ℕ) (texts : List (List ℕ)) → ((k : ℕ) → p ≡ Some k → k < length letters) → Known (after_letter p texts)
after-known (Some k) texts h = meant-known k texts (values_of (sorts_by k) texts) (h k refl) (rw (length_sorts k) at (values-sized (sorts_by k) texts))
after-known None texts h = omega arith

parsed_known : (texts : List (List ℕ)) → Known (parsed_of texts)
unfolding parsed_of
parsed_known [] = omega arith
parsed_known (letter ∷ texts) = after-known (place_of letter letters) texts (letter-known letter)

parse-known : (r : Read) → Known (parse r)
unfolding parse
parse-known broken = omega arith
parse-known (formed texts) = by-test Known (eqb (length texts) field_count) (λ e. parsed_known texts) (λ e. omega arith)

module _ (r : Read) where
  module _ {k : ℕ} {vs : List ℕ} (e : parse r ≡ good k vs) where
    pub parse-good : k < length letters
    parse-good = (rw e at (parse-known r)).0

    pub good_length : length vs ≡ field_count + 1
    good_length = (rw e at (parse-known r)).1

  pub parse-refused : {number : ℕ} → parse r ≡ refused number → 19 ≤ number
  parse-refused e = rw e at (parse-known r)
