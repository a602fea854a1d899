-- Document 01, "The file", and document 02 a), b), d) and e): the layout of a record, parsed, and the refusals 19 to 21 and 25. Assumes nothing.
use mathlib.Core.{Path.◌≡◌, Logic.◌≢◌, Logic.◌⊎◌, Bool.cond, Bool.Bool, Bool.not, Bool.◌&&◌, List.List, List.[], List.◌∷◌, List.◌++◌, List.map}
use Rattle.std.specs.Prelude.{ℕ, ◌≤◌, ◌<◌, suc, ◌-◌, min, Option, Some, None, Result, Ok, Err, ⊤}
use lib.{Dec.eqb, Dec.leb, Dec.ltb, ListN.length, ListN.get_or, ListN.replicate}
use Rattle.lists.specs.Tables.{ascii}
use Rattle.numerals.specs.Numerals.{digits, numeral_of}
use Rattle.dates.specs.Text.{date_text, read_date}
use Rattle.codes.specs.Codes.{place_of, Named}
use Rattle.lei.specs.Lei.{IsLei, lei_of, judged_of}
use Rattle.lei.specs.declared.NotLei.{NotLei, TheVariants.Form, TheVariants.Remainder}
use Rattle.refusals.specs.Refusals.{number_of}
use Rattle.refusals.specs.declared.Refusal.{Refusal, TheVariants.Field, TheVariants.Rating as OtherRating}
use Rattle.layout.specs.declared.Letter.{Letter, TheVariants.Valuation, TheVariants.Holding, TheVariants.Line}
use Rattle.layout.specs.declared.Sort.{Sort, TheVariants.Account, TheVariants.Side, TheVariants.Kind, TheVariants.Issuer, TheVariants.Currency, TheVariants.Rating, TheVariants.Date}
use Rattle.layout.specs.declared.Sort.TheVariants.{Six, Twelve, Empty}
use Rattle.layout.specs.declared.{Entry.Entry, Record.Record}
use Rattle.rfc4180.specs.declared.Span.{Span}
use Rattle.rfc4180.specs.Reading.{part, texts_in, Split, fields, malformed, record_at, field_count, Read, formed, broken}

-- the account's letter `P` or `C`; side `L` or `S`; kind `B` `C` `R`; issuer `CA`, a province code, `US` or `GB`, in the order of the issuers' numbers; currency `CAD`, `USD` or `GBP`;
-- rating `Y`, `N` or none
abbrev pub accounts : List (List ℕ)
accounts = map ascii ("P" ∷ "C" ∷ [])

abbrev pub sides : List (List ℕ)
sides = map ascii ("L" ∷ "S" ∷ [])

abbrev pub kinds : List (List ℕ)
kinds = map ascii ("B" ∷ "C" ∷ "R" ∷ [])

abbrev pub issuers : List (List ℕ)
issuers = map ascii ("CA" ∷ "AB" ∷ "BC" ∷ "MB" ∷ "NB" ∷ "NL" ∷ "NS" ∷ "ON" ∷ "PE" ∷ "QC" ∷ "SK" ∷ "US" ∷ "GB" ∷ [])

abbrev pub currencies : List (List ℕ)
currencies = map ascii ("CAD" ∷ "USD" ∷ "GBP" ∷ [])

abbrev pub ratings : List (List ℕ)
ratings = map ascii ("Y" ∷ "N" ∷ "" ∷ [])

-- the value of an issuer that is an LEI: a corporation, before the file's corporations are numbered
abbrev pub corporation : ℕ
corporation = 100

-- the numeral of v, in at most so many digits
abbrev pub Numbered : ℕ → List ℕ → ℕ → Type 0
Numbered most t v = (t ≡ digits v) × (length t ≤ most)

-- a text is a value of its sort: "value and amount have 1 to 12 digits, others 1 to 6"; a date is "as YYYY-MM-DD", real or not
abbrev pub IsValue : Sort → List ℕ → ℕ → Type 0
IsValue Account t v = Named t accounts v
IsValue Side t v = Named t sides v
IsValue Kind t v = Named t kinds v
IsValue Issuer t v = Named t issuers v ⊎ (IsLei t × (v ≡ corporation))
IsValue Currency t v = Named t currencies v
IsValue Rating t v = Named t ratings v
IsValue Date t v = (t ≡ date_text v) × (v < 100000000)
IsValue Six t v = Numbered 6 t v
IsValue Twelve t v = Numbered 12 t v
IsValue Empty t v = (t ≡ []) × (v ≡ 0)

-- texts are values of their sorts, one each
pub data AreValues : List Sort → List (List ℕ) → List ℕ → Type 0 where
  no_values : AreValues [] [] []
  value_and : {s : Sort} {t : List ℕ} {v : ℕ} {ss : List Sort} {ts : List (List ℕ)} {vs : List ℕ} → IsValue s t v → AreValues ss ts vs → AreValues (s ∷ ss) (t ∷ ts) (v ∷ vs)

-- a place among named texts is a value, and so is a numeral's number, and the number of a date
abbrev pub valued : Option ℕ → Result ℕ Refusal
valued (Some n) = Ok n
valued None = Err Field

-- and so is an issuer: one of the codes, or else an LEI; a text in the form of one that has another remainder is refused with 25
abbrev pub by_issuer : Option ℕ → Result ⊤ NotLei → Result ℕ Refusal
by_issuer (Some n) judged = Ok n
by_issuer None (Ok _) = Ok corporation
by_issuer None (Err Form) = Err Field
by_issuer None (Err Remainder) = Err OtherRating

-- the value that a text is of its sort, or its refusal
unfoldable pub value_of : Sort → List ℕ → Result ℕ Refusal
value_of Account t = valued (place_of t accounts)
value_of Side t = valued (place_of t sides)
value_of Kind t = valued (place_of t kinds)
value_of Issuer t = by_issuer (place_of t issuers) (judged_of t)
value_of Currency t = valued (place_of t currencies)
value_of Rating t = valued (place_of t ratings)
value_of Date t = valued (read_date t)
value_of Six t = valued (numeral_of 6 t)
value_of Twelve t = valued (numeral_of 12 t)
value_of Empty t = cond (eqb (length t) 0) (Ok 0) (Err Field)

-- one for each field of a record after its letter: those given, and x for the rest
abbrev pub padded : {A : Type 0} → A → List A → List A
padded x xs = xs ++ replicate (field_count - suc (length xs)) x

-- the letters, each with what follows it: `D`, valuation date, the account's letter; `H`, side, kind, issuer, maturity, value, price, currency, rating; `P`, long, short, amount;
-- further fields are empty
abbrev pub layouts : List (List ℕ × List Sort)
layouts =
    (ascii "D", Date ∷ Account ∷ [])
    ∷ (ascii "H", Side ∷ Kind ∷ Issuer ∷ Date ∷ Twelve ∷ Six ∷ Currency ∷ Rating ∷ [])
    ∷ (ascii "P", Six ∷ Six ∷ Twelve ∷ [])
    ∷ []

-- the letters by number, and the sorts of the fields after each
abbrev pub letters : List (List ℕ)
letters = map (λ l. l.0) layouts

-- the number of a letter, its place among them
abbrev pub place_by : Letter → ℕ
place_by Valuation = 0
place_by Holding = 1
place_by Line = 2

abbrev pub sorts_by : ℕ → List Sort
sorts_by k = padded Empty (get_or layouts k ([], [])).1

-- what may follow what, by letter: D comes first, and then no other D and nothing of an earlier letter, all H before all P
abbrev pub may_follow : Option ℕ → ℕ → Bool
may_follow None letter = eqb letter 0
may_follow (Some before) letter = ltb 0 letter && leb before letter

-- the issuer and the rating among the values of an H
abbrev pub issuer_in : List ℕ → ℕ
issuer_in vs = get_or vs 2 0

abbrev pub rating_in : List ℕ → ℕ
rating_in vs = get_or vs 7 0

-- a corporation is rated, and a government is not
pub record Rated (issuer rating : ℕ) : Type 0 where
  pub given : issuer ≡ corporation → rating < 2
  pub none : issuer ≢ corporation → rating ≡ 2

-- a good record of the letter of number k, with the values after it
abbrev pub IsRecord : ℕ → List (List ℕ) → List ℕ → Type 0
IsRecord k [] vs = ⊥
IsRecord k (letter ∷ texts) vs = Named letter letters k × AreValues (sorts_by k) texts (padded 0 vs) × (k ≡ 1 → Rated (issuer_in vs) (rating_in vs))

-- the values of texts, one of each sort, or the refusal of the record
pub data Values : Type 0 where
  values : List ℕ → Values
  wrong : ℕ → Values

-- of two refusals the lesser comes first, wherever they stand: 21 before 25
abbrev pub and_value : Result ℕ Refusal → Values → Values
and_value (Ok v) (values vs) = values (v ∷ vs)
and_value (Ok v) (wrong number) = wrong number
and_value (Err first) (values vs) = wrong (number_of first)
and_value (Err first) (wrong number) = wrong (min (number_of first) number)

unfoldable pub values_of : List Sort → List (List ℕ) → Values
values_of [] [] = values []
values_of [] (t ∷ ts) = wrong 21
values_of (s ∷ ss) [] = wrong 21
values_of (s ∷ ss) (t ∷ ts) = and_value (value_of s t) (values_of ss ts)

-- what a record means: its letter by number with the values after it, or its refusal
pub data Meaning : Type 0 where
  good : ℕ → List ℕ → Meaning
  refused : ℕ → Meaning

-- an H whose rating is missing on a corporation, or given on a government
unfoldable pub misrated : ℕ → ℕ → ℕ → Bool
misrated letter issuer rating = eqb letter 1 && cond (eqb issuer corporation) (leb 2 rating) (not (eqb rating 2))

-- the LEI that a text is, as two numbers; 0 and 0 of one that has not its length
abbrev pub lei_numbers : List ℕ → List ℕ
lei_numbers t = (lei_of t).high ∷ (lei_of t).low ∷ []

-- good values are those of the fields, and then the LEI of the issuer, the third field after the letter
abbrev pub meant : ℕ → List (List ℕ) → Values → Meaning
meant k texts (values vs) = cond (misrated k (issuer_in vs) (rating_in vs)) (refused 25) (good k (vs ++ lei_numbers (get_or texts 2 [])))
meant k texts (wrong number) = refused number

abbrev pub after_letter : Option ℕ → List (List ℕ) → Meaning
after_letter (Some k) texts = meant k texts (values_of (sorts_by k) texts)
after_letter None texts = refused 21

-- of as many fields as a record has: 21 a field isn't a value of its sort, one that must be empty is filled, or the first is no known letter; then 25 an
-- issuer in the form of an LEI has another remainder, or an H is misrated
unfoldable pub parsed_of : List (List ℕ) → Meaning
parsed_of [] = refused 21
parsed_of (letter ∷ texts) = after_letter (place_of letter letters) texts

-- of a record: 19 outside the grammar, 20 not nine fields, then 21 and 25
unfoldable pub parse : Read → Meaning
parse broken = refused 19
parse (formed texts) = cond (eqb (length texts) field_count) (parsed_of texts) (refused 20)

-- the record at a place, and where the next one starts
abbrev pub read_of : List ℕ → Split → Read
read_of text (fields ss next) = formed (map (part text) ss)
read_of text malformed = broken

abbrev pub next_of : Split → ℕ
next_of (fields ss next) = next
next_of malformed = 0

-- of two refusals the first, where 0 is none
unfoldable pub sooner : ℕ → ℕ → ℕ
sooner found number = cond (eqb found 0) number (min found number)

-- values that are in a list, with 0 for no refusal; what it holds where one is wrong is free
abbrev pub Found : Values → List ℕ → ℕ → Type 0
Found (values vs) found refusal = (refusal ≡ 0) × (found ≡ vs)
Found (wrong number) found refusal = refusal ≡ number

-- the values of a record's fields, and behind them the LEI of its issuer, as two numbers
abbrev pub all_values : Record → List ℕ
all_values r = r.fields ++ (r.lei.high ∷ r.lei.low ∷ [])

-- what a record is parsed as means: good, with the values in the lent record, or the refusal's number
abbrev pub meaning_of : Result Letter Refusal → List ℕ → Meaning
meaning_of (Ok letter) vs = good (place_by letter) vs
meaning_of (Err refusal) vs = refused (number_of refusal)

-- a record of so many fields, by their places, parsed, its values in the lent record; what that holds of a refused one is free
abbrev pub Parses : List ℕ → ℕ → List Span → List ℕ → Result Letter Refusal → Type 0
Parses text count spans vs r = meaning_of r vs ≡ cond (eqb count field_count) (parsed_of (texts_in text count spans)) (refused 20)

-- the record at a place, parsed, its values in the lent record, and where the next one starts
pub record EntryAt (text : List ℕ) (at : ℕ) (vs : List ℕ) (r : Entry) : Type 0 where
  pub means : meaning_of r.parsed vs ≡ parse (read_of text (record_at text at))
  pub next : r.next ≡ next_of (record_at text at)
