-- A worked case, and the kinds of them: from raw numbers, from lines, from the bytes of a file to the bytes that are printed. A case is a participant's
-- valued on 2025-01-01, or on the date or by the head that is given with it. Assumes nothing.
use mathlib.Core.Path.{◌≡◌}
use mathlib.Core.Bool.{Bool, false, cond, not}
use mathlib.Core.List.{List, [], ◌∷◌, ◌++◌, map, flat_map}
use Prim.Native.Nat.{ℕ, ◌-◌, ◌*◌}
use Prim.Native.String.{String}
use Rattle.std.proofs.Common.{Result, Ok, Err}
use lib.Dec.{eqb}
use lib.ListN.{length, get_or, take, drop, replicate}
use Rattle.lists.specs.Tables.{ascii, front}
use Rattle.lists.specs.Choice.{same, first_of}
use Rattle.words.specs.Words.{decode, encode}
use Rattle.refusals.specs.Refusals.{number_of}
use Rattle.refusals.specs.declared.Refusal.{Refusal}
use Rattle.holding.specs.Holding.{head_fault, account_of, numbers_of, fault_of, holding_of, row_of}
use Rattle.holding.specs.declared.Head.{Head}
use Rattle.holding.specs.declared.Row.{Row}
use Rattle.rates.specs.Rate.{rate_of}
use Rattle.article.specs.Answer.{make_answer}
use Rattle.article.specs.Pair.{leg_of, pair_of}
use Rattle.pairing.specs.declared.Line.{Line}
use Rattle.proposal.specs.Submission.{Submission, book_of, priced, remainder, margin, units_of, remainders_of, ranked, cents_of}
use Rattle.proposal.specs.Outcome.{outcome}
use Rattle.codes.specs.Codes.{place_of}
use Rattle.rfc4180.specs.Grammar.{is_text, is_quotable}
use Rattle.rfc4180.specs.Reading.{formed}
use Rattle.layout.specs.Layout.{valued as placed, value_of, letters, Meaning, good, refused, parse}
use Rattle.layout.specs.declared.Sort.{Sort}
use Rattle.columns.specs.Columns.{Columns, make_columns, submission, column, filled}
use Rattle.lent.specs.Boundary.{make_lent, answered, outcome_of}
use Rattle.lei.specs.Lei as lei
use Rattle.lei.specs.Lei.{make_lei, lei_of, lei_text}
use Rattle.reader.specs.File.{submission_of, submission_in, leis_in, file_fault, at_record}
use Rattle.received.specs.Reading.{reading_answer, filling, heading}
use Rattle.received.specs.Naming.{naming_answer, naming}
use Rattle.report.specs.Report.{answer_numbers}
use Rattle.printing.specs.Printed.{printed}

-- a case: its name, what is computed, and what is stated of it
pub record Case : Type 0 where
  pub name : String
  pub computed : List ℕ
  pub stated : List ℕ

abbrev pub Agrees : Case → Type 0
Agrees c = c.computed ≡ c.stated

-- the names of the cases that do not hold
unfoldable pub failing : List Case → List String
failing [] = []
failing (c ∷ cs) = cond (same c.computed c.stated) (failing cs) (c.name ∷ failing cs)

-- the head with a valuation date and a letter; the date of document 01's cases; a participant's and a client's head with a date, and with that one
abbrev pub head : ℕ → ℕ → Head
head date letter = record { date = date; letter = letter }

abbrev pub new_year : ℕ
new_year = 20250101

abbrev pub participant_head : ℕ → Head
participant_head date = head date 0

abbrev pub client_head : ℕ → Head
client_head date = head date 1

abbrev pub participant : Head
participant = participant_head new_year

abbrev pub client : Head
client = client_head new_year

-- a row by itself under a head: its first fault, or 0 and its rate
unfoldable pub alone : Head → Row → List ℕ
alone h r =
    let a = account_of h in
    cond (eqb (fault_of a r) 0) (0 ∷ rate_of a (holding_of r) ∷ []) (fault_of a r ∷ [])

-- a row as the long and a row as the short: the first fault of either, or 13, or 0 with the pair's rate and the saving rate
unfoldable pub together : Head → Row → Row → List ℕ
together h l s =
    let a = account_of h in
    let found = pair_of (leg_of a (holding_of l)) (leg_of a (holding_of s)) in
    first_of
    ((not (eqb (fault_of a l) 0), fault_of a l ∷ [])
    ∷ (not (eqb (fault_of a s) 0), fault_of a s ∷ [])
    ∷ (not (eqb found.number 0), found.number ∷ [])
    ∷ [])
    (0 ∷ found.first ∷ found.second ∷ [])

-- a book with its prices and lines, and whether 1 and 2 hold of what is lent: the answer, and after an accepted one the remainders and the
-- ranking
unfoldable pub judged : Head → Bool → Bool → List Row → List ℕ → List Line → List ℕ
judged h one two rows prices lines =
    let s : Submission = record { head = h; rows = rows; prices = prices; lines = lines } in
    let a = outcome one two s in
    answer_numbers a ++ cond (eqb a.number 0) (remainders_of (priced s) lines ++ ranked (priced s) lines) []

-- what lines make of a book, accepted or not: units and cents, and of holding 0 the remainder and its units
unfoldable pub worked : List Row → List Line → List ℕ
worked rows lines =
    let b = book_of (account_of participant) rows [] in
    units_of b lines ∷ cents_of (units_of b lines) ∷ remainder b lines 0 ∷ margin b lines 0 ∷ []

-- long, short, amount
abbrev pub line : ℕ → ℕ → ℕ → Line
line long short amount = record { long = long; short = short; amount = amount }

-- a value, or none; and its refusal, or none
abbrev valued : Result ℕ Refusal → List ℕ
valued (Ok n) = n ∷ []
valued (Err refusal) = []

abbrev unfit : Result ℕ Refusal → List ℕ
unfit (Ok n) = []
unfit (Err refusal) = number_of refusal ∷ []

-- 1 for yes, 0 for no
abbrev flag : Bool → ℕ
flag b = cond b 1 0

abbrev pub rate : String → Row → ℕ → Case
rate name r n = record { name = name; computed = alone participant r; stated = 0 ∷ n ∷ [] }

-- the rates of several rows
abbrev pub rates_by : Head → String → List Row → List ℕ → Case
rates_by h name rows expected = record { name = name; computed = flat_map (alone h) rows; stated = flat_map (λ n. 0 ∷ n ∷ []) expected }

abbrev pub rates_on : ℕ → String → List Row → List ℕ → Case
rates_on date = rates_by (participant_head date)

abbrev pub rates : String → List Row → List ℕ → Case
rates = rates_on new_year

abbrev pub fault : String → Row → ℕ → Case
fault name r n = record { name = name; computed = alone participant r; stated = n ∷ [] }

-- the faults of several rows
abbrev pub faults_on : ℕ → String → List Row → List ℕ → Case
faults_on date name rows expected = record { name = name; computed = flat_map (alone (participant_head date)) rows; stated = expected }

abbrev pub faults : String → List Row → List ℕ → Case
faults = faults_on new_year

-- the records of several rows have their numbers
abbrev pub kept : String → List Row → Case
kept name rows = record { name = name; computed = flat_map (λ r. numbers_of (row_of (holding_of r))) rows; stated = flat_map numbers_of rows }

-- the faults of several heads, 0 for none; and of several valuation dates
abbrev pub heads : String → List Head → List ℕ → Case
heads name hs expected = record { name = name; computed = map head_fault hs; stated = expected }

abbrev pub dates : String → List ℕ → List ℕ → Case
dates name ds expected = heads name (map participant_head ds) expected

abbrev pub pair : String → Row → Row → ℕ → ℕ → Case
pair name l s n saving = record { name = name; computed = together participant l s; stated = 0 ∷ n ∷ saving ∷ [] }

abbrev pub no_pair : String → Row → Row → ℕ → Case
no_pair name l s n = record { name = name; computed = together participant l s; stated = n ∷ [] }

-- several pairs of one rate and one saving rate, and several that are not allowed: by themselves, and as a line of no amount and of one above 100 cents
abbrev pub pairs_by : Head → String → List (Row × Row) → ℕ → ℕ → Case
pairs_by h name rows n saving = record {
  name = name;
  computed = flat_map (λ p. together h p.0 p.1) rows;
  stated = flat_map (λ p. 0 ∷ n ∷ saving ∷ []) rows;
}

abbrev pub pairs_on : ℕ → String → List (Row × Row) → ℕ → ℕ → Case
pairs_on date = pairs_by (participant_head date)

abbrev pub pairs : String → List (Row × Row) → ℕ → ℕ → Case
pairs = pairs_on new_year

abbrev pub no_pairs_by : Head → String → List (Row × Row) → Case
no_pairs_by h name rows =
    let lined : Row × Row → ℕ → List ℕ = λ p amount. judged h false false (p.0 ∷ p.1 ∷ []) (0 ∷ 0 ∷ []) (line 0 1 amount ∷ []) in
    record {
      name = name;
      computed = flat_map (λ p. together h p.0 p.1 ++ lined p 0 ++ lined p 101) rows;
      stated = flat_map (λ _. 13 ∷ 13 ∷ 0 ∷ 0 ∷ 13 ∷ 0 ∷ 0 ∷ []) rows;
    }

abbrev pub no_pairs_on : ℕ → String → List (Row × Row) → Case
no_pairs_on date = no_pairs_by (participant_head date)

abbrev pub no_pairs : String → List (Row × Row) → Case
no_pairs = no_pairs_on new_year

abbrev pub proposal_by : Head → String → List Row → List ℕ → List Line → List ℕ → Case
proposal_by h name rows prices lines expected = record { name = name; computed = judged h false false rows prices lines; stated = expected }

-- several proposals, each a book, its prices and its lines
abbrev pub proposals_by : Head → String → List (List Row × List ℕ × List Line) → List ℕ → Case
proposals_by h name ps expected = record { name = name; computed = flat_map (λ p. judged h false false p.0 p.1 p.2) ps; stated = expected }

abbrev pub proposal_on : ℕ → String → List Row → List ℕ → List Line → List ℕ → Case
proposal_on date = proposal_by (participant_head date)

abbrev pub proposal : String → List Row → List ℕ → List Line → List ℕ → Case
proposal = proposal_on new_year

abbrev pub lent_by : Head → String → Bool → Bool → List Row → List Line → List ℕ → Case
lent_by h name one two rows lines expected = record { name = name; computed = judged h one two rows [] lines; stated = expected }

abbrev pub lent_on : ℕ → String → Bool → Bool → List Row → List Line → List ℕ → Case
lent_on date = lent_by (participant_head date)

abbrev pub lent : String → Bool → Bool → List Row → List Line → List ℕ → Case
lent = lent_on new_year

abbrev pub figures : String → List Row → List Line → List ℕ → Case
figures name rows lines expected = record { name = name; computed = worked rows lines; stated = expected }

abbrev pub prints : String → List ℕ → String → Case
prints name text expected = record { name = name; computed = printed text; stated = ascii expected }

-- the refusal of a record among those that are parsed, with its place
abbrev pub record_case : String → List Meaning → ℕ → List ℕ → Case
record_case name parsed n expected = record { name = name; computed = answer_numbers (first_of (at_record parsed n) (make_answer 0 0 0)); stated = expected }

-- the valuation date and the letter of what parsed records submit
abbrev pub submitted : String → List Meaning → ℕ → ℕ → Case
submitted name parsed date letter = record {
  name = name;
  computed = (submission_of parsed).head.date ∷ (submission_of parsed).head.letter ∷ [];
  stated = date ∷ letter ∷ [];
}

-- the numbers of texts of a sort, of records' letters, and whether bytes are TEXTDATA and may stand in quotes as they are
abbrev pub code : String → Sort → List String → List ℕ → Case
code name sort texts expected = record { name = name; computed = flat_map (λ text. valued (value_of sort (ascii text))) texts; stated = expected }

-- the refusals of texts that are no values of a sort
abbrev pub refuses : String → Sort → List String → List ℕ → Case
refuses name sort texts expected = record { name = name; computed = flat_map (λ text. unfit (value_of sort (ascii text))) texts; stated = expected }

-- the remainders of texts by 97; the two numbers of each, and the texts that they write; and the text of two numbers
abbrev pub remainders : String → List String → List ℕ → Case
remainders name texts expected = record { name = name; computed = map (λ text. lei.remainder (ascii text)) texts; stated = expected }

abbrev pub keys : String → List String → List (ℕ × ℕ) → Case
keys name texts expected = record {
  name = name;
  computed = flat_map (λ text. (lei_of (ascii text)).high ∷ (lei_of (ascii text)).low ∷ []) texts;
  stated = flat_map (λ k. k.0 ∷ k.1 ∷ []) expected;
}

abbrev pub writes : String → List (ℕ × ℕ) → List String → Case
writes name numbers texts = record { name = name; computed = flat_map (λ k. lei_text (make_lei k.0 k.1)) numbers; stated = flat_map ascii texts }

-- the issuer and the rating of each holding that parsed records submit, and that a text does; and the LEIs of its corporations
abbrev issuers_in : Submission → List ℕ
issuers_in s = flat_map (λ r. r.issuer ∷ r.rating ∷ []) s.rows

abbrev pub parsed_issuers : String → List Meaning → List ℕ → Case
parsed_issuers name parsed expected = record { name = name; computed = issuers_in (submission_of parsed); stated = expected }

abbrev pub issued : String → List ℕ → List ℕ → List String → Case
issued name text expected texts = record {
  name = name;
  computed = answer_numbers (file_fault text) ++ issuers_in (submission_in text) ++ flat_map lei_text (leis_in text);
  stated = (0 ∷ 0 ∷ 0 ∷ []) ++ expected ++ flat_map ascii texts;
}

-- how many texts there are of each of several lists
abbrev pub lists : String → List (List (List ℕ)) → List ℕ → Case
lists name texts expected = record { name = name; computed = map length texts; stated = expected }

-- the number of a refused record, none of a good one; of records of several fields, and of a letter with so many empty fields after it
abbrev refused_as : Meaning → List ℕ
refused_as (refused n) = n ∷ []
refused_as (good letter vs) = []

-- the number and the values of a good record, and the number of a refused one
abbrev meaning_numbers : Meaning → List ℕ
meaning_numbers (refused n) = n ∷ []
meaning_numbers (good letter vs) = letter ∷ vs

abbrev pub meanings : String → List (List String) → List ℕ → Case
meanings name rs expected = record { name = name; computed = flat_map (λ r. meaning_numbers (parse (formed (map ascii r)))) rs; stated = expected }

abbrev pub records : String → List (List (List ℕ)) → ℕ → Case
records name rs n = record { name = name; computed = flat_map (λ r. refused_as (parse (formed r))) rs; stated = map (λ _. n) rs }

-- the one refusal of an H with each of several issuers, ratings or other fields
abbrev pub holding_records : String → List (List String) → ℕ → Case
holding_records name texts n = records name (map (λ fields. map ascii ("H" ∷ fields)) texts) n

abbrev pub fields : String → List String → List ℕ → ℕ → Case
fields name letters counts n = records name (flat_map (λ text. map (λ more. ascii text ∷ replicate more []) counts) letters) n

abbrev pub letter : String → List String → List ℕ → Case
letter name texts expected = record { name = name; computed = flat_map (λ text. valued (placed (place_of (ascii text) letters))) texts; stated = expected }

abbrev pub byte : String → ℕ → ℕ → List ℕ → Case
byte name text quotable bytes = record {
  name = name;
  computed = flat_map (λ b. flag (is_text b) ∷ flag (is_quotable b) ∷ []) bytes;
  stated = flat_map (λ b. text ∷ quotable ∷ []) bytes;
}

-- the numbers in bytes, and the bytes of numbers
abbrev pub decodes : String → List ℕ → List ℕ → Case
decodes name bytes numbers = record { name = name; computed = decode bytes; stated = numbers }

abbrev pub encodes : String → List ℕ → List ℕ → Case
encodes name numbers bytes = record { name = name; computed = encode numbers; stated = bytes }

abbrev zeros : ℕ → List ℕ
zeros n = replicate n 0

-- columns of so many zero bytes each: seven of holdings, the prices, three of lines
abbrev blank : List ℕ → Columns
blank z = make_columns (map zeros (take 7 z)) (zeros (get_or z 7 0)) (map zeros (take 3 (drop 8 z)))

-- the one number that the check gives to each of several lengths of what a host lends: of eleven columns, the two lists and the answer
abbrev pub lengths_by : Head → String → List (List ℕ) → ℕ → Case
lengths_by h name zs n =
    let found : List ℕ → ℕ = λ z. (outcome_of h (blank z) (make_lent (zeros (get_or z 11 0)) (zeros (get_or z 12 0)) (zeros (get_or z 13 0)))).number in
    record { name = name; computed = map found zs; stated = map (λ _. n) zs }

abbrev pub lengths_on : ℕ → String → List (List ℕ) → ℕ → Case
lengths_on date = lengths_by (participant_head date)

abbrev pub lengths : String → List (List ℕ) → ℕ → Case
lengths = lengths_on new_year

-- columns of two entries, 0 and 11, and the numbers of each column in turn
abbrev old : Columns
old =
    let two = encode (0 ∷ 11 ∷ []) in
    make_columns (replicate 7 two) two (replicate 3 two)

abbrev held : Columns → List ℕ
held c = flat_map decode (c.holdings ++ (c.price ∷ c.lines))

-- what is submitted, written into such columns: what they then hold, each number by its place and by its name, with the valuation date 12 and the letter 14
abbrev pub columns : String → List Row → List ℕ → List Line → List ℕ → Case
columns name rows prices lines expected =
    let c = filled (record { head = participant; rows = rows; prices = prices; lines = lines }) old in
    let numbers : Submission → List ℕ = λ s. flat_map (λ r. r.side ∷ r.kind ∷ r.issuer ∷ r.maturity ∷ r.value ∷ r.currency ∷ r.rating ∷ []) s.rows in
    let named : Submission → List ℕ = λ s. numbers s ++ s.prices ++ flat_map (λ l. l.long ∷ l.short ∷ l.amount ∷ []) s.lines ++ (s.head.date ∷ s.head.letter ∷ []) in
    record { name = name; computed = held c ++ named (submission (head 12 14) c); stated = expected }

-- what the exported check answers to columns that hold a book with its prices and lines, and lists that are as long as they need be
abbrev pub exported : Head → String → List Row → List ℕ → List Line → List ℕ → Case
exported h name rows prices lines expected =
    let list = zeros (8 * length rows) in
    let c = filled (record { head = h; rows = rows; prices = prices; lines = lines }) (make_columns (replicate 7 list) list (replicate 3 (zeros (8 * length lines)))) in
    record { name = name; computed = answer_numbers (outcome_of h c (make_lent list list (zeros 16))); stated = expected }

-- what a text leaves in a head's list and in such columns, with an answer slice of so many bytes
abbrev pub received : String → List ℕ → List ℕ → ℕ → List ℕ → Case
received name text list slice expected = record {
  name = name;
  computed = column (heading text list old (zeros slice)) list ++ held (filled (filling text list old (zeros slice)) old);
  stated = expected;
}

-- what is answered of a text whose LEIs are asked for, with a list and an answer slice of so many bytes, and what it leaves in the list, which held nines
abbrev pub names : String → List ℕ → ℕ → ℕ → List ℕ → List ℕ → Case
names name text list slice expected bytes = record {
  name = name;
  computed = answer_numbers (naming_answer text (replicate list 9) (zeros slice)) ++ front (naming text (replicate list 9) (zeros slice)) (replicate list 9);
  stated = expected ++ bytes;
}

-- an answer slice after 16 at long 1 and short 2 was put into it
abbrev pub slice : String → List ℕ → List ℕ → Case
slice name old expected = record { name = name; computed = answered (make_answer 16 1 2) old; stated = expected }

-- what the reader answers to a text and to what is lent: columns of so many bytes, each of several, a head's list and an answer slice
abbrev pub answers : String → List (List ℕ) → List ℕ → ℕ → ℕ → List ℕ → Case
answers name sizes text list slice expected = record {
  name = name;
  computed = flat_map (λ z. answer_numbers (reading_answer text (zeros list) (blank z) (zeros slice))) sizes;
  stated = flat_map (λ _. expected) sizes;
}

-- a D with its date and its letter, a participant's, and that of document 01's cases; an H of a currency and a rating, one of a currency, one in CAD, and a
-- corporation's in CAD by its rating; and a P, by the other fields that are filled: the empty ones follow, and CRLF
abbrev pub D_by : String → String → List ℕ
D_by date letter = ascii "D," ++ ascii date ++ ascii "," ++ ascii letter ++ ascii ",,,,,,\r\n"

abbrev pub D_of : String → List ℕ
D_of date = D_by date "P"

abbrev pub D : List ℕ
D = D_of "2025-01-01"

abbrev pub empty_fields : List ℕ
empty_fields = ascii ",,,,,"

abbrev pub H_by : String → String → String → List ℕ
H_by currency rating filled = ascii "H," ++ ascii filled ++ ascii "," ++ ascii currency ++ ascii "," ++ ascii rating ++ ascii "\r\n"

abbrev pub H_in : String → String → List ℕ
H_in currency filled = H_by currency "" filled

abbrev pub H : String → List ℕ
H filled = H_in "CAD" filled

abbrev pub H_rated : String → String → List ℕ
H_rated rating filled = H_by "CAD" rating filled

abbrev pub P : String → List ℕ
P filled = ascii "P," ++ ascii filled ++ empty_fields ++ ascii "\r\n"

-- a record without its CRLF
abbrev pub unended : List ℕ → List ℕ
unended text = take (length text - 2) text

-- side, kind, issuer, maturity, value, currency, rating; a row in CAD without a rating; and the same in another currency, and of a rating
abbrev whole : ℕ → ℕ → ℕ → ℕ → ℕ → ℕ → ℕ → Row
whole side kind issuer maturity value currency rating = record {
  side = side;
  kind = kind;
  issuer = issuer;
  maturity = maturity;
  value = value;
  currency = currency;
  rating = rating;
}

abbrev pub row : ℕ → ℕ → ℕ → ℕ → ℕ → Row
row side kind issuer maturity value = whole side kind issuer maturity value 0 2

abbrev pub of : ℕ → Row → Row
of currency r = whole r.side r.kind r.issuer r.maturity r.value currency r.rating

abbrev pub rated : ℕ → Row → Row
rated rating r = whole r.side r.kind r.issuer r.maturity r.value r.currency rating

-- the letters and codes of the file's fields
abbrev pub L : ℕ
L = 0

abbrev pub S : ℕ
S = 1

abbrev pub B : ℕ
B = 0

abbrev pub C : ℕ
C = 1

abbrev pub R : ℕ
R = 2

abbrev pub CA : ℕ
CA = 0

abbrev pub ON : ℕ
ON = 7

abbrev pub QC : ℕ
QC = 9

abbrev pub US : ℕ
US = 11

abbrev pub GB : ℕ
GB = 12

abbrev pub CAD : ℕ
CAD = 0

abbrev pub USD : ℕ
USD = 1

abbrev pub GBP : ℕ
GBP = 2

abbrev pub Y : ℕ
Y = 0

abbrev pub N : ℕ
N = 1

abbrev pub none : ℕ
none = 2

-- the file's book, and its lines by the first amount
abbrev pub file : List Row
file = row L C CA 20300624 1000000 ∷ row S B CA 20300624 600000 ∷ row S R ON 20300624 300000 ∷ []

abbrev pub file_lines : ℕ → List Line
file_lines amount = line 0 1 amount ∷ line 0 2 300000 ∷ []

-- the days of terms within a year, each from a valuation date to a maturity: four times as many are a Canada bond's rate
abbrev pub days : String → List (ℕ × ℕ) → List ℕ → Case
days name terms expected = record {
  name = name;
  computed = flat_map (λ t. alone (participant_head t.0) (row L B CA t.1 100)) terms;
  stated = flat_map (λ n. 0 ∷ 4 * n ∷ []) expected;
}
