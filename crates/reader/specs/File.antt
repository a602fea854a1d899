-- Document 01, "Reader order: 18; each record in turn 19 to 22, then 3 or 9 if it is one too many; after all records 2", and document 02 b) and e), the record D, and
-- d), the numbers of corporations. Assumes nothing.
use mathlib.Core.{Path.◌≡◌, Logic.◌≢◌, Bool.Bool, Bool.true, Bool.false, Bool.cond, Bool.not, Bool.◌&&◌, List.List, List.[], List.◌∷◌, List.◌++◌, List.map}
use Rattle.std.specs.Prelude.{ℕ, zero, suc, ◌+◌, ◌-◌, ◌*◌, ◌≤◌, ◌<◌, Option, Some, None, Result, Ok, Err}
use lib.{Dec.ltb, Dec.eqb, ListN.length, ListN.get_or, ListN.set, ListN.take}
use Rattle.lists.specs.{Choice.first_of, Tables.in_turn}
use Rattle.holding.specs.Holding.{head_by}
use Rattle.holding.specs.declared.Head.{Head}
use Rattle.article.specs.Answer.{Answer, make_answer}
use Rattle.proposal.specs.Submission.{Submission, priced_row, row_price, line_by}
use Rattle.refusals.specs.Refusals.{number_of}
use Rattle.refusals.specs.declared.Refusal.{Refusal}
use Rattle.proposal.specs.declared.Fault.{Fault}
use Rattle.rfc4180.specs.Reading.{field_count, records_of}
use Rattle.lei.specs.{Lei.make_lei, Numbering.first_place, Numbering.enter, declared.Lei.Lei}
use Rattle.layout.specs.Layout.{corporation, issuer_in, Meaning, good, refused, parse, may_follow}
use Rattle.columns.specs.Columns.{Entered}
use Rattle.reader.specs.declared.Contents.{Contents}

-- the records of a text, parsed, up to the first that is outside the grammar
unfoldable pub parsed_in : List ℕ → List Meaning
parsed_in text = map parse (records_of text)

-- the values of the good records of letter k, in the order of the records
unfoldable pub values_by : ℕ → List Meaning → List (List ℕ)
values_by k [] = []
values_by k (good letter vs ∷ rest) = cond (eqb letter k) (vs ∷ values_by k rest) (values_by k rest)
values_by k (refused number ∷ rest) = values_by k rest

-- the LEI among the values of an H, behind those of its fields
abbrev pub lei_in : List ℕ → Lei
lei_in vs = make_lei (get_or vs (field_count - 1) 0) (get_or vs field_count 0)

-- the number of its issuer: of a corporation 100 and the place of its LEI among those known, where a new one is to join
unfoldable pub issuer_number : List Lei → List ℕ → ℕ
issuer_number known vs = cond (eqb (issuer_in vs) corporation) (100 + first_place (lei_in vs) known) (issuer_in vs)

-- the LEIs that are known after it
unfoldable pub known_after : List Lei → List ℕ → List Lei
known_after known vs = cond (eqb (issuer_in vs) corporation) (enter known (lei_in vs)) known

-- an H with the number of its issuer
abbrev pub with_number : List Lei → List ℕ → List ℕ
with_number known vs = set vs 2 (issuer_number known vs)

-- all of them one after another, and the LEIs that are known after all, in the order of their numbers
unfoldable pub numbered_from : List Lei → List (List ℕ) → List (List ℕ)
numbered_from known [] = []
numbered_from known (vs ∷ rest) = with_number known vs ∷ numbered_from (known_after known vs) rest

unfoldable pub leis_from : List Lei → List (List ℕ) → List Lei
leis_from known [] = known
leis_from known (vs ∷ rest) = leis_from (known_after known vs) rest

-- the values of the H, numbered from nothing known, and the LEIs of their corporations
unfoldable pub holdings_of : List Meaning → List (List ℕ)
holdings_of parsed = numbered_from [] (values_by 1 parsed)

unfoldable pub leis_of : List Meaning → List Lei
leis_of parsed = leis_from [] (values_by 1 parsed)

-- what they submit: of the first D the head, of each H a holding's row and its price, of each P a line
unfoldable pub submission_of : List Meaning → Submission
submission_of parsed = record {
  head = head_by (get_or (values_by 0 parsed) 0 []);
  rows = map priced_row (holdings_of parsed);
  prices = map row_price (holdings_of parsed);
  lines = map line_by (values_by 2 parsed);
}

-- what a text submits by its records, and the LEIs of its corporations in the order of their numbers
abbrev pub submission_in : List ℕ → Submission
submission_in text = submission_of (parsed_in text)

abbrev pub leis_in : List ℕ → List Lei
leis_in text = leis_of (parsed_in text)

-- of record n, by the letter before it and the count of each letter before: 19 to 21 and 25, 22 a letter that may not follow, 3 more than 256 H, 9 more than 512 P
abbrev pub faults_of : ℕ → Option ℕ → (ℕ → ℕ) → Meaning → List (Bool × Answer)
faults_of n before count (refused number) = (true, make_answer number n 0) ∷ []
faults_of n before count (good letter vs) =
    (not (may_follow before letter), make_answer 22 n 0)
    ∷ (eqb letter 1 && eqb (count 1) 256, make_answer 3 0 0)
    ∷ (eqb letter 2 && eqb (count 2) 512, make_answer 9 0 0)
    ∷ []

-- the letter of a record, and the letter before record n
abbrev pub letter_of : Meaning → Option ℕ
letter_of (good letter vs) = Some letter
letter_of (refused number) = None

abbrev pub letter_before : List Meaning → ℕ → Option ℕ
letter_before parsed zero = None
letter_before parsed (suc n) = letter_of (get_or parsed n (refused 0))

unfoldable pub at_record : List Meaning → ℕ → List (Bool × Answer)
at_record parsed n = faults_of n (letter_before parsed n) (λ k. length (values_by k (take n parsed))) (get_or parsed n (refused 0))

-- the most bytes that a file may have
abbrev pub file_limit : ℕ
file_limit = 65536

-- 18 longer than 65,536 bytes; an empty file has no D, 22; each record in turn
unfoldable pub file_faults : List ℕ → List (Bool × Answer)
file_faults text =
    (ltb file_limit (length text), make_answer 18 0 0)
    ∷ (eqb (length text) 0, make_answer 22 0 0)
    ∷ in_turn (length (parsed_in text)) (at_record (parsed_in text))

-- the first of them that holds, number 0 for none
unfoldable pub file_fault : List ℕ → Answer
file_fault text = first_of (file_faults text) (make_answer 0 0 0)

-- what is answered of a text: the first refusal, 2 in its turn if `two`, a lent list is too short, or the answer to a text that is read
unfoldable pub answer_to : Bool → Answer → List ℕ → Answer
answer_to two read text = first_of (file_faults text ++ ((two, make_answer 2 0 0) ∷ [])) read

-- what the reader answers: of a text that is read the number of holdings and of lines
unfoldable pub read_answer : Bool → List ℕ → Answer
read_answer two text = answer_to two (make_answer 0 (length (submission_in text).rows) (length (submission_in text).lines)) text

-- the paper's number and values of what is read: 0 with the number of holdings and of lines, or the refusal's number with its places
abbrev pub contents_answer : Result Contents (Fault Refusal) → Answer
contents_answer (Ok c) = make_answer 0 c.holdings c.lines
contents_answer (Err f) = make_answer (number_of f.refusal) f.place f.second

abbrev pub make_contents : Head → ℕ → ℕ → ℕ → Contents
make_contents head holdings lines corporations = record { head = head; holdings = holdings; lines = lines; corporations = corporations }

-- a text is read for the number 0 of an answer and for no other, with the head and the count of corporations that were read
abbrev pub IsContents : Answer → Head → ℕ → Result Contents (Fault Refusal) → Type 0
IsContents a head corporations (Ok c) = (a.number ≡ 0) × (c ≡ make_contents head a.first a.second corporations)
IsContents a head corporations (Err f) = a.number ≢ 0

-- tables for a file: a column for each field of an H after its letter, three for a P, each with an entry for any record that the file can have; and a list
-- of LEIs, with an entry for any holding
pub record TableRoom (rows : ℕ) (text book lines : List ℕ) (known : List Lei) : Type 0 where
  pub whole_book : length book ≡ 8 * (rows * (field_count - 1))
  pub whole_lines : length lines ≡ 8 * (rows * 3)
  pub enough : rows < 512 → length text ≤ rows
  pub room : 256 ≤ length known

-- what numbering the issuer of an H promises, of its values and of the LEIs that are known
pub record NumbersIssuer (known after : List Lei) (vs vs' : List ℕ) : Type 0 where
  pub number : vs' ≡ with_number known vs
  pub entered : after ≡ known_after known vs

-- what reading a file into two tables promises; after a refusal what they hold is free
pub record ReadsFile (text : List ℕ) (rows : ℕ) (book lines book' lines' : List ℕ) (known' : List Lei) (r : Result Contents (Fault Refusal)) : Type 0 where
  -- the first refusal in the reader's order, or the counts
  pub answer : contents_answer r ≡ read_answer false text
  -- read is a case of its own, and has the head of what is submitted
  pub contents : IsContents (read_answer false text) (submission_in text).head (length (leis_in text)) r
  -- the values of each H, with the number of its issuer, and of each P, are in the columns of their tables
  pub each_holding : (contents_answer r).number ≡ 0 → Entered (field_count - 1) rows (holdings_of (parsed_in text)) book book'
  pub each_line : (contents_answer r).number ≡ 0 → Entered 3 rows (values_by 2 (parsed_in text)) lines lines'
  -- the LEIs of the corporations are in their list, no more than 256
  pub each_lei : (contents_answer r).number ≡ 0 → take (length (leis_in text)) known' ≡ leis_in text
  pub few_leis : (contents_answer r).number ≡ 0 → length (leis_in text) ≤ 256
