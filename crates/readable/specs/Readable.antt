-- Document 01, "The file", and document 02 b) and e), the record D, and d), the numbers of corporations: a file that is read, in the words of the paper and of
-- RFC 4180's grammar. Assumes nothing.
use mathlib.Core.{Path.◌≡◌, Logic.◌↔◌, Logic.◌≢◌, List.List, List.[], List.◌∷◌, List.◌++◌, List.map}
use Rattle.std.specs.Prelude.{ℕ, ◌+◌, ◌≤◌, ◌<◌, length, get_or, set}
use Rattle.lists.specs.Tables.{ascii}
use Rattle.dates.specs.Text.{date_text}
use Rattle.holding.specs.Holding.{head_numbers}
use Rattle.holding.specs.declared.{Head.Head, Row.Row}
use Rattle.pairing.specs.declared.Line.{Line}
use Rattle.proposal.specs.Submission.{Submission, no_row, priced_numbers, line_numbers}
use Rattle.article.specs.Answer.{make_answer}
use Rattle.lei.specs.Lei.{IsLei, lei_text}
use Rattle.codes.specs.Codes.{Named}
use Rattle.rfc4180.specs.Grammar.{File}
use Rattle.layout.specs.Layout.{issuers, corporation, IsRecord}
use Rattle.reader.specs.File.{parsed_in, submission_of, leis_of, file_fault}

-- the text of the issuer in an H, its fourth field
abbrev pub issuer_text : List (List ℕ) → List ℕ
issuer_text r = get_or r 3 []

-- an issuer by its text, after the LEIs that are known: its value in the layout, its number, and the LEIs that are known then. A government has the number of
-- its code; an LEI that is known has 100 and its place among them; a new one has 100 and how many are known, and joins them
pub data Issued : List (List ℕ) → List ℕ → ℕ → ℕ → List (List ℕ) → Type 0 where
  government : {known : List (List ℕ)} {t : List ℕ} {v : ℕ} → Named t issuers v → Issued known t v v known
  known_corporation : {known : List (List ℕ)} {t : List ℕ} {k : ℕ} → IsLei t → Named t known k → Issued known t corporation (100 + k) known
  new_corporation : {known : List (List ℕ)} {t : List ℕ} → IsLei t → ((k : ℕ) → k < length known → get_or known k [] ≢ t)
      → Issued known t corporation (100 + length known) (known ++ (t ∷ []))

-- records each a good H, with the row and the price of its holding; the LEIs that are known before them, and after
pub data AreHoldings : List (List ℕ) → List (List (List ℕ)) → List Row → List ℕ → List (List ℕ) → Type 0 where
  no_holdings : {known : List (List ℕ)} → AreHoldings known [] [] [] known
  holding_and : {known then leis : List (List ℕ)} {r : List (List ℕ)} {row : Row} {price v : ℕ} {rs : List (List (List ℕ))} {rows : List Row} {prices : List ℕ}
      → IsRecord 1 r (set (priced_numbers row price) 2 v) → Issued known (issuer_text r) v row.issuer then → AreHoldings then rs rows prices leis
      → AreHoldings known (r ∷ rs) (row ∷ rows) (price ∷ prices) leis

-- records each a good P, with its line
pub data AreLines : List (List (List ℕ)) → List Line → Type 0 where
  no_lines : AreLines [] []
  line_and : {r : List (List ℕ)} {line : Line} {rs : List (List (List ℕ))} {lines : List Line} → IsRecord 2 r (line_numbers line) → AreLines rs lines → AreLines (r ∷ rs) (line ∷ lines)

-- a text that submits these: up to 65,536 bytes of RFC 4180 records, one good D and after it each a good H or P, all H before all P, at most 256 and 512; and the
-- LEIs of its corporations in the order of their numbers
pub record Submits (text : List ℕ) (s : Submission) : Type 0 where
  pub head : List (List ℕ)
  pub holdings : List (List (List ℕ))
  pub lines : List (List (List ℕ))
  pub leis : List (List ℕ)
  pub short : length text ≤ 65536
  pub rendering : File text (head ∷ (holdings ++ lines))
  pub valued : IsRecord 0 head (head_numbers s.head)
  pub each_holding : AreHoldings [] holdings s.rows s.prices leis
  pub each_line : AreLines lines s.lines
  pub few-holdings : length s.rows ≤ 256
  pub few-lines : length s.lines ≤ 512

-- the fields of a D after its letter, in the paper's words: the valuation date as YYYY-MM-DD, and `P` or `C`, which are 0 and 1
pub record HeadTexts (r : List (List ℕ)) (h : Head) : Type 0 where
  pub date : get_or r 1 [] ≡ date_text h.date
  pub letter : h.letter ≤ 1
  pub participant : h.letter ≡ 0 → get_or r 2 [] ≡ ascii "P"
  pub client : h.letter ≡ 1 → get_or r 2 [] ≡ ascii "C"

-- the issuer of holding i: its text, and its number
abbrev pub text_at : List (List (List ℕ)) → ℕ → List ℕ
text_at records i = issuer_text (get_or records i [])

abbrev pub number_at : List Row → ℕ → ℕ
number_at rows i = (get_or rows i no_row).issuer

-- numbers by first appearance, of records and the rows of their holdings, without a list of what is known
pub record ByFirst (records : List (List (List ℕ))) (rows : List Row) (i : ℕ) : Type 0 where
  -- a corporation has a number from 100 on, and no other issuer has
  pub corporate : (100 ≤ number_at rows i) ↔ IsLei (text_at records i)
  -- of two corporations, the same number exactly for the same LEI
  pub same : (j : ℕ) → j < length rows → 100 ≤ number_at rows i → 100 ≤ number_at rows j → (number_at rows i ≡ number_at rows j) ↔ (text_at records i ≡ text_at records j)
  -- an LEI that stands in no record before has a number above all before it
  pub above : 100 ≤ number_at rows i → ((j : ℕ) → j < i → text_at records j ≢ text_at records i) → (j : ℕ) → j < i → number_at rows j < number_at rows i
  -- and no number is left out: all from 100 on below one stand before it
  pub next : (n : ℕ) → 100 ≤ n → n < number_at rows i → (j : ℕ) × (j < i) × (number_at rows j ≡ n)

-- a text is not refused exactly when it submits what is read from it, and it submits nothing else; an empty one is refused with 22 at place 0
pub record ReadExactly (text : List ℕ) : Type 0 where
  pub read : ((file_fault text).number ≡ 0) ↔ Submits text (submission_of (parsed_in text))
  pub only : (s : Submission) → Submits text s → s ≡ submission_of (parsed_in text)
  pub empty : text ≡ [] → file_fault text ≡ make_answer 22 0 0
  pub head : (s : Submission) (h : Submits text s) → HeadTexts h.head s.head
  -- corporations are numbered by first appearance, and their LEIs are those that are read
  pub numbered : (s : Submission) (h : Submits text s) (i : ℕ) → i < length s.rows → ByFirst h.holdings s.rows i
  pub leis : (s : Submission) (h : Submits text s) → h.leis ≡ map lei_text (leis_of (parsed_in text))
  -- an LEI stands at the place of its number
  pub lei : (s : Submission) (h : Submits text s) (i k : ℕ) → i < length s.rows → number_at s.rows i ≡ 100 + k → Named (text_at h.holdings i) h.leis k
